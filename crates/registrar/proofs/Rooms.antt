-- Where the keys of a filing have room for its entry, there is room for the entry, for the end of its waiting and for its interim order.
use Rattle.std.proofs.Common.{◌≡◌, ℕ, ◌+◌, ◌≤◌, Bool, true, false, cond, List, ◌++◌, length, Contains, Option, None, refl, sym, subst, arith}
use Rattle.gb_base.specs.declared.keys.Key.{Key}
use Rattle.act_model.proofs.KeyOrder.{has, has_decides}
use Rattle.act_model.specs.Receiving.{IsJournal}
use Rattle.act_model.specs.Touches.{keys_of_filing}
use Rattle.act_model.specs.declared.receipts.Receipt.{Receipt}
use Rattle.entry_rules.proofs.Room.{room_for_all}
use Rattle.folio_sections.specs.Adding.{HasRoom}
use Rattle.entry_rules.specs.Entering.{entered}
use Rattle.registrar.specs.Enters.{enters}
use Rattle.interim_orders.specs.Notices.{notices_brought, with_notices}
use Rattle.folio_sections.specs.Waiting.{waiting_unnoticed}
use Rattle.folio_sections.specs.Entries.{at as at_key}
use Rattle.folio_sections.specs.declared.entries.Entry.{Entry}
use Rattle.folio_sections.proofs.Additions.{length-at}
use Rattle.interim_orders.proofs.Room.{marks_fit, notices_fit}
use Rattle.interim_orders.specs.Orders.{end_brought}
use Rattle.interim_orders.specs.inner.Marks.{marks}
use Rattle.registrar.specs.inner.RoomToEnter.{HasRoomToEnter}

-- a number at each of these keys, and 0 elsewhere
abbrev only_at : List Key → (Key → ℕ) → Key → ℕ
only_at keys n k = cond (has k keys) (n k) 0

at_its_keys : (keys : List Key) (n : Key → ℕ) (k : Key) → Contains keys k → n k ≤ only_at keys n k
at_its_keys keys n k there = subst (λ b. n k ≤ cond b (n k) 0) (sym ((has_decides k keys).1 there)) (omega arith)

-- How many entries come at each key, at most, by the entry of filing m and the end of its waiting.
record Counts (journal : List Receipt) (m i : ℕ) (at : Key → List Entry) : Type 0 where
  notices : HasRoom (only_at (keys_of_filing journal m) (λ k. length (waiting_unnoticed m (at k)))) (notices_brought journal m i at)
  entered : HasRoom (only_at (keys_of_filing journal m) (λ k. 2)) (entered journal m i (with_notices journal m i at))
  ended : HasRoom (only_at (keys_of_filing journal m) (λ k. 1)) (end_brought journal m i)

counted : (journal : List Receipt) (m i : ℕ) (at : Key → List Entry) → IsJournal journal → Counts journal m i at
counted journal m i at stands = record {
  notices = notices_fit journal m i at (only_at (keys_of_filing journal m) (λ k. length (waiting_unnoticed m (at k)))) (at_its_keys (keys_of_filing journal m) (λ k. length (waiting_unnoticed m (at k))));
  entered = room_for_all journal m i (with_notices journal m i at) (λ k. has k (keys_of_filing journal m)) (only_at (keys_of_filing journal m) (λ k. 2)) stands
      (λ k there. (has_decides k (keys_of_filing journal m)).1 there)
      (λ k there. subst (λ b. 2 ≤ cond b 2 0) (sym there) (omega arith));
  ended = marks_fit journal m i None (only_at (keys_of_filing journal m) (λ k. 1)) (at_its_keys (keys_of_filing journal m) (λ k. 1));
}

-- what is brought at a key is no more than the room there
within : (n room : ℕ) (b : Bool) (a c e : ℕ) → a ≤ cond b n 0 → c ≤ cond b 2 0 → e ≤ cond b 1 0 → (b ≡ true → 3 + n ≤ room) → a + (c + e) ≤ room
within n room true a c e ha hc he roomy = let wide = roomy refl in omega arith
within n room false a c e ha hc he roomy = omega arith

-- there is room for all that a cure brings that enters filing m
pub cure_fits : (journal : List Receipt) (m i : ℕ) (at : Key → List Entry) (room : Key → ℕ) → IsJournal journal → HasRoomToEnter journal m at room → HasRoom room (enters journal m i at ++ end_brought journal m i)
cure_fits journal m i at room stands roomy k =
    let counts = counted journal m i at stands in
    let notices = notices_brought journal m i at in
    let contents = entered journal m i (with_notices journal m i at) in
    let ended = end_brought journal m i in
    let outer = length-at (notices ++ contents) ended k in
    let inner = length-at notices contents k in
    let all = within (length (waiting_unnoticed m (at k))) (room k) (has k (keys_of_filing journal m)) (length (at_key notices k)) (length (at_key contents k)) (length (at_key ended k))
    (counts.notices k) (counts.entered k) (counts.ended k) (λ there. roomy k ((has_decides k (keys_of_filing journal m)).0 there)) in
    omega arith

-- there is room for the entry alone
pub entry_fits : (journal : List Receipt) (m i : ℕ) (at : Key → List Entry) (room : Key → ℕ) → IsJournal journal → HasRoomToEnter journal m at room → HasRoom room (enters journal m i at)
entry_fits journal m i at room stands roomy k =
    let all = cure_fits journal m i at room stands roomy k in
    let both = length-at (enters journal m i at) (end_brought journal m i) k in
    omega arith

-- there is room for one entry at each key of the filing
pub marks_fit_too : (journal : List Receipt) (m i : ℕ) (until : Option ℕ) (at : Key → List Entry) (room : Key → ℕ) → HasRoomToEnter journal m at room → HasRoom room (marks journal m i until)
marks_fit_too journal m i until at room roomy = marks_fit journal m i until room (λ k there. let wide = roomy k there in omega arith)
