-- Whoever waits, at each key, for the item before it there takes the items in a permitted order, and the other way round.
use Rattle.std.proofs.Common.{◌≡◌, ℕ, zero, suc, ◌-◌, ◌<◌, ◌≤◌, true, List, [], ◌∷◌, ◌++◌, filter, AllPairs, Some, Contains, inl, inr, sym, ap, subst, ◌∙◌, ⊎_elim, append_assoc, arith}
use Rattle.std.specs.List.{range_with_len}
use Rattle.std.proofs.lemmas.Bool.{cases_eq, cases_lt}
use Rattle.gb_base.proofs.Members.{In, in_append_left, in_append_right, in_range, of_range}
use Rattle.gb_base.specs.declared.keys.Key.{Key}
use Rattle.act_model.proofs.KeyOrder.{has_decides}
use Rattle.act_model.specs.declared.receipts.Receipt.{Receipt}
use Rattle.conflict_queue.proofs.Fronts.{passing_ascend}
use Rattle.conflict_queue.specs.Dockets.{previous}
use Rattle.conflict_queue.specs.ItemKeys.{keys_of_item}
use Rattle.conflict_queue.specs.Schedules.{Conflicts, IsPermitted}
use Rattle.folio_sections.proofs.FilteredLists.{in_filter, of_filter}
use Rattle.registrar.proofs.PermittedOrders.{ahead_of, touches}
use Rattle.registrar.proofs.RisingNumbers.{contains_of_in, in_of_contains}
use Rattle.desk_pool.proofs.CutLists.{cut_at, last_in, last_is_greatest, pairs_by, stands_once}
use Rattle.desk_pool.specs.Turns.{WaitsInTurn}

-- ---- in a permitted order items wait

waits_there : (journal : List Receipt) (order before after : List ℕ) (i p : ℕ) (k : Key) → IsPermitted journal order → order ≡ before ++ i ∷ after → Contains (keys_of_item journal i) k
    → previous journal i k ≡ Some p → Contains before p
waits_there journal order before after i p k permitted is there last =
    let passed = of_filter (touches journal k) (range_with_len 1 (i - 1)) p (last_in p (filter (touches journal k) (range_with_len 1 (i - 1))) last) in
    let ahead = ahead_of journal before after i k (subst (IsPermitted journal) is permitted) ((has_decides k (keys_of_item journal i)).1 there) in
    contains_of_in before p (ahead.from p passed.1 passed.0)

-- ---- an order in which items wait is permitted

-- an order whose front is cut is cut itself
cut_again : (order before rest ahead behind : List ℕ) (p : ℕ) → order ≡ before ++ rest → before ≡ ahead ++ p ∷ behind → order ≡ ahead ++ p ∷ (behind ++ rest)
cut_again order before rest ahead behind p is cut = is ∙ ap (λ ns. ns ++ rest) cut ∙ append_assoc ahead (p ∷ behind) rest

in_front : (before ahead behind : List ℕ) (p j : ℕ) → before ≡ ahead ++ p ∷ behind → In j ahead → In j before
in_front before ahead behind p j cut there = subst (In j) (sym cut) (in_append_left ahead (p ∷ behind) j there)

module _ (journal : List Receipt) (order : List ℕ) (waits : WaitsInTurn journal order) (k : Key) where
  -- going down from item to item, each earlier one that touches the key stands before it in the order
  down : (most i j : ℕ) (before after : List ℕ) → i ≤ most → order ≡ before ++ i ∷ after → touches journal k i ≡ true → touches journal k j ≡ true → 1 ≤ j → j < i → In j before
  down zero i j before after within is here there low less = absurd (omega arith)
  down (suc most) i j before after within is here there low less =
      let earlier = range_with_len 1 (i - 1) in
      let found = last_is_greatest j 1 (filter (touches journal k) earlier) (passing_ascend (touches journal k) 1 (i - 1))
      (in_filter (touches journal k) earlier j (in_range 1 (i - 1) j low (omega arith)) there) in
      let p = found.last in
      let passed = of_filter (touches journal k) earlier p (last_in p (filter (touches journal k) earlier) found.is) in
      let range = of_range 1 (i - 1) p passed.0 in
      let ahead = in_of_contains before p (waits.waits before after i p k is ((has_decides k (keys_of_item journal i)).0 here) found.is) in
      let cut = cut_at p before ahead in
      ⊎_elim
      (λ further.
      let whole = cut_again order before (i ∷ after) cut.ahead cut.behind p is cut.is in
      in_front before cut.ahead cut.behind p j cut.is (down most p j cut.ahead (cut.behind ++ i ∷ after) (omega (arith, range.1, within, less)) whole passed.1 there low further))
      (λ last. subst (λ n. In n before) (omega (arith, last, found.from)) ahead)
      (cases_lt j p)

  smaller_ahead : (before after : List ℕ) (i later : ℕ) → order ≡ before ++ i ∷ after → In later after → Contains (keys_of_item journal i) k → Contains (keys_of_item journal later) k → i < later
  smaller_ahead before after i later is behind here there =
      let stands : In later order = subst (In later) (sym is) (in_append_right before (i ∷ after) later (inr behind)) in
      let low = ((waits.all later).0 (contains_of_in order later stands)).0 in
      let whole : order ≡ (before ++ i ∷ []) ++ after = is ∙ sym (append_assoc before (i ∷ []) after) in
      let once = subst (AllPairs (λ x y. x ≡ y → ⊥)) whole waits.once in
      let ahead : later ≤ i → In later (before ++ i ∷ []) = λ no_more.
      ⊎_elim
      (λ same. in_append_right before (i ∷ []) later (inl same))
      (λ unlike. in_append_left before (i ∷ []) later
      (down i i later before after (omega arith) is ((has_decides k (keys_of_item journal i)).1 here) ((has_decides k (keys_of_item journal later)).1 there) low (omega (arith, no_more, unlike))))
      (cases_eq i later) in
      ⊎_elim (λ less. less) (λ no_more. absurd (stands_once (before ++ i ∷ []) after later once (ahead no_more) behind)) (cases_lt i later)

pub permitted_waits : (journal : List Receipt) (order : List ℕ) → IsPermitted journal order → WaitsInTurn journal order
permitted_waits journal order permitted = record {
  all = permitted.all;
  once = permitted.once;
  waits = λ before after i p k is there last. waits_there journal order before after i p k permitted is there last;
}

pub waiting_permits : (journal : List Receipt) (order : List ℕ) → WaitsInTurn journal order → IsPermitted journal order
waiting_permits journal order waits = record {
  all = waits.all;
  once = waits.once;
  in_turn = pairs_by (λ i later. Conflicts journal i later → i < later) [] order
      (λ before after i later is behind conflict.
      smaller_ahead journal order waits conflict.1 before after i later is behind (conflict.0, conflict.2, conflict.3) conflict.4);
}
