-- What the step of an item finds where its turn has come, and what it leaves.
use Rattle.std.proofs.Common.{◌≡◌, ℕ, zero, suc, ◌+◌, ◌-◌, ◌<◌, ◌≤◌, Bool, true, false, cond, eqb, ◌==◌, List, [], ◌++◌, All, Contains, IsTrue, find, length, map, Some, option_map, sym, ap, subst, ◌∙◌, length-append, arith}
use Rattle.std.specs.List.{range_with_len}
use Rattle.std.proofs.lemmas.Bool.Decides.{nat_tests}
use Rattle.gb_base.specs.Keys.{folio_of_key}
use Rattle.gb_base.specs.declared.keys.Key.{Key}
use Rattle.act_model.specs.Receiving.{IsJournal}
use Rattle.act_model.specs.declared.receipts.Receipt.{Receipt}
use Rattle.conflict_queue.specs.ItemKeys.{keys_of_item}
use Rattle.folio_sections.specs.Adding.{AddsList}
use Rattle.folio_sections.specs.Entries.{at}
use Rattle.folio_sections.specs.declared.entries.Entry.{Entry}
use Rattle.kept_registers.specs.Kept.{Kept}
use Rattle.registrar.proofs.PermittedRuns.{as_first, as_first_is, firsts}
use Rattle.registrar.proofs.Registering.{left_by}
use Rattle.registrar.specs.Brings.{Brought, brings}
use Rattle.registrar.specs.HasSettled.{settled_first}
use Rattle.registrar.specs.RegisterState.{verdict_among}
use Rattle.registrar.specs.Rooms.{HasItsRoom, room_wanted}
use Rattle.registrar.specs.Settling.{registrar}
use Rattle.registrar.specs.StandingAwards.{StandsForKeptAwards}
use Rattle.registrar.specs.declared.verdicts.Verdict.{Verdict}
use Rattle.desk_pool.specs.FolioQueues.{touches_folio}
use Rattle.desk_pool.specs.FolioStates.{HasAllRoom, StandsAt}
use Rattle.desk_pool.specs.RoundRooms.{room_of_first}
use Rattle.desk_pool.proofs.NothingBetween.{at_next, nothing_between}
use Rattle.desk_pool.proofs.RoomsSuffice.{room_grows, room_suffices}
use Rattle.desk_pool.proofs.Turns.{key_untouched}

-- the number before an item's, and 1, is the item's number
number_back : (i : ℕ) → 1 ≤ i → (i - 1) + 1 ≡ i
number_back i low = omega (arith, low)

-- where no item after n and up to m touches the folio, its parts have at item m what they have at item n
pub stands_on : (journal : List Receipt) (folio n m : ℕ) (holds : Key → Bool) (stands : Key → List Entry) → IsJournal journal → Kept journal (λ k. []) → n ≤ m → ((i : ℕ) → n < i → i ≤ m → touches_folio journal folio i ≡ false)
    → ((k : Key) → IsTrue (holds k) → folio_of_key k ≡ folio) → StandsAt journal n holds stands → StandsAt journal m holds stands
stands_on journal folio n m holds stands numbered empty within none own before = λ k held.
    before k held ∙ sym (nothing_between journal k numbered empty n m within (λ i above most. key_untouched journal folio i k (own k held) (none i above most)))

-- all that an item's step asks of what it is lent
pub record CanStep (journal : List Receipt) (i : ℕ) (holds : Key → Bool) (stands : Key → List Entry) (room : Key → ℕ) : Type 0 where
  pub wide : HasItsRoom journal i stands room
  pub kept : StandsForKeptAwards journal holds stands
  pub earlier : (k : Key) → Contains (keys_of_item journal i) k → All (λ e. e.receipt < i) (stands k)

pub can_step : (journal : List Receipt) (i : ℕ) (holds : Key → Bool) (stands : Key → List Entry) (room : Key → ℕ) → IsJournal journal → Kept journal (λ k. []) → 1 ≤ i → i ≤ length journal
    → ((k : Key) → Contains (keys_of_item journal i) k → IsTrue (holds k)) → StandsAt journal (i - 1) holds stands → HasAllRoom journal holds stands room → CanStep journal i holds stands room
can_step journal i holds stands room numbered empty low high held there roomy =
    let left = left_by journal (i - 1) numbered empty in
    record {
      wide = λ k own.
          let suffices = room_suffices journal k numbered empty i low own in
          let grows = room_grows journal i (length journal) k high in
          let place = roomy k (held k own) in
          subst (λ es. room_wanted journal i es ≤ room k) (sym (there k (held k own)))
          (let fits = subst (λ es. room_of_first journal (length journal) k ≤ length es + room k) (there k (held k own)) place in omega (arith, suffices, grows, fits));
      kept = record {
        register = at (settled_first journal (i - 1)).entries;
        stands = there;
        kept = left.settled.kept;
        awards = left.settled.awards;
      };
      earlier = λ k own.
          subst (All (λ e. e.receipt < i)) (sym (there k (held k own)))
          (subst (λ m. All (λ e. e.receipt < m) (at (settled_first journal (i - 1)).entries k)) (number_back i low) (left.settled.earlier k));
    }

-- after the step the parts have what the one registrar leaves after the item
pub stands_behind : (journal : List Receipt) (i : ℕ) (holds : Key → Bool) (stands after : Key → List Entry) (room left : Key → ℕ) → 1 ≤ i
    → StandsAt journal (i - 1) holds stands → AddsList stands after room left (brings journal i (at (settled_first journal (i - 1)).entries)).entries → StandsAt journal i holds after
stands_behind journal i holds stands after room left low there added = λ k held.
    let brought : ℕ → List Entry = λ n. at (brings journal n (at (settled_first journal (i - 1)).entries)).entries k in
    added.there k
    ∙ ap (λ es. es ++ brought i) (there k held)
    ∙ ap (λ n. at (settled_first journal (i - 1)).entries k ++ brought n) (sym (number_back i low))
    ∙ sym (at_next journal (i - 1) k)
    ∙ ap (λ n. at (settled_first journal n).entries k) (number_back i low)

-- after the step the parts still have place for all that the journal's items enter
pub room_behind : (journal : List Receipt) (holds : Key → Bool) (stands after : Key → List Entry) (room left : Key → ℕ) (entries : List Entry)
    → HasAllRoom journal holds stands room → AddsList stands after room left entries → HasAllRoom journal holds after left
room_behind journal holds stands after room left entries roomy added = λ k held.
    let place = roomy k held in
    let less = added.room k in
    let more : length (after k) ≡ length (stands k) + length (at entries k) = ap length (added.there k) ∙ length-append (stands k) (at entries k) in
    omega (arith, place, less, more)

-- ---- the verdict

-- where each verdict follows from its number, each number of a row has its own verdict
verdict_at : (g : ℕ → Verdict) (a n d : ℕ) → d < n → verdict_among (map (λ j. (j, g j)) (range_with_len a n)) (a + d) ≡ Some (g (a + d))
verdict_at g a zero d within = absurd (omega (arith, within))
verdict_at g a (suc n) zero within =
    let same : eqb a (a + 0) ≡ true = grind (arith, nat_tests) in
    subst (λ b. option_map (λ (v : ℕ × Verdict). v.1) (cond b (Some (a, g a)) (find (λ v. v.0 == a + 0) (map (λ j. (j, g j)) (range_with_len (a + 1) n)))) ≡ Some (g (a + 0))) (sym same)
    (ap (λ m. Some (g m)) (omega arith))
verdict_at g a (suc n) (suc d) within =
    let other : eqb a (a + suc d) ≡ false = grind (arith, nat_tests) in
    let next : a + suc d ≡ (a + 1) + d = omega arith in
    subst (λ b. option_map (λ (v : ℕ × Verdict). v.1) (cond b (Some (a, g a)) (find (λ v. v.0 == a + suc d) (map (λ j. (j, g j)) (range_with_len (a + 1) n)))) ≡ Some (g (a + suc d))) (sym other)
    (ap (verdict_among (map (λ j. (j, g j)) (range_with_len (a + 1) n))) next ∙ verdict_at g (a + 1) n d (omega (arith, within)) ∙ ap (λ m. Some (g m)) (sym next))

-- what a step says of an item is the one registrar's verdict
pub verdict_said : (journal : List Receipt) (i : ℕ) (v : Verdict) → IsJournal journal → Kept journal (λ k. []) → 1 ≤ i → i ≤ length journal
    → v ≡ (brings journal i (at (settled_first journal (i - 1)).entries)).verdict → verdict_among (registrar journal).verdicts i ≡ Some v
verdict_said journal i v numbered empty low high is =
    let number : i ≡ 1 + (i - 1) = omega (arith, low) in
    let all = (firsts journal (length journal) numbered empty).verdicts in
    let those = verdict_at (λ j. (as_first journal j).verdict) 1 (length journal) (i - 1) (omega (arith, low, high)) in
    ap (λ vs. verdict_among vs i) all
    ∙ subst (λ m. verdict_among (map (λ j. (j, (as_first journal j).verdict)) (range_with_len 1 (length journal))) m ≡ Some (as_first journal m).verdict) (sym number) those
    ∙ ap (λ (b : Brought). Some b.verdict) (as_first_is journal i)
    ∙ ap (λ w. Some w) (sym is)
