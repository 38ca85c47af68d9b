-- The order of receipts is one in which the items of a journal may be settled.
use Rattle.std.proofs.Common.{◌≡◌, ◌↔◌, ℕ, ◌+◌, ◌-◌, ◌<◌, ◌≤◌, List, length, AllPairs, Contains, get_or, refl, subst, ◌∙◌, arith}
use Rattle.std.specs.List.{range_with_len}
use Rattle.std.proofs.lemmas.List.FromFn.{get_or-range_with_len, length-range_with_len}
use Rattle.act_model.specs.declared.receipts.Receipt.{Receipt}
use Rattle.conflict_queue.specs.Schedules.{in_receipt_order, IsPermitted}

-- of two numbers in a row the first is the smaller
rising : (n : ℕ) → AllPairs (λ i later. i < later) (range_with_len 1 n)
rising n i j d less within =
    let count = length-range_with_len 1 n in
    let first = get_or-range_with_len 1 n i d (omega arith) in
    let second = get_or-range_with_len 1 n j d (omega arith) in
    omega arith

-- which numbers stand in a row from 1
in_row : (n m : ℕ) → Contains (range_with_len 1 n) m ↔ (1 ≤ m) × (m ≤ n)
in_row n m = (
  λ there.
      let count = length-range_with_len 1 n in
      let within = there.1 in
      let here : get_or (range_with_len 1 n) there.0 m ≡ 1 + there.0 = get_or-range_with_len 1 n there.0 m (omega arith) in
      let same : get_or (range_with_len 1 n) there.0 m ≡ m = there.2 in
      (omega arith, omega arith),
  λ within.
      let low = within.0 in
      let high = within.1 in
      let count = length-range_with_len 1 n in
      let here : get_or (range_with_len 1 n) (m - 1) m ≡ 1 + (m - 1) = get_or-range_with_len 1 n (m - 1) m (omega arith) in
      let same : 1 + (m - 1) ≡ m = omega arith in
      (m - 1, omega arith, here ∙ same),
)

in_turn_to : (journal : List Receipt) (n : ℕ) → n ≡ length journal → IsPermitted journal (range_with_len 1 n)
in_turn_to journal n is = record {
  all = λ m. subst (λ l. Contains (range_with_len 1 n) m ↔ (1 ≤ m) × (m ≤ l)) is (in_row n m);
  once = λ i j d less within same. let rises = rising n i j d less within in omega arith;
  in_turn = λ i j d less within conflict. rising n i j d less within;
}

pub receipts_in_turn : (journal : List Receipt) → IsPermitted journal (in_receipt_order journal)
receipts_in_turn journal = in_turn_to journal (length journal) refl
