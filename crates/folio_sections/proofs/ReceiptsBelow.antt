-- Where receipts never fall, those below a number stand before the others.
use Rattle.std.proofs.Common.{◌≡◌, ℕ, ◌-◌, ◌<◌, ◌≤◌, nat_le, nat_lt, true, false, List, get_or, slice_get, take, length, Some, sym, ap, ◌∙◌, ⊎_elim, arith}
use Rattle.std.specs.List.Sorted.{IsPartitionedBy}
use Rattle.std.proofs.lemmas.Bool.{cases_lt}
use Rattle.std.proofs.lemmas.Bool.Decides.{nat_tests}
use Rattle.std.proofs.lemmas.Option.{get_or_from_slice_get}
use Rattle.gb_base.proofs.Fronts.{front_passes}
use Rattle.folio_sections.specs.Fronts.{NeverFall, below}
use Rattle.folio_sections.specs.declared.entries.Entry.{Entry}

pub parted_receipts : (n : ℕ) (xs : List Entry) → NeverFall xs → IsPartitionedBy (λ e. nat_lt e.receipt n) xs
parted_receipts n xs rise = λ i j d order within passes.
    ⊎_elim
    (λ less. let earlier = rise i j d less within in grind (arith, nat_tests, passes, earlier))
    (λ not_less.
    let same : i ≡ j = omega arith in
    ap (λ k. nat_lt (get_or xs k d).receipt n) same ∙ passes)
    (cases_lt i j)

-- where the last is below a number, all are
pub all_below : (n : ℕ) (xs : List Entry) (last : Entry) → NeverFall xs → slice_get xs (length xs - 1) ≡ Some last → nat_le n last.receipt ≡ false
    → take (length xs) xs ≡ below n xs
all_below n xs last rise is less =
    front_passes (λ e. nat_lt e.receipt n) xs (length xs) (omega arith) pass (λ k d behind within. absurd (omega arith))
  where
    pass : (k : ℕ) (d : Entry) → 0 ≤ k → k < length xs → nat_lt (get_or xs k d).receipt n ≡ true
    pass k d low within =
        let there : get_or xs (length xs - 1) d ≡ last = get_or_from_slice_get xs (length xs - 1) last d is in
        let at_last : (get_or xs (length xs - 1) d).receipt ≡ last.receipt = ap (λ e. e.receipt) there in
        ⊎_elim
        (λ ahead. let earlier = rise k (length xs - 1) d ahead (omega arith) in grind (arith, nat_tests, less, earlier, at_last))
        (λ not_ahead.
        let same : length xs - 1 ≡ k = omega arith in
        let here : (get_or xs k d).receipt ≡ last.receipt = ap (λ i. (get_or xs i d).receipt) (sym same) ∙ at_last in
        grind (arith, nat_tests, less, here))
        (cases_lt k (length xs - 1))
