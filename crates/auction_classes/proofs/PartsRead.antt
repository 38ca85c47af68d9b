-- Parts that stand for a kept register read the rights of a sale as the register has them.
use Rattle.std.proofs.Common.{◌≡◌, ℕ, ◌≤◌, inl, inr, Bool, true, false, cond, List, [], IsTrue, IsSome, Some, None, is_some, refl, sym, ap, ◌∙◌, arith}
use Rattle.std.proofs.lemmas.Bool.{false≢true}
use Rattle.gb_base.proofs.Members.{In}
use Rattle.gb_base.specs.RightNo.{RightNo}
use Rattle.gb_base.specs.declared.keys.Key.{Key}
use Rattle.gb_base.specs.declared.keys.Key.TheVariants.{Right}
use Rattle.act_model.specs.Receiving.{IsJournal}
use Rattle.act_model.specs.declared.receipts.Receipt.{Receipt}
use Rattle.folio_sections.specs.Fronts.{below}
use Rattle.folio_sections.specs.HeldRights.{right_numbers}
use Rattle.folio_sections.specs.Rights.{created}
use Rattle.folio_sections.specs.declared.entries.Created.{Created}
use Rattle.folio_sections.specs.declared.entries.Entry.{Entry}
use Rattle.folio_sections.proofs.FilteredLists.{in_all}
use Rattle.folio_sections.proofs.HeldRights.{in_right_numbers}
use Rattle.kept_registers.specs.Kept.{Kept}
use Rattle.folio_line.specs.AllRights.{is_among, rights_filed}
use Rattle.folio_line.specs.FolioReading.{read_at, where_held}
use Rattle.folio_line.proofs.AllRights.{filed_are_all}
use Rattle.folio_line.proofs.CreatedRights.{IsCreatedHere, is_in_ranges}
use Rattle.auction_classes.proofs.KeptSales.{below_twice, created_here}
use Rattle.auction_classes.proofs.ReadAlike.{AreAlike, ReadAlike}

-- a right that was created has a number that a right may have
pub numbered : (journal : List Receipt) (folio : ℕ) (id : RightNo) (made : Created) → IsJournal journal → IsCreatedHere journal folio id made → In id right_numbers
numbered journal folio id made stands here =
    let ranges = is_in_ranges journal folio id made stands here in
    in_right_numbers id (record {
      receipt_from = ranges.receipt_from;
      receipt_to = omega (arith, ranges.receipt_to, stands.few);
      act_from = ranges.act_from;
      act_to = ranges.act_to;
    })

-- a right that stood before receipt n is among those filed before it
pub among_filed : (journal : List Receipt) (register : Key → List Entry) (folio n a : ℕ) (id : RightNo) (made : Created) → Kept journal register → IsJournal journal → n ≤ a
    → created (below n (below a (register (Right folio id)))) ≡ Some made → is_among (rights_filed (Some n) journal folio) id ≡ true
among_filed journal register folio n a id made kept stands within is =
    let there = numbered journal folio id made stands (created_here journal register folio n a id made kept is) in
    let once = ap created (below_twice n a (register (Right folio id)) within) in
    in_all (λ k. IsSome (created (read_at (Some n) register (Right folio k))) → is_among (rights_filed (Some n) journal folio) k ≡ true) right_numbers id
    (filed_are_all (Some n) journal register folio kept).all there (ap is_some (sym once ∙ is))

-- Where the parts hold the rights that were filed before receipt n, a reading that stops there reads them as item a finds them.
pub parts_read_alike : (journal : List Receipt) (register : Key → List Entry) (holds : Key → Bool) (at : Key → List Entry) (folio n a : ℕ) → Kept journal register → IsJournal journal → n ≤ a
    → ((k : Key) → IsTrue (holds k) → at k ≡ register k)
    → ((id : RightNo) → is_among (rights_filed (Some n) journal folio) id ≡ true → holds (Right folio id) ≡ true)
    → ReadAlike folio (λ k. below n (below a (register k))) (read_at (Some n) (where_held holds at))
parts_read_alike journal register holds at folio n a kept stands within parts held id =
    let k = Right folio id in
    let entries = below n (below a (register k)) in
    elim (holds k) as (λ b. holds k ≡ b → AreAlike entries (below n (cond b (at k) []))) [
      | true ↦ λ here. inl (below_twice n a (register k) within ∙ ap (below n) (sym (parts k here)))
      | false ↦ λ apart. inr (
        elim (created entries) as (λ o. created entries ≡ o → o ≡ None) [
          | None ↦ λ _. refl
          | Some made ↦ λ is. absurd (false≢true (sym apart ∙ held id (among_filed journal register folio n a id made kept stands within is)))
        ] refl,
        refl,
      )
    ] refl
