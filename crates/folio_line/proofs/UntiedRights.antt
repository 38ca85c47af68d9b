-- A right that shares its group with no other act of its filing has no other placed right in its place.
use Rattle.std.proofs.Common.{◌≡◌, ℕ, zero, suc, ◌+◌, ◌-◌, Bool, true, false, eqb, not, ◌&&◌, List, [], ◌∷◌, IsSomeAnd, Option, Some, None, is_some, option_and_then, refl, sym, ap, subst, ◌∙◌, ⊎_elim, arith}
use Rattle.std.specs.List.{enumerate_from, list_any, slice_get}
use Rattle.std.specs.Option.{option_map_or}
use Rattle.std.proofs.lemmas.Bool.{and_from, and_parts, cases_Bool, eq-eqb, eqb-true, false≢true, or_left, or_right}
use Rattle.std.proofs.lemmas.Bool.Decides.{nat_tests}
use Rattle.std.proofs.lemmas.Option.{same_Some}
use Rattle.act_model.specs.Acts.{folio_of, right_created}
use Rattle.act_model.specs.Touches.{act_at, filing_at}
use Rattle.act_model.specs.WellFormed.{same_group, share_group}
use Rattle.act_model.specs.declared.filing_acts.Act.{Act}
use Rattle.act_model.specs.declared.items.Filing.{Filing}
use Rattle.act_model.specs.declared.receipts.Receipt.{Receipt}
use Rattle.act_model.specs.Groups.{has_equal, shares_its_group}
use Rattle.kept_registers.specs.KeptRights.{IsAsFiled}
use Rattle.folio_sections.specs.declared.entries.Created.{Created}
use Rattle.folio_line.specs.FolioRights.{has_same_place}
use Rattle.folio_line.specs.declared.folio_rights.CreatedRight.{CreatedRight}
use Rattle.folio_line.proofs.CreatedRights.{IsCreatedHere, IsNumbered, numbered}
use Rattle.folio_line.proofs.PlacedDistinct.{has_same_number}

-- ---- acts of one group

-- an act of the list under its number passes
any_numbered : (p : ℕ × Act → Bool) (a : ℕ) (acts : List Act) (i : ℕ) (act : Act) → slice_get acts i ≡ Some act → p (a + i, act) ≡ true → list_any p (enumerate_from a acts) ≡ true
any_numbered p a [] i act there passes = absurd (false≢true (ap is_some there))
any_numbered p a (x ∷ acts) zero act there passes =
    let same : a + 0 ≡ a = omega arith in
    or_left (p (a, x)) (list_any p (enumerate_from (a + 1) acts)) ((λ i. p (sym same i, same_Some x act there i)) ∙ passes)
any_numbered p a (x ∷ acts) (suc i) act there passes =
    or_right (p (a, x)) (list_any p (enumerate_from (a + 1) acts)) (any_numbered p (a + 1) acts i act there (subst (λ k. p (k, act) ≡ true) (omega arith) passes))

-- where acts k and l create rights of one group in the folio, act k shares its group
shared_by : (f : Filing) (k l folio : ℕ) (made other : Created) (a b : Act) → IsAsFiled folio made a → IsNumbered f.acts l b → IsAsFiled folio other b → eqb l k ≡ false → eqb made.spec.group other.spec.group ≡ true → has_equal f.acts k a ≡ true
shared_by f k l folio made other a b first number second apart same =
    let share : share_group a b ≡ true =
    and_from (eqb (folio_of a) (folio_of b)) (same_group (right_created a) (right_created b)) (eq-eqb (folio_of a) (folio_of b) (first.there ∙ sym second.there)) ((λ i. same_group (first.spec i) (second.spec i)) ∙ same) in
    let from = number.from in
    let back : l ≡ 1 + (l - 1) = omega (arith, from) in
    any_numbered (λ numbered. not (eqb numbered.0 k) && share_group a numbered.1) 1 f.acts (l - 1) b number.there
    (and_from (not (eqb (1 + (l - 1)) k)) (share_group a b) (ap (λ n. not (eqb n k)) (sym back) ∙ ap not apart) share)

-- where two acts of a filing, if there is one, create rights of one group in the folio, the first of them shares its group
shared_in : (o : Option Filing) (k l folio : ℕ) (made other : Created) → IsSomeAnd (option_and_then (λ f. act_at f k) o) (IsAsFiled folio made) → IsSomeAnd (option_and_then (λ f. act_at f l) o) (IsAsFiled folio other)
    → eqb l k ≡ false → eqb made.spec.group other.spec.group ≡ true → option_map_or (λ f. option_map_or (has_equal f.acts k) (act_at f k) false) o false ≡ true
shared_in None k l folio made other first second apart same = absurd first
shared_in (Some f) k l folio made other first second apart same =
    elim (act_at f k) as (λ o. IsSomeAnd o (IsAsFiled folio made) → option_map_or (has_equal f.acts k) o false ≡ true) [
      | None ↦ λ none. absurd none
      | Some a ↦ λ filed.
          elim (act_at f l) as (λ o. act_at f l ≡ o → IsSomeAnd o (IsAsFiled folio other) → has_equal f.acts k a ≡ true) [
            | None ↦ λ _ none. absurd none
            | Some b ↦ λ is also. shared_by f k l folio made other a b filed (numbered f.acts l b is) also apart same
          ] refl second
    ] first

-- ---- rights of one place

other_act : (x y : CreatedRight) → has_same_number x y ≡ false → eqb x.id.receipt y.id.receipt ≡ true → eqb y.id.act x.id.act ≡ false
other_act x y apart same = grind (arith, nat_tests)

pub untied_apart : (journal : List Receipt) (folio : ℕ) (x y : CreatedRight) → shares_its_group journal x.id ≡ false → IsCreatedHere journal folio x.id x.made → IsCreatedHere journal folio y.id y.made → has_same_number x y ≡ false
    → has_same_place x y ≡ false
untied_apart journal folio x y plain first second apart =
    ⊎_elim
    (λ same.
    let parts = and_parts (eqb x.id.receipt y.id.receipt) (eqb x.made.spec.group y.made.spec.group) same in
    let filing = eqb-true x.id.receipt y.id.receipt parts.0 in
    let there : IsSomeAnd (option_and_then (λ f. act_at f y.id.act) (filing_at journal x.id.receipt)) (IsAsFiled folio y.made) =
    subst (λ m. IsSomeAnd (option_and_then (λ f. act_at f y.id.act) (filing_at journal m)) (IsAsFiled folio y.made)) (sym filing) second.filed in
    absurd (false≢true (sym plain ∙ shared_in (filing_at journal x.id.receipt) x.id.act y.id.act folio x.made y.made first.filed there (other_act x y apart parts.0) parts.1)))
    (λ other. other)
    (cases_Bool (has_same_place x y))
