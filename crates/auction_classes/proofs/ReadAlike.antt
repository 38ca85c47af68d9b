-- Two readings of the rights of a folio that differ only where neither reads a right.
use Rattle.std.proofs.Common.{◌≡◌, ℕ, ◌⊎◌, Bool, true, false, cond, ◌&&◌, List, [], ◌∷◌, filter_map, flat_map, map, Option, Some, None, is_some, option_map, refl, sym, ap, ◌∙◌, ⊎_elim}
use Rattle.std.specs.List.{AllByRecursion}
use Rattle.std.proofs.lemmas.Bool.{false≢true}
use Rattle.gb_base.specs.RightNo.{RightNo}
use Rattle.gb_base.specs.declared.keys.Key.{Key}
use Rattle.gb_base.specs.declared.keys.Key.TheVariants.{Right}
use Rattle.act_model.specs.declared.sales.Basis.{Basis}
use Rattle.act_model.specs.declared.sales.Basis.TheVariants as basis
use Rattle.folio_sections.specs.HeldRights.{receipt_numbers, rights_of_filing}
use Rattle.folio_sections.specs.Rights.{created, is_full, is_full_form, is_live}
use Rattle.folio_sections.specs.declared.entries.Created.{Created}
use Rattle.folio_sections.specs.declared.entries.Entry.{Entry}
use Rattle.folio_sections.specs.declared.entries.RightForm.{RightForm}
use Rattle.folio_line.specs.FolioRights.{by_group, is_live_with, live_rights, right_where, rights_where}
use Rattle.folio_line.specs.declared.folio_rights.CreatedRight.{CreatedRight}
use Rattle.auction_classes.specs.SaleClaims.{is_basis_standing}

-- both read the same, or neither reads a right
abbrev pub AreAlike : List Entry → List Entry → Type 0
AreAlike x y = (x ≡ y) ⊎ ((created x ≡ None) × (created y ≡ None))

abbrev pub ReadAlike : ℕ → (Key → List Entry) → (Key → List Entry) → Type 0
ReadAlike folio at other = (id : RightNo) → AreAlike (at (Right folio id)) (other (Right folio id))

-- where one reads a right the other reads the same
pub same_right_read : (x y : List Entry) (made : Created) → AreAlike x y → created y ≡ Some made → x ≡ y
same_right_read x y made alike is = ⊎_elim (λ same. same) (λ none. absurd (false≢true (ap is_some (sym none.1 ∙ is)))) alike

one_or_none : {X : Type 0} (b : Bool) (o : Option X) → o ≡ None → cond b o None ≡ None
one_or_none true o none = none
one_or_none false o none = refl

pub same_where : (holds : RightNo → List Entry → Bool) (at other : Key → List Entry) (folio : ℕ) → ReadAlike folio at other → (id : RightNo) → right_where holds at folio id ≡ right_where holds other folio id
same_where holds at other folio alike id =
    let k = Right folio id in
    let the : Option Created → Option CreatedRight = λ o. option_map (λ made. record { id = id; made = made }) o in
    ⊎_elim (λ same. ap (λ es. the (cond (holds id es) (created es) None)) same)
    (λ none. ap the (one_or_none (holds id (at k)) (created (at k)) none.0 ∙ sym (one_or_none (holds id (other k)) (created (other k)) none.1))) (alike id)

-- the rights of which a test holds are the same
pub same_rights_where : (holds : RightNo → List Entry → Bool) (at other : Key → List Entry) (folio : ℕ) → ReadAlike folio at other → rights_where holds at folio ≡ rights_where holds other folio
same_rights_where holds at other folio alike = λ i. flat_map (λ m. by_group (filter_map (λ id. same_where holds at other folio alike id i) (rights_of_filing m))) receipt_numbers

-- the live rights are the same
pub same_live : (at other : Key → List Entry) (folio : ℕ) → ReadAlike folio at other → live_rights at folio ≡ live_rights other folio
same_live at other folio alike = same_rights_where is_live_with at other folio alike

form_of_none : (f : Created → RightForm) (o : Option Created) → o ≡ None → is_full_form (option_map f o) ≡ false
form_of_none f None none = refl
form_of_none f (Some made) none = absurd (false≢true (sym (ap is_some none)))

pub never_full : (es : List Entry) → created es ≡ None → is_full es ≡ false
never_full es none = form_of_none _ (created es) none

and_false : (a b : Bool) → b ≡ false → (a && b) ≡ false
and_false true b is = is
and_false false b is = refl

-- a basis stands in both or in neither
pub same_standing : (at other : Key → List Entry) (folio : ℕ) → ReadAlike folio at other → (b : Basis)
    → is_basis_standing (λ id. at (Right folio id)) b ≡ is_basis_standing (λ id. other (Right folio id)) b
same_standing at other folio alike (basis.Personal creditor claim) = refl
same_standing at other folio alike (basis.FromRight right) =
    let x = at (Right folio right) in
    let y = other (Right folio right) in
    ⊎_elim (λ same. ap (λ es. is_live es && is_full es) same)
    (λ none. and_false (is_live x) (is_full x) (never_full x none.0) ∙ sym (and_false (is_live y) (is_full y) (never_full y none.1))) (alike right)

-- where two functions make the same of each element they make the same of all
pub map_alike : {X Y : Type 0} (f g : X → Y) (xs : List X) → AllByRecursion (λ x. f x ≡ g x) xs → map f xs ≡ map g xs
map_alike f g [] each = refl
map_alike f g (x ∷ xs) each = λ i. each.0 i ∷ map_alike f g xs each.1 i
