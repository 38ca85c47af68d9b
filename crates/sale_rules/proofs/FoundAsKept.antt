-- What an item finds in parts that stand for a kept register is what it finds in the register.
use Rattle.std.proofs.Common.{◌≡◌, ℕ, Bool, false, cond, not, ◌&&◌, nat_lt, nat_le, List, [], ◌∷◌, Contains, IsTrue, None, is_some, map, option_map, slice_get, refl, sym, ap, subst, ◌∙◌, ⊎_elim, arith}
use Rattle.std.specs.List.{list_any}
use Rattle.std.specs.Option.{option_map_or}
use Rattle.std.proofs.lemmas.List.Elements.{Contains-append_right}
use Rattle.gb_base.specs.RightNo.{RightNo, same_right}
use Rattle.gb_base.specs.declared.keys.Key.{Key}
use Rattle.gb_base.specs.declared.keys.Key.TheVariants.{Case, Right, Title}
use Rattle.gb_base.specs.declared.sections.Section.TheVariants as section
use Rattle.gb_base.proofs.Members.{In}
use Rattle.gb_base.proofs.SameRights.{right_is}
use Rattle.act_model.specs.Acts.{is_in_division_three}
use Rattle.act_model.specs.Receiving.{IsJournal}
use Rattle.act_model.specs.SaleKeys.{earlier_rights, keys_of_sale}
use Rattle.act_model.specs.declared.receipts.Receipt.{Receipt}
use Rattle.act_model.specs.declared.sales.Basis.{Basis}
use Rattle.act_model.specs.declared.sales.Basis.TheVariants as basis
use Rattle.act_model.specs.declared.sales.Registration.{Registration}
use Rattle.act_model.specs.declared.sales.Registration.TheVariants as registration
use Rattle.folio_sections.specs.Cases.{award, is_running, seizure_numbers, seizures}
use Rattle.folio_sections.specs.Fronts.{below}
use Rattle.folio_sections.specs.Limits.{most_seizures}
use Rattle.folio_sections.specs.Rights.{created, is_conversion, is_full, is_full_form, live_right}
use Rattle.folio_sections.specs.Titles.{is_open}
use Rattle.folio_sections.specs.declared.entries.Created.{Created}
use Rattle.folio_sections.specs.declared.entries.Entry.{Entry}
use Rattle.folio_sections.specs.declared.entries.RightForm.TheVariants as form
use Rattle.folio_sections.proofs.FilteredLists.{of_any}
use Rattle.kept_registers.specs.Kept.{Kept}
use Rattle.kept_registers.specs.Standing.{StandsFor}
use Rattle.auction_classes.specs.Sales.{Sale, sale_at}
use Rattle.auction_classes.proofs.KeptSales.{below_twice}
use Rattle.auction_classes.proofs.PartsRead.{parts_read_alike}
use Rattle.sale_rules.specs.SaleGrounds.{first_ground, is_seizable, refusal_of_distribution, refusal_of_registration, refusal_of_seizure}
use Rattle.sale_rules.specs.SaleMoney.{money, money_awarded}
use Rattle.sale_rules.specs.inner.Arrears.{fills_case}
use Rattle.sale_rules.specs.inner.SalesRead.{found_at, sale_read}

-- ---- the keys

in_contained : {X : Type 0} (f : RightNo → X) (ids : List RightNo) (id : RightNo) → In id ids → Contains (map f ids) (f id)
in_contained f [] id there = absurd there
in_contained f (x ∷ xs) id there =
    ⊎_elim (λ same. (0, omega arith, ap f same)) (λ more. Contains-append_right (f x ∷ []) (map f xs) (f id) (in_contained f xs id more)) there

-- the key of an earlier right is one of the sale
pub right_key : (journal : List Receipt) (item folio : ℕ) (id : RightNo) → In id (earlier_rights journal item folio) → Contains (keys_of_sale journal item folio) (Right folio id)
right_key journal item folio id there =
    Contains-append_right (Case folio ∷ Title folio ∷ []) (map (Right folio) (earlier_rights journal item folio)) (Right folio id)
    (in_contained (Right folio) (earlier_rights journal item folio) id there)

pub case_key : (journal : List Receipt) (item folio : ℕ) → Contains (keys_of_sale journal item folio) (Case folio)
case_key journal item folio = (0, omega arith, refl)

pub title_key : (journal : List Receipt) (item folio : ℕ) → Contains (keys_of_sale journal item folio) (Title folio)
title_key journal item folio = (1, omega arith, refl)

-- ---- what is found

pub found_as_kept : (holds : Key → Bool) (at register : Key → List Entry) (item : ℕ) (k : Key) → StandsFor holds at register → IsTrue (holds k)
    → found_at holds at item k ≡ below item (register k)
found_as_kept holds at register item k stands held = ap (λ b. below item (cond b (at k) [])) held ∙ ap (below item) (stands k held)

-- a right that was never created cannot be seized from
never_seizable : (es : List Entry) → created es ≡ None → is_seizable es ≡ false
never_seizable es none =
    let full : is_full es ≡ false = ap (λ o. is_full_form (option_map (λ (made : Created). cond (list_any (λ (e : Entry). is_conversion e.what) es) form.Full made.form) o)) none in
    ap (λ b. b && option_map_or (λ (made : Created). is_in_division_three made.spec.kind) (live_right es) false) full

-- The parts stand for this kept register, and hold the keys of the sale.
pub record StandsKept (journal : List Receipt) (holds : Key → Bool) (at register : Key → List Entry) (folio item : ℕ) : Type 0 where
  pub received : IsJournal journal
  pub stands : StandsFor holds at register
  pub kept : Kept journal register
  pub held : (k : Key) → Contains (keys_of_sale journal item folio) k → IsTrue (holds k)

-- a right can be seized from as the parts have it exactly where it can be as the register has it
pub seizable_as_kept : (journal : List Receipt) (holds : Key → Bool) (at register : Key → List Entry) (folio item : ℕ) (id : RightNo) → StandsKept journal holds at register folio item
    → is_seizable (found_at holds at item (Right folio id)) ≡ is_seizable (below item (register (Right folio id)))
seizable_as_kept journal holds at register folio item id s =
    let k = Right folio id in
    let twice = below_twice item item (register k) (omega arith) in
    ⊎_elim
    (λ same. ap is_seizable (sym same ∙ twice))
    (λ none. never_seizable (found_at holds at item k) none.1 ∙ sym (never_seizable (below item (register k)) (ap created (sym twice) ∙ none.0)))
    (parts_read_alike journal register holds at folio item item s.kept s.received (omega arith) s.stands
    (λ right among.
    let there = of_any (same_right right) (earlier_rights journal item folio) among in
    s.held (Right folio right) (right_key journal item folio right (subst (λ y. In y (earlier_rights journal item folio)) (sym (right_is right there.0 there.2)) there.1)))
    id)

-- ---- grounds

seizure_read_as_kept : (journal : List Receipt) (holds : Key → Bool) (at register : Key → List Entry) (folio item : ℕ) (b : Basis) → StandsKept journal holds at register folio item
    → refusal_of_seizure (sale_read journal holds at folio item) b ≡ refusal_of_seizure (sale_at journal register folio item) b
seizure_read_as_kept journal holds at register folio item (basis.Personal creditor claim) s =
    let title = found_as_kept holds at register item (Title folio) s.stands (s.held (Title folio) (title_key journal item folio)) in
    let case = found_as_kept holds at register item (Case folio) s.stands (s.held (Case folio) (case_key journal item folio)) in
    λ i. first_ground
    ((not (is_open (title i)), section.Gbo3) ∷ (is_some (award (case i)), section.Zvg81) ∷ (nat_le most_seizures (seizures (case i)), section.Limit)
    ∷ (false, section.Bgb873) ∷ (false, section.Zvg23) ∷ [])
seizure_read_as_kept journal holds at register folio item (basis.FromRight right) s =
    let title = found_as_kept holds at register item (Title folio) s.stands (s.held (Title folio) (title_key journal item folio)) in
    let case = found_as_kept holds at register item (Case folio) s.stands (s.held (Case folio) (case_key journal item folio)) in
    let seizable = seizable_as_kept journal holds at register folio item right s in
    λ i. first_ground
    ((not (is_open (title i)), section.Gbo3) ∷ (is_some (award (case i)), section.Zvg81) ∷ (nat_le most_seizures (seizures (case i)), section.Limit)
    ∷ (not (seizable i), section.Bgb873)
    ∷ (option_map_or (λ first. nat_lt first right.receipt) (slice_get (seizure_numbers (case i)) 0) false, section.Zvg23) ∷ [])

pub seizure_as_kept : (seen : Sale) (journal : List Receipt) (holds : Key → Bool) (at register : Key → List Entry) (folio item : ℕ) (b : Basis) → seen ≡ sale_read journal holds at folio item
    → StandsKept journal holds at register folio item → refusal_of_seizure seen b ≡ refusal_of_seizure (sale_at journal register folio item) b
seizure_as_kept seen journal holds at register folio item b is s = ap (λ x. refusal_of_seizure x b) is ∙ seizure_read_as_kept journal holds at register folio item b s

-- The parts stand for this register, and hold the case, which is the one key of a registration.
pub record CaseKept (holds : Key → Bool) (at register : Key → List Entry) (folio : ℕ) : Type 0 where
  pub stands : StandsFor holds at register
  pub held : IsTrue (holds (Case folio))

pub registration_as_kept : (seen : Sale) (journal : List Receipt) (holds : Key → Bool) (at register : Key → List Entry) (folio item : ℕ) (r : Registration) → seen ≡ sale_read journal holds at folio item
    → CaseKept holds at register folio → refusal_of_registration seen r ≡ refusal_of_registration (sale_at journal register folio item) r
registration_as_kept seen journal holds at register folio item r is s =
    let case = found_as_kept holds at register item (Case folio) s.stands s.held in
    ap (λ x. refusal_of_registration x r) is
    ∙ as_fills journal holds at folio item r
    ∙ (λ i. first_ground ((not (is_running (case i)), section.Zvg15) ∷ (fills_case journal (case i) r, section.Limit) ∷ []))
    ∙ sym (of_fills journal register folio item r)
  where
    as_fills : (journal : List Receipt) (holds : Key → Bool) (at : Key → List Entry) (folio item : ℕ) (r : Registration)
        → refusal_of_registration (sale_read journal holds at folio item) r
        ≡ first_ground ((not (is_running (found_at holds at item (Case folio))), section.Zvg15) ∷ (fills_case journal (found_at holds at item (Case folio)) r, section.Limit) ∷ [])
    as_fills journal holds at folio item (registration.Advance person amount) = refl
    as_fills journal holds at folio item (registration.PublicCharge person amount due) = refl
    as_fills journal holds at folio item (registration.Arrears right from until) = refl

    of_fills : (journal : List Receipt) (register : Key → List Entry) (folio item : ℕ) (r : Registration)
        → refusal_of_registration (sale_at journal register folio item) r
        ≡ first_ground ((not (is_running (below item (register (Case folio)))), section.Zvg15) ∷ (fills_case journal (below item (register (Case folio))) r, section.Limit) ∷ [])
    of_fills journal register folio item (registration.Advance person amount) = refl
    of_fills journal register folio item (registration.PublicCharge person amount due) = refl
    of_fills journal register folio item (registration.Arrears right from until) = refl

pub distribution_as_kept : (seen : Sale) (journal : List Receipt) (holds : Key → Bool) (at register : Key → List Entry) (folio item : ℕ) → seen ≡ sale_read journal holds at folio item
    → CaseKept holds at register folio → refusal_of_distribution seen ≡ refusal_of_distribution (sale_at journal register folio item)
distribution_as_kept seen journal holds at register folio item is s =
    let case = found_as_kept holds at register item (Case folio) s.stands s.held in
    ap refusal_of_distribution is ∙ (λ i. first_ground ((not (is_running (case i)), section.Zvg15) ∷ (not (is_some (award (case i))), section.Zvg113) ∷ []))

pub money_as_kept : (seen : Sale) (journal : List Receipt) (holds : Key → Bool) (at register : Key → List Entry) (folio item : ℕ) → seen ≡ sale_read journal holds at folio item
    → CaseKept holds at register folio → money seen ≡ money (sale_at journal register folio item)
money_as_kept seen journal holds at register folio item is s =
    ap money is
    ∙ ap (λ es. option_map_or (money_awarded (sale_at journal register folio item)) (award es) 0) (found_as_kept holds at register item (Case folio) s.stands s.held)
