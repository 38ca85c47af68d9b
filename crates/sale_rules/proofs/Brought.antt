-- What an item brings where it is refused, and where it is let in.
use Rattle.std.proofs.Common.{◌≡◌, ℕ, ◌≤◌, true, false, cond, List, [], ◌∷◌, length, Option, Some, None, refl, sym, subst, ◌∙◌, arith}
use Rattle.gb_base.specs.Keys.{same_key}
use Rattle.gb_base.specs.declared.keys.Key.{Key}
use Rattle.act_model.proofs.KeyOrder.{same_is}
use Rattle.folio_sections.specs.Adding.{AddsList, HasRoom}
use Rattle.folio_sections.specs.declared.entries.Entry.{Entry}
use Rattle.folio_sections.proofs.Additions.{adds_none}
use Rattle.sale_rules.specs.SaleEntries.{unless_refused}

-- an item that is refused brings nothing
pub brings_none : {R : Type 0} (at0 : Key → List Entry) (room0 : Key → ℕ) (o : Option R) (why : R) (entries : List Entry) → Some why ≡ o
    → AddsList at0 at0 room0 room0 (unless_refused o entries)
brings_none at0 room0 o why entries is = subst (λ p. AddsList at0 at0 room0 room0 (unless_refused p entries)) is (adds_none at0 room0)

-- an item that is let in brings its entries
pub brings_all : {R : Type 0} (at0 at1 : Key → List Entry) (room0 room1 : Key → ℕ) (o : Option R) (entries : List Entry) → None ≡ o
    → AddsList at0 at1 room0 room1 entries → AddsList at0 at1 room0 room1 (unless_refused o entries)
brings_all at0 at1 room0 room1 o entries is added = subst (λ p. AddsList at0 at1 room0 room1 (unless_refused p entries)) is added

-- an item that is let in and has one entry brings that entry
pub brings_one : {R : Type 0} (at0 at1 : Key → List Entry) (room0 room1 : Key → ℕ) (o : Option R) (made entry : Entry) → None ≡ o → made ≡ entry
    → AddsList at0 at1 room0 room1 (made ∷ []) → AddsList at0 at1 room0 room1 (unless_refused o (entry ∷ []))
brings_one at0 at1 room0 room1 o made entry is same added =
    brings_all at0 at1 room0 room1 o (entry ∷ []) is (subst (λ e. AddsList at0 at1 room0 room1 (e ∷ [])) same added)

-- a key that has room for one entry has room for this one
pub one_fits : (room : Key → ℕ) (e : Entry) (key : Key) → e.key ≡ key → 1 ≤ room key → HasRoom room (e ∷ [])
one_fits room e key own roomy k =
    elim (same_key e.key k) as (λ b. same_key e.key k ≡ b → length (cond b (e ∷ []) []) ≤ room k) [
      | true ↦ λ same. subst (λ j. 1 ≤ room j) (sym own ∙ same_is e.key k same) roomy
      | false ↦ λ _. omega arith
    ] refl
