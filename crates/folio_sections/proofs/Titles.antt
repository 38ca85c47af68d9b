-- What a title keeps, with one entry more.
use Rattle.std.proofs.Common.{◌≡◌, ℕ, zero, suc, ◌+◌, ◌≤◌, Bool, true, false, cond, if◌then◌else◌, ◌||◌, nat_lt, List, [], ◌∷◌, ◌++◌, Option, Some, None, drop, fold, is_some, length, refl, sym, ap, subst, ◌∙◌, ⊎_elim, arith}
use Rattle.std.specs.List.{list_any}
use Rattle.std.proofs.lemmas.Bool.{cases_Bool, false≢true}
use Rattle.std.proofs.lemmas.Bool.Decides.{nat_tests}
use Rattle.std.proofs.lemmas.List.{drop-append-le}
use Rattle.std.proofs.lemmas.List.Folds.{list_any-append}
use Rattle.std.proofs.lemmas.List.Sums.{fold-append}
use Rattle.act_model.specs.declared.land.Inventory.{Inventory}
use Rattle.folio_sections.specs.Titles.{inventory_by, is_award_owner, is_opening, owners, owners_by}
use Rattle.folio_sections.specs.declared.entries.Entry.{Entry}
use Rattle.folio_sections.specs.declared.entries.What.{What}
use Rattle.folio_sections.specs.declared.entries.What.TheVariants as what
use Rattle.folio_sections.specs.inner.Listed.{Listed}
use Rattle.folio_sections.specs.inner.Naming.{AreNamedAt}
use Rattle.folio_sections.specs.inner.States.{IsLastAward, IsTitle, award_by, stands_behind}
use Rattle.folio_sections.proofs.Naming.{length_push, named_push, unnamed_push}

or_nothing : (b : Bool) → (b || false) ≡ b
or_nothing true = refl
or_nothing false = refl

or_all : (b : Bool) → (b || true) ≡ true
or_all true = refl
or_all false = refl

pub any_push : (p : Entry → Bool) (xs : List Entry) (e : Entry) → list_any p (xs ++ e ∷ []) ≡ (list_any p xs || p e)
any_push p xs e = list_any-append p xs (e ∷ []) ∙ ap (λ b. list_any p xs || b) (or_nothing (p e))

-- a content that names owners names those after it, and any other leaves them
named_then : (before : Option (List ℕ)) (w : What) → is_some (owners_by None w) ≡ true → owners_by before w ≡ owners_by None w
named_then before (what.Opened inventory people) is = refl
named_then before (what.Owner people) is = refl
named_then before (what.AwardOwner buyer) is = refl
named_then before other is = absurd (false≢true is)

unnamed_then : (before : Option (List ℕ)) (w : What) → is_some (owners_by None w) ≡ false → owners_by before w ≡ before
unnamed_then before (what.Opened inventory people) is = absurd (false≢true (sym is))
unnamed_then before (what.Owner people) is = absurd (false≢true (sym is))
unnamed_then before (what.AwardOwner buyer) is = absurd (false≢true (sym is))
unnamed_then before other is = refl

owners_push : (ns : List ℕ) (xs : List Entry) (e : Entry) → AreNamedAt owners (owners_by None) ns xs
    → AreNamedAt owners (owners_by None) (if is_some (owners_by None e.what) then ns ++ length xs ∷ [] else ns) (xs ++ e ∷ [])
owners_push ns xs e are =
    let more : owners (xs ++ e ∷ []) ≡ owners_by (owners xs) e.what = fold-append (λ o f. owners_by o f.what) None xs (e ∷ []) in
    elim (is_some (owners_by None e.what)) as (λ b. is_some (owners_by None e.what) ≡ b → AreNamedAt owners (owners_by None) (cond b (ns ++ length xs ∷ []) ns) (xs ++ e ∷ [])) [
      | true ↦ λ names. named_push owners (owners_by None) ns xs e are (more ∙ named_then (owners xs) e.what names)
      | false ↦ λ names. unnamed_push owners (owners_by None) ns xs e are (more ∙ unnamed_then (owners xs) e.what names)
    ] refl

-- ---- the last award's owner

award_then : (b : ℕ) (last : Option ℕ) (w : What) → is_award_owner w ≡ true → award_by b last w ≡ Some b
award_then b last (what.AwardOwner buyer) is = refl
award_then b last other is = absurd (false≢true is)

no_award_then : (b : ℕ) (last : Option ℕ) (w : What) → is_award_owner w ≡ false → award_by b last w ≡ last
no_award_then b last (what.AwardOwner buyer) is = absurd (false≢true (sym is))
no_award_then b last other is = refl

dropped_all : (n : ℕ) (xs : List Entry) → length xs ≤ n → drop n xs ≡ []
dropped_all zero [] few = refl
dropped_all zero (x ∷ xs) few = absurd (omega arith)
dropped_all (suc n) [] few = refl
dropped_all (suc n) (x ∷ xs) few = dropped_all n xs (omega arith)

award_push : (last : Option ℕ) (xs : List Entry) (e : Entry) → IsLastAward last xs → IsLastAward (award_by (length xs) last e.what) (xs ++ e ∷ [])
award_push last xs e is = λ n.
    let len = length_push xs e in
    ⊎_elim
    (λ ahead.
    let among : n + 1 ≤ length xs = grind (arith, nat_tests, ahead) in
    ap (list_any (λ f. is_award_owner f.what)) (drop-append-le (n + 1) xs (e ∷ []) among)
    ∙ any_push (λ f. is_award_owner f.what) (drop (n + 1) xs) e
    ∙ elim (is_award_owner e.what) as (λ b. is_award_owner e.what ≡ b → (list_any (λ f. is_award_owner f.what) (drop (n + 1) xs) || b) ≡ stands_behind n (award_by (length xs) last e.what)) [
      | true ↦ λ award. or_all (list_any (λ f. is_award_owner f.what) (drop (n + 1) xs)) ∙ sym ahead ∙ ap (stands_behind n) (sym (award_then (length xs) last e.what award))
      | false ↦ λ none. or_nothing (list_any (λ f. is_award_owner f.what) (drop (n + 1) xs)) ∙ is n ∙ ap (stands_behind n) (sym (no_award_then (length xs) last e.what none))
    ] refl)
    (λ behind.
    let past : length xs ≤ n = grind (arith, nat_tests, behind) in
    let few : length xs ≤ n + 1 = omega arith in
    ap (list_any (λ f. is_award_owner f.what)) (dropped_all (n + 1) (xs ++ e ∷ []) (omega arith))
    ∙ elim (is_award_owner e.what) as (λ b. is_award_owner e.what ≡ b → false ≡ stands_behind n (award_by (length xs) last e.what)) [
      | true ↦ λ award. sym behind ∙ ap (stands_behind n) (sym (award_then (length xs) last e.what award))
      | false ↦ λ none. sym (ap (list_any (λ f. is_award_owner f.what)) (dropped_all (n + 1) xs few)) ∙ is n ∙ ap (stands_behind n) (sym (no_award_then (length xs) last e.what none))
    ] refl)
    (cases_Bool (nat_lt n (length xs)))

pub title_push : (before after : Listed) (e : Entry) (is_opened : Bool) (parcel : Option Inventory) (last : Option ℕ) (b : ℕ)
    (is_opened' : Bool) (parcel' : Option Inventory) (last' : Option ℕ) → IsTitle before is_opened parcel last
    → after.entries ≡ before.entries ++ e ∷ []
    → after.naming ≡ (if is_some (owners_by None e.what) then before.naming ++ length before.entries ∷ [] else before.naming)
    → b ≡ length before.entries
    → is_opened' ≡ (is_opened || is_opening e.what) → parcel' ≡ inventory_by parcel e.what → last' ≡ award_by b last e.what
    → IsTitle after is_opened' parcel' last'
title_push before after e is_opened parcel last b is_opened' parcel' last' is more naming len opens parcels awards = record {
  opened = opens ∙ ap (λ o. o || is_opening e.what) is.opened ∙ sym (any_push (λ f. is_opening f.what) before.entries e) ∙ ap (list_any (λ f. is_opening f.what)) (sym more);
  inventory = parcels ∙ ap (λ o. inventory_by o e.what) is.inventory ∙ sym (fold-append (λ o f. inventory_by o f.what) None before.entries (e ∷ [])) ∙ ap (fold (λ o f. inventory_by o f.what) None) (sym more);
  award = subst (λ xs. IsLastAward last' xs) (sym more)
      (subst (λ a. IsLastAward a (before.entries ++ e ∷ [])) (sym (awards ∙ ap (λ n. award_by n last e.what) len)) (award_push last before.entries e is.award));
  owners = subst (λ xs. AreNamedAt owners (owners_by None) after.naming xs) (sym more)
      (subst (λ ns. AreNamedAt owners (owners_by None) ns (before.entries ++ e ∷ [])) (sym naming) (owners_push before.naming before.entries e is.owners));
}
