-- The list of open folios after a step.
use Rattle.std.proofs.Common.{◌≡◌, ◌↔◌, ℕ, ◌<◌, Bool, true, false, cond, eqb, not, ◌&&◌, ◌||◌, List, [], ◌∷◌, ◌++◌, Some, None, filter, filter_map, AllPairs, Contains, ◌==◌, arith, refl, sym, ap, subst, ◌∙◌, ⊎_elim, inl, inr}
use Rattle.std.specs.List.{cons_option}
use Rattle.std.proofs.lemmas.Bool.{eqb-true, false≢true, or_cases, or_right}
use Rattle.std.proofs.lemmas.Bool.Decides.{nat_tests}
use Rattle.std.proofs.lemmas.List.Folds.{list_any-append}
use Rattle.gb_base.proofs.Members.{In}
use Rattle.gb_base.specs.Keys.{same_key}
use Rattle.gb_base.specs.declared.keys.Key.{Key}
use Rattle.gb_base.specs.declared.keys.Key.TheVariants.{Title, Right, Case}
use Rattle.folio_sections.specs.Held.{is_given}
use Rattle.folio_sections.specs.Titles.{is_open}
use Rattle.folio_sections.specs.declared.entries.Entry.{Entry}
use Rattle.registrar.proofs.RisingNumbers.{contains_of_in, in_of_contains}
use Rattle.registrar.specs.inner.Listed.{AreListed, closed_folio_of_title, is_listed}
use Rattle.registrar.specs.inner.OpenFolios.{AreOpenFolios}

-- ---- tests and lists

number_itself : (n : ℕ) → eqb n n ≡ true
number_itself n = grind (arith, nat_tests)

pub listed_in : (folios : List ℕ) (f : ℕ) → is_listed folios f ≡ true → In f folios
listed_in [] f is = absurd (false≢true is)
listed_in (g ∷ gs) f is = ⊎_elim (λ same. inl (eqb-true g f same)) (λ later. inr (listed_in gs f later)) (or_cases (g == f) (is_listed gs f) is)

pub in_listed : (folios : List ℕ) (f : ℕ) → In f folios → is_listed folios f ≡ true
in_listed [] f there = absurd there
in_listed (g ∷ gs) f there =
    ⊎_elim
    (λ same. subst (λ n. (eqb n f || is_listed gs f) ≡ true) (sym same) (ap (λ b. b || is_listed gs f) (number_itself f)))
    (λ later. or_right (eqb g f) (is_listed gs f) (in_listed gs f later))
    there

-- the same folios in another list
pub listed_alike : (folios others : List ℕ) (f : ℕ) → (Contains others f ↔ Contains folios f) → is_listed others f ≡ is_listed folios f
listed_alike folios others f alike =
    elim (is_listed folios f) as (λ b. is_listed folios f ≡ b → is_listed others f ≡ b) [
      | true ↦ λ is. in_listed others f (in_of_contains others f (alike.1 (contains_of_in folios f (listed_in folios f is))))
      | false ↦ λ is. elim (is_listed others f) as (λ b. is_listed others f ≡ b → b ≡ false) [
        | true ↦ λ there. sym (in_listed folios f (in_of_contains folios f (alike.0 (contains_of_in others f (listed_in others f there))))) ∙ is
        | false ↦ λ _. refl
      ] refl
    ] refl

pub open_in_order : (folios : List ℕ) (at : Key → List Entry) → AllPairs (λ folio later. folio < later) folios → AreListed folios at → AreOpenFolios folios at
open_in_order folios at up listed = record {
  ascending = up;
  members = λ f. (
    λ among. sym (listed f) ∙ in_listed folios f (in_of_contains folios f among),
    λ is. contains_of_in folios f (listed_in folios f (listed f ∙ is)),
  );
}

-- ---- what a step opens

listed_filter : (p : ℕ → Bool) (folios : List ℕ) (f : ℕ) → is_listed (filter p folios) f ≡ (is_listed folios f && p f)
listed_filter p [] f = refl
listed_filter p (g ∷ gs) f =
    elim (eqb g f) as (λ b. eqb g f ≡ b → is_listed (filter p (g ∷ gs)) f ≡ ((b || is_listed gs f) && p f)) [
      | true ↦ λ is. first (listed_filter p gs f) (eqb-true g f is)
      | false ↦ λ is. elim (p g) as (λ b. is_listed (cond b (g ∷ filter p gs) (filter p gs)) f ≡ (is_listed gs f && p f)) [
        | true ↦ ap (λ b. b || is_listed (filter p gs) f) is ∙ listed_filter p gs f
        | false ↦ listed_filter p gs f
      ]
    ] refl
  where
    tested : (b : Bool) → (b && false) ≡ false
    tested true = refl
    tested false = refl

    first : is_listed (filter p gs) f ≡ (is_listed gs f && p f) → g ≡ f → is_listed (filter p (g ∷ gs)) f ≡ p f
    first later same =
        elim (p g) as (λ b. p g ≡ b → is_listed (cond b (g ∷ filter p gs) (filter p gs)) f ≡ p f) [
          | true ↦ λ passes. ap (λ b. b || is_listed (filter p gs) f) (ap (λ n. eqb n f) same ∙ number_itself f) ∙ sym passes ∙ ap p same
          | false ↦ λ fails. later ∙ ap (λ b. is_listed gs f && b) (ap p (sym same) ∙ fails) ∙ tested (is_listed gs f) ∙ sym fails ∙ ap p same
        ] refl

same_title : (g f : ℕ) → same_key (Title g) (Title f) ≡ eqb g f
same_title g f = elim (eqb g f) as (λ b. (b && true) ≡ b) [
  | true ↦ refl
  | false ↦ refl
]

closed_listed : (at : Key → List Entry) (keys : List Key) (f : ℕ) → is_listed (filter_map (closed_folio_of_title at) keys) f ≡ (is_given keys (Title f) && not (is_open (at (Title f))))
closed_listed at [] f = refl
closed_listed at (Title g ∷ ks) f =
    elim (eqb g f) as (λ b. eqb g f ≡ b → is_listed (cons_option (cond (is_open (at (Title g))) None (Some g)) (filter_map (closed_folio_of_title at) ks)) f ≡ ((same_key (Title g) (Title f) || is_given ks (Title f)) && not (is_open (at (Title f))))) [
      | true ↦ λ is. here (closed_listed at ks f) (eqb-true g f is) ∙ ap (λ b. (b || is_given ks (Title f)) && not (is_open (at (Title f)))) (sym (same_title g f ∙ is))
      | false ↦ λ is. apart (closed_listed at ks f) is ∙ ap (λ b. (b || is_given ks (Title f)) && not (is_open (at (Title f)))) (sym (same_title g f ∙ is))
    ] refl
  where
    none : (b : Bool) → (b && false) ≡ false
    none true = refl
    none false = refl

    here : is_listed (filter_map (closed_folio_of_title at) ks) f ≡ (is_given ks (Title f) && not (is_open (at (Title f)))) → g ≡ f → is_listed (cons_option (cond (is_open (at (Title g))) None (Some g)) (filter_map (closed_folio_of_title at) ks)) f ≡ not (is_open (at (Title f)))
    here rest same =
        elim (is_open (at (Title g))) as (λ b. is_open (at (Title g)) ≡ b → is_listed (cons_option (cond b None (Some g)) (filter_map (closed_folio_of_title at) ks)) f ≡ not (is_open (at (Title f)))) [
          | true ↦ λ is. let now : is_open (at (Title f)) ≡ true = ap (λ n. is_open (at (Title n))) (sym same) ∙ is in
              rest ∙ ap (λ b. is_given ks (Title f) && not b) now ∙ none (is_given ks (Title f)) ∙ ap not (sym now)
          | false ↦ λ is. ap (λ b. b || is_listed (filter_map (closed_folio_of_title at) ks) f) (ap (λ n. eqb n f) same ∙ number_itself f)
              ∙ ap not (sym (ap (λ n. is_open (at (Title n))) (sym same) ∙ is))
        ] refl

    apart : is_listed (filter_map (closed_folio_of_title at) ks) f ≡ (is_given ks (Title f) && not (is_open (at (Title f)))) → eqb g f ≡ false → is_listed (cons_option (cond (is_open (at (Title g))) None (Some g)) (filter_map (closed_folio_of_title at) ks)) f ≡ (is_given ks (Title f) && not (is_open (at (Title f))))
    apart rest is =
        elim (is_open (at (Title g))) as (λ b. is_listed (cons_option (cond b None (Some g)) (filter_map (closed_folio_of_title at) ks)) f ≡ (is_given ks (Title f) && not (is_open (at (Title f))))) [
          | true ↦ rest
          | false ↦ ap (λ b. b || is_listed (filter_map (closed_folio_of_title at) ks) f) is ∙ rest
        ]
closed_listed at (Right g right ∷ ks) f = closed_listed at ks f ∙ ap (λ b. (b || is_given ks (Title f)) && not (is_open (at (Title f)))) (sym (other (eqb g f)))
  where
    other : (b : Bool) → (b && false) ≡ false
    other true = refl
    other false = refl
closed_listed at (Case g ∷ ks) f = closed_listed at ks f ∙ ap (λ b. (b || is_given ks (Title f)) && not (is_open (at (Title f)))) (sym (other (eqb g f)))
  where
    other : (b : Bool) → (b && false) ≡ false
    other true = refl
    other false = refl

open_now : (before given now : Bool) → (before ≡ true → now ≡ true) → (given ≡ false → now ≡ before) → (before || ((given && not before) && now)) ≡ now
open_now true given now stays others = sym (stays refl)
open_now false true now stays others = refl
open_now false false now stays others = sym (others refl)

-- what was open stays so, and what an item opens was closed and is among its keys
pub listed_behind : (at0 at1 : Key → List Entry) (keys : List Key) (folios closed all : List ℕ) → AreListed folios at0
    → closed ≡ filter_map (closed_folio_of_title at0) keys → all ≡ folios ++ filter (λ f. is_open (at1 (Title f))) closed
    → ((k : Key) → is_open (at0 k) ≡ true → is_open (at1 k) ≡ true) → ((k : Key) → is_given keys k ≡ false → at1 k ≡ at0 k) → AreListed all at1
listed_behind at0 at1 keys folios closed all listed are whole stays others f =
    ap (λ fs. is_listed fs f) whole
    ∙ list_any-append (λ g. g == f) folios (filter (λ g. is_open (at1 (Title g))) closed)
    ∙ ap (λ b. b || is_listed (filter (λ g. is_open (at1 (Title g))) closed) f) (listed f)
    ∙ ap (λ b. is_open (at0 (Title f)) || b)
    (listed_filter (λ g. is_open (at1 (Title g))) closed f ∙ ap (λ b. b && is_open (at1 (Title f))) (ap (λ fs. is_listed fs f) are ∙ closed_listed at0 keys f))
    ∙ open_now (is_open (at0 (Title f))) (is_given keys (Title f)) (is_open (at1 (Title f))) (stays (Title f)) (λ apart. ap is_open (others (Title f) apart))
