-- A right whose place joins none, and that none joins, stands alone in its group.
use Rattle.std.proofs.Common.{◌≡◌, Bool, true, false, cond, ◌||◌, List, [], ◌∷◌, find, length, Some, None, refl, sym, ap, ◌∙◌, ⊎_elim}
use Rattle.std.specs.List.{list_any}
use Rattle.std.specs.Option.{option_map_or}
use Rattle.std.proofs.lemmas.Bool.{cases_Bool, false≢true, or_from}
use Rattle.gb_base.specs.RightNo.{RightNo}
use Rattle.rank_slots.specs.CanFill.{StandsAlone}
use Rattle.rank_slots.specs.Groups.{groups, is_of, joins, with_first}
use Rattle.rank_slots.specs.declared.places.Place.{Place}
use Rattle.rank_slots.proofs.PlaceLines.{is_listed}

-- each place of the right joins none, and none behind it joins it
abbrev pub NoneJoins : RightNo → List Place → Type 0
NoneJoins right [] = Unit {0}
NoneJoins right (p ∷ ps) = (is_of right p ≡ true → (p.with_previous ≡ false) × (joins ps ≡ false)) × NoneJoins right ps

-- the right is in the group
abbrev is_in : RightNo → List Place → Bool
is_in right group = list_any (is_of right) group

-- the first of these groups
abbrev first : List (List Place) → List Place
first [] = []
first (g ∷ gs) = g

first_with : (p : Place) (gs : List (List Place)) → first (with_first p gs) ≡ p ∷ first gs
first_with p [] = refl
first_with p (g ∷ gs) = refl

-- a place that joins the one before is not the right's
not_joined : (right : RightNo) (p : Place) (ps : List Place) → p.with_previous ≡ true → (is_of right p ≡ true → (p.with_previous ≡ false) × (joins ps ≡ false)) → is_of right p ≡ false
not_joined right p ps joined none =
    ⊎_elim (λ here. absurd (false≢true (sym (none here).0 ∙ joined))) (λ apart. apart) (cases_Bool (is_of right p))

-- the first group is without the right where the first place is not the right's
first_without : (right : RightNo) (p : Place) (ps : List Place) → is_of right p ≡ false → NoneJoins right ps → is_in right (first (groups (p ∷ ps))) ≡ false
first_without right p [] apart none = ap (λ b. b || false) apart
first_without right p (q ∷ ps) apart none =
    elim q.with_previous as (λ b. q.with_previous ≡ b → is_in right (first (cond b (with_first p (groups (q ∷ ps))) ((p ∷ []) ∷ groups (q ∷ ps)))) ≡ false) [
      | true ↦ λ joined.
          ap (is_in right) (first_with p (groups (q ∷ ps)))
          ∙ or_from (is_of right p) (is_in right (first (groups (q ∷ ps)))) apart (first_without right q ps (not_joined right q ps joined none.0) none.1)
      | false ↦ λ _. ap (λ b. b || false) apart
    ] refl

past_first : (right : RightNo) (p : Place) (gs : List (List Place)) → is_of right p ≡ false → is_in right (first gs) ≡ false → find (is_in right) (with_first p gs) ≡ find (is_in right) gs
past_first right p [] apart without = ap (λ b. cond (b || false) (Some (p ∷ [])) None) apart
past_first right p (g ∷ gs) apart without =
    ap (λ b. cond b (Some (p ∷ g)) (find (is_in right) gs)) (or_from (is_of right p) (is_in right g) apart without)
    ∙ sym (ap (λ b. cond b (Some g) (find (is_in right) gs)) without)

-- a place that is not the right's changes nothing of where its group is found
past_place : (right : RightNo) (p : Place) (ps : List Place) → is_of right p ≡ false → NoneJoins right ps → find (is_in right) (groups (p ∷ ps)) ≡ find (is_in right) (groups ps)
past_place right p [] apart none = ap (λ b. cond (b || false) (Some (p ∷ [])) None) apart
past_place right p (q ∷ ps) apart none =
    elim q.with_previous as (λ b. q.with_previous ≡ b → find (is_in right) (cond b (with_first p (groups (q ∷ ps))) ((p ∷ []) ∷ groups (q ∷ ps))) ≡ find (is_in right) (groups (q ∷ ps))) [
      | true ↦ λ joined. past_first right p (groups (q ∷ ps)) apart (first_without right q ps (not_joined right q ps joined none.0) none.1)
      | false ↦ λ _. ap (λ b. cond (b || false) (Some (p ∷ [])) (find (is_in right) (groups (q ∷ ps)))) apart
    ] refl

group_found : (right : RightNo) (ps : List Place) → NoneJoins right ps → is_listed ps right ≡ true → (p : Place) × (find (is_in right) (groups ps) ≡ Some (p ∷ []))
group_found right [] none listed = absurd (false≢true listed)
group_found right (p ∷ ps) none listed =
    ⊎_elim
    (λ here. (
      p,
      ap (λ b. find (is_in right) (cond b (with_first p (groups ps)) ((p ∷ []) ∷ groups ps))) (none.0 here).1
          ∙ ap (λ b. cond (b || false) (Some (p ∷ [])) (find (is_in right) (groups ps))) here,
    ))
    (λ apart.
    let behind = group_found right ps none.1 (sym (ap (λ b. b || is_listed ps right) apart) ∙ listed) in
    (behind.0, past_place right p ps apart none.1 ∙ behind.1))
    (cases_Bool (is_of right p))

pub stands_alone : (right : RightNo) (ps : List Place) → NoneJoins right ps → is_listed ps right ≡ true → StandsAlone ps right
stands_alone right ps none listed = ap (λ o. length (option_map_or (λ g. g) o [])) (group_found right ps none listed).1
