-- What some elements claim stands behind what stood there, of as many as are read.
use Rattle.std.proofs.Common.{◌≡◌, ℕ, ◌+◌, ◌*◌, ◌≤◌, List, [], ◌∷◌, ◌++◌, Option, filter, filter_map, flat_map, take, sym, ap, ◌∙◌, append_assoc, arith, map, ◌==◌}
use Rattle.std.proofs.lemmas.List.Elements.{filter-append, filter_map-append}
use Rattle.std.proofs.lemmas.Grind.{flat_map-append}
use Rattle.std.proofs.lemmas.List.{map-append}
use Rattle.auction_classes.specs.Claims.{is_claim}
use Rattle.auction_classes.specs.SaleClaims.{of_class_four, right_claimed}
use Rattle.auction_classes.specs.declared.claim_items.Claim.{Claim}

-- what the first so many elements claim stands behind what stood there, at most so many claims of each
pub record AreAdded {X Y : Type 0} (claimed : List X → List Y) (most : ℕ) (xs : List X) (index : ℕ) (start list : List Y) (len_at_start len capacity_at_start capacity : ℕ) : Type 0 where
  pub so_far : list ≡ start ++ claimed (take index xs)
  pub few : len ≤ len_at_start + most * index
  pub same : capacity ≡ capacity_at_start

-- what is claimed by two lists is that of the one and then of the other
abbrev GoesOn : {X Y : Type 0} → (List X → List Y) → Type 0
GoesOn {X} claimed = (xs ys : List X) → claimed (xs ++ ys) ≡ claimed xs ++ claimed ys

pub registered_go_on : {X : Type 0} (f : X → Option Claim) → GoesOn (λ xs. filter is_claim (filter_map f xs))
registered_go_on f xs ys = ap (filter is_claim) (filter_map-append f xs ys) ∙ filter-append is_claim (filter_map f xs) (filter_map f ys)

pub of_rights_go_on : {X : Type 0} (f : X → List Claim) → GoesOn (λ xs. filter is_claim (flat_map f xs))
of_rights_go_on f xs ys = ap (filter is_claim) (flat_map-append f xs ys) ∙ filter-append is_claim (flat_map f xs) (flat_map f ys)

pub of_class_four_goes_on : GoesOn of_class_four
of_class_four_goes_on xs ys = ap (map right_claimed) (filter-append (λ x. x.class == 4) xs ys) ∙ map-append right_claimed (filter (λ x. x.class == 4) xs) (filter (λ x. x.class == 4) ys)

-- one more is read
pub one_more_claims : {X Y : Type 0} (claimed : List X → List Y) (most : ℕ) (xs : List X) (index : ℕ) (x : X) (start before after : List Y) (len₀ len₁ len₂ capacity₀ capacity₁ capacity₂ : ℕ)
    → GoesOn claimed → take (index + 1) xs ≡ take index xs ++ x ∷ [] → AreAdded claimed most xs index start before len₀ len₁ capacity₀ capacity₁
    → after ≡ before ++ claimed (x ∷ []) → len₂ ≤ len₁ + most → capacity₂ ≡ capacity₁
    → AreAdded claimed most xs (index + 1) start after len₀ len₂ capacity₀ capacity₂
one_more_claims claimed most xs index x start before after len₀ len₁ len₂ capacity₀ capacity₁ capacity₂ goes_on more is put few same = record {
  so_far =
      put ∙ ap (λ ys. ys ++ claimed (x ∷ [])) is.so_far ∙ append_assoc start (claimed (take index xs)) (claimed (x ∷ []))
      ∙ ap (λ ys. start ++ ys) (sym (goes_on (take index xs) (x ∷ [])) ∙ ap claimed (sym more));
  few = omega (arith, few, is.few);
  same = same ∙ is.same;
}
