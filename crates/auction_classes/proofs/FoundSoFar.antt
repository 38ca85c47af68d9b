-- What some elements give, of as many as are read.
use Rattle.std.proofs.Common.{◌≡◌, ℕ, ◌+◌, ◌≤◌, List, [], ◌∷◌, ◌++◌, Option, Some, None, filter_map, length, take, sym, ap, ◌∙◌, arith, length-append}
use Rattle.std.specs.List.{cons_option}
use Rattle.std.proofs.lemmas.List.Elements.{filter_map-append}

-- what the first so many elements give, which is no more than they are
pub record IsFoundOf {X Y : Type 0} (f : X → Option Y) (xs : List X) (index : ℕ) (found : List Y) : Type 0 where
  pub so_far : found ≡ filter_map f (take index xs)
  pub few : length found ≤ index

at_most_one : {Y : Type 0} (o : Option Y) → length (cons_option o []) ≤ 1
at_most_one None = omega arith
at_most_one (Some y) = omega arith

-- one more is read
pub one_more : {X Y : Type 0} (f : X → Option Y) (xs : List X) (index : ℕ) (x : X) (before after : List Y)
    → take (index + 1) xs ≡ take index xs ++ x ∷ [] → IsFoundOf f xs index before → after ≡ before ++ filter_map f (x ∷ []) → IsFoundOf f xs (index + 1) after
one_more f xs index x before after more is put = record {
  so_far = put ∙ ap (λ ys. ys ++ filter_map f (x ∷ [])) is.so_far ∙ sym (filter_map-append f (take index xs) (x ∷ [])) ∙ ap (filter_map f) (sym more);
  few =
      let one = at_most_one (f x) in
      let size = ap length put ∙ length-append before (filter_map f (x ∷ [])) in
      omega (arith, one, size, is.few);
}
