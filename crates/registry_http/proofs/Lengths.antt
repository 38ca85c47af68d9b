-- The length that the values of Content-Length give.
use Rattle.std.proofs.Common.{◌≡◌, ℕ, ◌+◌, ◌<◌, true, false, List, [], ◌∷◌, length, map, drop, get_or, Option, Some, None, is_some, refl, sym, ap, ◌∙◌}
use Rattle.std.specs.Str.{str_eq_ignore_ascii_case}
use Rattle.std.proofs.lemmas.List.{at_drop_more}
use Rattle.registry_http.specs.Heads.{values_of, length_of, length_in}

-- the length that the values of Content-Length give, where those before gave this one
abbrev pub length_from : Option ℕ → List (List ℕ) → Option ℕ
length_from None values = length_in values
length_from (Some n) [] = Some n
length_from (Some n) (value ∷ values) = None

module _ {X : Type 0} (f : X → List ℕ × List ℕ) (headers : List X) (i : ℕ) (d : X) (name n v : List ℕ) where
  -- the header at an index has the name
  pub values_at : i < length headers → (n, v) ≡ f (get_or headers i d) → str_eq_ignore_ascii_case n name ≡ true
      → values_of name (map f (drop i headers)) ≡ v ∷ values_of name (map f (drop (i + 1) headers))
  values_at within is same = at_drop_more (λ xs. values_of name (map f xs)) headers i d within ∙ rw (sym is, same) refl

  -- the header at an index has another name
  pub values_past : i < length headers → (n, v) ≡ f (get_or headers i d) → str_eq_ignore_ascii_case n name ≡ false
      → values_of name (map f (drop i headers)) ≡ values_of name (map f (drop (i + 1) headers))
  values_past within is other = at_drop_more (λ xs. values_of name (map f xs)) headers i d within ∙ rw (sym is, other) refl

none_yet : (found : Option ℕ) → is_some found ≡ false → found ≡ None
none_yet None none = refl
none_yet (Some n) none = cc

bad_first : (value : List ℕ) (values : List (List ℕ)) → length_of value ≡ None → length_in (value ∷ values) ≡ None
bad_first value [] bad = bad
bad_first value (other ∷ values) bad = refl

good_first : (value : List ℕ) (values : List (List ℕ)) (n : ℕ) → length_of value ≡ Some n
    → length_from (Some n) values ≡ length_in (value ∷ values)
good_first value [] n good = sym good
good_first value (other ∷ values) n good = refl

-- a first value that is no length gives none
pub bad_value : (found total : Option ℕ) (values rest : List (List ℕ)) (value : List ℕ) → is_some found ≡ false
    → length_from found values ≡ total → values ≡ value ∷ rest → length_of value ≡ None → None ≡ total
bad_value found total values rest value none so_far begins bad =
    sym (bad_first value rest bad) ∙ sym (ap length_in begins) ∙ sym (ap (λ o. length_from o values) (none_yet found none)) ∙ so_far

-- a first value that is a length gives it where no further value stands
pub good_value : (found after total : Option ℕ) (values rest : List (List ℕ)) (value : List ℕ) (n : ℕ) → is_some found ≡ false
    → length_from found values ≡ total → values ≡ value ∷ rest → length_of value ≡ Some n → after ≡ Some n → length_from after rest ≡ total
good_value found after total values rest value n none so_far begins good is =
    ap (λ o. length_from o rest) is
    ∙ good_first value rest n good ∙ sym (ap length_in begins) ∙ sym (ap (λ o. length_from o values) (none_yet found none)) ∙ so_far

-- a header of another name changes nothing
pub same_value : (found after total : Option ℕ) (values rest : List (List ℕ)) → length_from found values ≡ total
    → values ≡ rest → after ≡ found → length_from after rest ≡ total
same_value found after total values rest so_far same is = ap (λ o. length_from o rest) is ∙ sym (ap (length_from found) same) ∙ so_far
