-- A given number of parts that are read one after another.
use Rattle.std.proofs.Common.{◌≡◌, ℕ, suc, ◌+◌, ◌-◌, ◌<◌, List, [], ◌∷◌, ◌++◌, length, Option, Some, None, refl, sym, ap, ◌∙◌, append_assoc, arith}
use Rattle.std.specs.List.{AllByRecursion, flat_map}
use Rattle.std.proofs.lemmas.List.{append-nil, length_push}
use Rattle.gb_base.specs.Optional.{◌>>=◌}
use Rattle.act_codec.specs.inner.Reading.{read_times}

-- what was read before, put in front of what is still read
abbrev pub with_front : {X : Type 0} → List X → Option (List X × List ℕ) → Option (List X × List ℕ)
with_front front read = read >>= λ x. Some (front ++ x.0, x.1)

-- i of `count` parts are read, and these bytes are left
pub record SoFar {X : Type 0} (part_at : List ℕ → Option (X × List ℕ)) (spelled : X → List ℕ) (IsX : X → Type 0) (count i : ℕ) (start left : List ℕ) (xs : List X) : Type 0 where
  pub read : with_front xs (read_times part_at (count - i) left) ≡ read_times part_at count start
  pub found : start ≡ flat_map spelled xs ++ left
  pub size : length xs ≡ i
  pub each : AllByRecursion IsX xs

module _ {X : Type 0} (part_at : List ℕ → Option (X × List ℕ)) (spelled : X → List ℕ) (IsX : X → Type 0) where
  regroup : (front : List X) (x : X) (read : Option (List X × List ℕ)) → with_front front (read >>= λ xs. Some (x ∷ xs.0, xs.1)) ≡ with_front (front ++ x ∷ []) read
  regroup front x None = refl
  regroup front x (Some xs) = ap (λ ys. Some (ys, xs.1)) (simp append_assoc)

  each_push : (xs : List X) (x : X) → AllByRecursion IsX xs → IsX x → AllByRecursion IsX (xs ++ x ∷ [])
  each_push [] x all here = (here, tt)
  each_push (y ∷ xs) x all here = (all.0, each_push xs x all.1 here)

  spelled_push : (xs : List X) (x : X) → flat_map spelled (xs ++ x ∷ []) ≡ flat_map spelled xs ++ spelled x
  spelled_push [] x = append-nil (spelled x)
  spelled_push (y ∷ xs) x = ap (λ bs. spelled y ++ bs) (spelled_push xs x) ∙ sym (append_assoc (spelled y) (flat_map spelled xs) (spelled x))

  pub so_far_more : (count i : ℕ) (start left after : List ℕ) (xs : List X) (x : X) → SoFar part_at spelled IsX count i start left xs → i < count → part_at left ≡ Some (x, after) → left ≡ spelled x ++ after → IsX x → SoFar part_at spelled IsX count (i + 1) start after (xs ++ x ∷ [])
  so_far_more count i start left after xs x so_far within read text fits =
      let k : count - i ≡ suc (count - (i + 1)) = omega arith in
      let one : with_front xs (read_times part_at (count - i) left) ≡ with_front (xs ++ x ∷ []) (read_times part_at (count - (i + 1)) after) =
      rw (k, read) (regroup xs x (read_times part_at (count - (i + 1)) after)) in
      record {
        read = sym one ∙ so_far.read;
        found = so_far.found ∙ ap (λ bs. flat_map spelled xs ++ bs) text ∙ sym (append_assoc (flat_map spelled xs) (spelled x) after) ∙ ap (λ bs. bs ++ after) (sym (spelled_push xs x));
        size = omega (arith, length_push xs x, so_far.size);
        each = each_push xs x so_far.each fits;
      }

  pub so_far_fails : (count i : ℕ) (start left : List ℕ) (xs : List X) → SoFar part_at spelled IsX count i start left xs → i < count → part_at left ≡ None → read_times part_at count start ≡ None
  so_far_fails count i start left xs so_far within read =
      let k : count - i ≡ suc (count - (i + 1)) = omega arith in
      let one : with_front xs (read_times part_at (count - i) left) ≡ None = rw (k, read) refl in
      sym so_far.read ∙ one
