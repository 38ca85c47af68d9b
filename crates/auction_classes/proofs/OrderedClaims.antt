-- Claims are written in order, and are no more than they were.
use Rattle.std.proofs.Common.{◌≡◌, ℕ, zero, suc, ◌+◌, ◌-◌, ◌<◌, ◌≤◌, Bool, true, false, not, cond, ◌&&◌, ◌==◌, List, [], ◌∷◌, ◌++◌, length, flat_map, refl, sym, ap, subst, ◌∙◌, append_assoc, append-nil, arith, drop, get_or}
use Rattle.std.specs.List.{range_with_len}
use Rattle.std.proofs.lemmas.Bool.{and_parts, eqb-true}
use Rattle.std.proofs.lemmas.Bool.Decides.{nat_tests}
use Rattle.std.proofs.lemmas.List.{drop_more, length-append, nil_from_length}
use Rattle.std.proofs.lemmas.List.Elements.{filter-append}
use Rattle.auction_classes.specs.Claims.{are_both, by_class, of_class}
use Rattle.auction_classes.specs.declared.claim_items.Claim.{Claim}

-- ---- writing

-- what is written, with what is left to write, stands behind what stood there
pub record AreBeingWritten (start whole list rest : List Claim) (len_at_start len capacity_at_start capacity : ℕ) : Type 0 where
  pub so_far : list ++ rest ≡ start ++ whole
  pub exact : len + length rest ≡ len_at_start + length whole
  pub same : capacity ≡ capacity_at_start

-- the next claims are written
pub more_written : (start whole before here rest after : List Claim) (left : List Claim) (len₀ len₁ len₂ capacity₀ capacity₁ capacity₂ : ℕ)
    → left ≡ here ++ rest → AreBeingWritten start whole before left len₀ len₁ capacity₀ capacity₁
    → after ≡ before ++ here → len₂ ≡ len₁ + length here → capacity₂ ≡ capacity₁
    → AreBeingWritten start whole after rest len₀ len₂ capacity₀ capacity₂
more_written start whole before here rest after left len₀ len₁ len₂ capacity₀ capacity₁ capacity₂ parts is put len same = record {
  so_far = ap (λ ys. ys ++ rest) put ∙ append_assoc before here rest ∙ ap (λ ys. before ++ ys) (sym parts) ∙ is.so_far;
  exact =
      let size = ap length parts ∙ length-append here rest in
      omega (arith, len, size, is.exact);
  same = same ∙ is.same;
}

-- there is room for the next claims
pub room_left : (start whole before here rest : List Claim) (left : List Claim) (len₀ len₁ capacity₀ capacity₁ : ℕ)
    → left ≡ here ++ rest → AreBeingWritten start whole before left len₀ len₁ capacity₀ capacity₁ → len₀ + length whole ≤ capacity₀ → len₁ + length here ≤ capacity₁
room_left start whole before here rest left len₀ len₁ capacity₀ capacity₁ parts is room =
    let size = ap length parts ∙ length-append here rest in
    omega (arith, size, is.exact, is.same, room)

-- where as many are written as there may be, the next claims are none
pub none_left : (start whole list here rest : List Claim) (left : List Claim) (len₀ len capacity₀ capacity many : ℕ)
    → left ≡ here ++ rest → AreBeingWritten start whole list left len₀ len capacity₀ capacity → len₀ + length whole ≤ many → many ≤ len
    → AreBeingWritten start whole list rest len₀ len capacity₀ capacity
none_left start whole list here rest left len₀ len capacity₀ capacity many parts is few full =
    let size = ap length parts ∙ length-append here rest in
    let none = nil_from_length here (omega (arith, size, is.exact, few, full)) in
    let same = sym (append-nil list) ∙ ap (λ ys. list ++ ys) (sym none) in
    more_written start whole list here rest list left len₀ len len capacity₀ capacity capacity parts is same (omega (arith, size, is.exact, few, full)) refl

-- of what is left, those of a class are the next claim, where it is of the class, and those of the class behind it
pub claims_left : (late : Bool) (class : ℕ) (xs : List Claim) (index : ℕ) (x : Claim) → index < length xs → x ≡ get_or xs index x
    → of_class late (drop index xs) class ≡ of_class late (x ∷ []) class ++ of_class late (drop (index + 1) xs) class
claims_left late class xs index x within is =
    ap (λ ys. of_class late ys class) (drop_more xs index x within ∙ ap (λ y. y ∷ drop (index + 1) xs) (sym is))
    ∙ filter-append (λ c. are_both late c.late && c.class == class) (x ∷ []) (drop (index + 1) xs)

-- the claims of this class and those of the classes that are left
pub classes_left : (f : ℕ → List Claim) (class : ℕ) → class ≤ 8
    → flat_map f (range_with_len class (9 - class)) ≡ f class ++ flat_map f (range_with_len (class + 1) (9 - (class + 1)))
classes_left f class within =
    let left : 9 - class ≡ suc (9 - (class + 1)) = omega (arith, within) in
    ap (λ n. flat_map f (range_with_len class n)) left

-- ---- how many

-- the claims by the classes from one on
abbrev pub in_classes : Bool → List Claim → ℕ → ℕ → List Claim
in_classes late cs from many = flat_map (of_class late cs) (range_with_len from many)

-- a claim of an earlier class adds nothing
pub passed_class : (late : Bool) (c : Claim) (cs : List Claim) (from many : ℕ) → c.class < from → in_classes late (c ∷ cs) from many ≡ in_classes late cs from many
passed_class late c cs from zero below = refl
passed_class late c cs from (suc many) below =
    let other : (c.class == from) ≡ false = grind (arith, nat_tests, below) in
    let unlike : (are_both late c.late && c.class == from) ≡ false = neither (are_both late c.late) (c.class == from) other in
    λ i. cond (unlike i) (c ∷ of_class late cs from) (of_class late cs from) ++ passed_class late c cs (from + 1) many (omega (arith, below)) i
  where
    neither : (a b : Bool) → b ≡ false → (a && b) ≡ false
    neither true b is = is
    neither false b is = refl

-- a claim adds at most one, and that only where it is timely or late as asked
one_more : (late : Bool) (c : Claim) (cs : List Claim) (from many : ℕ)
    → length (in_classes late (c ∷ cs) from many) ≤ cond (are_both late c.late) 1 0 + length (in_classes late cs from many)
one_more late c cs from zero = omega arith
one_more late c cs from (suc many) =
    let here = of_class late cs from in
    let rest = in_classes late cs (from + 1) many in
    let next = in_classes late (c ∷ cs) (from + 1) many in
    let asked : ℕ = cond (are_both late c.late) 1 0 in
    elim (are_both late c.late && c.class == from) as (λ b. (are_both late c.late && c.class == from) ≡ b → length (cond b (c ∷ here) here ++ next) ≤ asked + length (here ++ rest)) [
      | true ↦ λ is.
          let parts = and_parts (are_both late c.late) (c.class == from) is in
          let class : c.class ≡ from = eqb-true _ _ parts.1 in
          let same = passed_class late c cs (from + 1) many (omega (arith, class)) in
          let one : asked ≡ 1 = ap (λ b. cond b 1 0) parts.0 in
          subst (λ ys. length (c ∷ here ++ ys) ≤ asked + length (here ++ rest)) (sym same) (omega (arith, one))
      | false ↦ λ is.
          let more = one_more late c cs (from + 1) many in
          rw (length-append here next, length-append here rest) (omega (arith, more))
    ] refl

-- the timely claims and the late ones are no more than all
pub by_class_few : (cs : List Claim) → length (by_class false cs) + length (by_class true cs) ≤ length cs
by_class_few [] = omega arith
by_class_few (c ∷ cs) =
    let timely = one_more false c cs 1 8 in
    let late = one_more true c cs 1 8 in
    let few = by_class_few cs in
    let one = elim c.late as (λ b. cond {A = ℕ} (not b) 1 0 + cond {A = ℕ} b 1 0 ≡ 1) [ true ↦ refl | false ↦ refl ] in
    omega (arith, timely, late, few, one)
