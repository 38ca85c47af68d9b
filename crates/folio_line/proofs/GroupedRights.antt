-- Rights by group are no more than the rights were before.
use Rattle.std.proofs.Common.{◌≡◌, ℕ, zero, suc, ◌+◌, ◌<◌, ◌≤◌, true, false, cond, List, [], ◌∷◌, ◌++◌, length, filter, flat_map, refl, sym, subst, arith}
use Rattle.std.specs.List.{range_with_len}
use Rattle.std.proofs.lemmas.List.{length-append}
use Rattle.std.proofs.lemmas.Bool.Decides.{nat_tests}
use Rattle.folio_line.specs.FolioRights.{by_group, has_group}
use Rattle.folio_line.specs.declared.folio_rights.CreatedRight.{CreatedRight}

-- these rights by the groups from one on
abbrev pub grouped : List CreatedRight → ℕ → ℕ → List CreatedRight
grouped xs from many = flat_map (λ group. filter (has_group group) xs) (range_with_len from many)

-- a right of an earlier group adds nothing
pub passed_group : (x : CreatedRight) (xs : List CreatedRight) (from many : ℕ) → x.made.spec.group < from → grouped (x ∷ xs) from many ≡ grouped xs from many
passed_group x xs from zero below = refl
passed_group x xs from (suc many) below =
    let other : has_group from x ≡ false = grind (arith, nat_tests, below) in
    λ i. cond (other i) (x ∷ filter (has_group from) xs) (filter (has_group from) xs) ++ passed_group x xs (from + 1) many (omega (arith, below)) i

-- a right adds at most one
one_more : (x : CreatedRight) (xs : List CreatedRight) (from many : ℕ) → length (grouped (x ∷ xs) from many) ≤ 1 + length (grouped xs from many)
one_more x xs from zero = omega arith
one_more x xs from (suc many) =
    let here = filter (has_group from) xs in
    let rest = grouped xs (from + 1) many in
    let next = grouped (x ∷ xs) (from + 1) many in
    elim (has_group from x) as (λ b. has_group from x ≡ b → length (cond b (x ∷ here) here ++ next) ≤ 1 + length (here ++ rest)) [
      | true ↦ λ is.
          let same = passed_group x xs (from + 1) many (grind (arith, nat_tests, is)) in
          subst (λ ys. length (x ∷ here ++ ys) ≤ 1 + length (here ++ rest)) (sym same) (omega arith)
      | false ↦ λ is.
          let more = one_more x xs (from + 1) many in
          rw (length-append here next, length-append here rest) (omega (arith, more))
    ] refl

pub by_group_few : (xs : List CreatedRight) → length (by_group xs) ≤ length xs
by_group_few [] = omega arith
by_group_few (x ∷ xs) =
    let more = one_more x xs 1 8 in
    let few = by_group_few xs in
    omega (arith, more, few)

pub all_by_group_few : (f : ℕ → List CreatedRight) (ms : List ℕ) → length (flat_map (λ m. by_group (f m)) ms) ≤ length (flat_map f ms)
all_by_group_few f [] = omega arith
all_by_group_few f (m ∷ ms) =
    let here = by_group_few (f m) in
    let others = all_by_group_few f ms in
    rw (length-append (by_group (f m)) (flat_map (λ n. by_group (f n)) ms), length-append (f m) (flat_map f ms)) (omega (arith, here, others))
