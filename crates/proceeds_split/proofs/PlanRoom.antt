-- A plan has no more lines than there are claims and owners, and one for the costs.
use Rattle.std.proofs.Common.{◌≡◌, ℕ, ◌+◌, ◌≤◌, ◌==◌, ◌&&◌, Bool, true, false, cond, not, List, [], ◌∷◌, length, arith}
use Rattle.std.proofs.lemmas.Bool.Decides.{nat_tests}
use Rattle.auction_classes.specs.PayableClaims.{claims_in, is_in_class}
use Rattle.auction_classes.specs.SaleClaims.{SaleClaims}
use Rattle.auction_classes.specs.declared.claim_items.ClaimItem.{ClaimItem}
use Rattle.proceeds_split.specs.inner.Parts.{plan_len}
use Rattle.rank_slots.proofs.LineCounts.{tally}

-- a claim is of one class at most
seven : (k : ℕ) → tally (k == 1) + (tally (k == 3) + (tally (k == 4) + (tally (k == 5) + (tally (k == 6) + (tally (k == 7) + tally (k == 8)))))) ≤ 1
seven k = grind (arith, nat_tests)

five : (k : ℕ) → tally (k == 1) + (tally (k == 3) + (tally (k == 4) + (tally (k == 7) + tally (k == 8)))) ≤ 1
five k = grind (arith, nat_tests)

-- how many of these claims are of a class
abbrev many : List ClaimItem → Bool → ℕ → ℕ
many items late class = length (claims_in late class items)

one_more : (late : Bool) (class : ℕ) (x : ClaimItem) (xs : List ClaimItem) → many (x ∷ xs) late class ≡ tally (is_in_class late class x) + many xs late class
one_more late class x xs = elim (is_in_class late class x) as (λ b. length (cond b (x ∷ claims_in late class xs) (claims_in late class xs)) ≡ tally b + many xs late class) [ true ↦ omega arith | false ↦ omega arith ]

-- how many timely claims there are, and how many late ones
abbrev timely : List ClaimItem → ℕ
timely xs = many xs false 1 + (many xs false 3 + (many xs false 4 + (many xs false 5 + (many xs false 6 + (many xs false 7 + many xs false 8)))))

abbrev late_ones : List ClaimItem → ℕ
late_ones xs = many xs true 1 + (many xs true 3 + (many xs true 4 + (many xs true 7 + many xs true 8)))

claims_few : (xs : List ClaimItem) → timely xs + late_ones xs ≤ length xs
claims_few [] = omega arith
claims_few (x ∷ xs) =
    let rest = claims_few xs in
    let a = one_more false 1 x xs in
    let b = one_more false 3 x xs in
    let c = one_more false 4 x xs in
    let d = one_more false 5 x xs in
    let e = one_more false 6 x xs in
    let f = one_more false 7 x xs in
    let g = one_more false 8 x xs in
    let h = one_more true 1 x xs in
    let i = one_more true 3 x xs in
    let j = one_more true 4 x xs in
    let k = one_more true 7 x xs in
    let l = one_more true 8 x xs in
    let once = one_class x.late x.class in
    omega (arith, rest, a, b, c, d, e, f, g, h, i, j, k, l, once)
  where
    one_class : (is : Bool) (class : ℕ)
        → (tally (not is && class == 1) + (tally (not is && class == 3) + (tally (not is && class == 4) + (tally (not is && class == 5) + (tally (not is && class == 6) + (tally (not is && class == 7) + tally (not is && class == 8)))))))
        + (tally (is && class == 1) + (tally (is && class == 3) + (tally (is && class == 4) + (tally (is && class == 7) + tally (is && class == 8))))) ≤ 1
    one_class true class = let one = five class in omega (arith, one)
    one_class false class = let one = seven class in omega (arith, one)

pub lines_few : (c : SaleClaims) → plan_len c ≤ 1 + length c.items + length c.owners
lines_few c = let few = claims_few c.items in omega (arith, few)
