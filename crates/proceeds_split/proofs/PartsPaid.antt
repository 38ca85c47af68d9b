-- What the parts of a plan take is no more than they find, and the owners take all that they find.
use Rattle.std.proofs.Common.{◌≡◌, ℕ, zero, suc, ◌+◌, ◌-◌, ◌*◌, ◌/◌, ◌≤◌, List, [], ◌∷◌, ◌++◌, length, map, refl, sym, ap, arith, if◌then◌else◌}
use Rattle.std.specs.Prelude.{min, nat_lt, sum, sum_by}
use Rattle.std.specs.List.{AllByRecursion, enumerate_from, range_with_len}
use Rattle.std.proofs.Math.Nat.{mul-div-le}
use Rattle.std.proofs.lemmas.Bool.Decides.{nat_tests}
use Rattle.std.proofs.lemmas.List.{length-map}
use Rattle.std.proofs.lemmas.List.Sums.{sum_by-append, sum_by-cons}
use Rattle.gb_base.specs.Shares.{share}
use Rattle.gb_base.proofs.Sharing.{sum_of_shares}
use Rattle.auction_classes.specs.PayableClaims.{amount_claimed}
use Rattle.auction_classes.specs.declared.claim_items.ClaimItem.{ClaimItem}
use Rattle.proceeds_split.specs.Plan.{costs_lines, first_come, groups, in_proportion, in_rank, in_turn, line_of, owner_line, owner_share, paid, to_owners}
use Rattle.proceeds_split.specs.declared.plan_lines.PlanLine.{PlanLine}
use Rattle.proceeds_split.specs.declared.plan_lines.PlanPart.{PlanPart}

-- a part takes no more than it finds
abbrev pub IsWithin : (ℕ → List PlanLine) → Type 0
IsWithin part = (money : ℕ) → sum_by paid (part money) ≤ money

-- a part takes all that it finds
abbrev pub SpendsAll : (ℕ → List PlanLine) → Type 0
SpendsAll part = (money : ℕ) → sum_by paid (part money) ≡ money

-- ---- in turn

-- parts in turn take what the first part takes, and what the others take of the rest
pub turn_sum : (first : ℕ → List PlanLine) (others : List (ℕ → List PlanLine)) (money : ℕ)
    → sum_by paid (in_turn (first ∷ others) money) ≡ sum_by paid (first money) + sum_by paid (in_turn others (money - sum_by paid (first money)))
turn_sum first others money = sum_by-append paid (first money) (in_turn others (money - sum_by paid (first money)))

pub turns_within : (parts : List (ℕ → List PlanLine)) → AllByRecursion IsWithin parts → IsWithin (in_turn parts)
turns_within [] all money = omega arith
turns_within (first ∷ others) all money =
    let whole = turn_sum first others money in
    let here = all.0 money in
    let rest = turns_within others all.1 (money - sum_by paid (first money)) in
    omega (arith, whole, here, rest)

pub last_spends : (parts : List (ℕ → List PlanLine)) (last : ℕ → List PlanLine) → AllByRecursion IsWithin parts → SpendsAll last → SpendsAll (in_turn (parts ++ last ∷ []))
last_spends [] last all spends money =
    let whole = turn_sum last [] money in
    let here = spends money in
    omega (arith, whole, here)
last_spends (first ∷ others) last all spends money =
    let whole = turn_sum first (others ++ last ∷ []) money in
    let here = all.0 money in
    let rest = last_spends others last all.1 spends (money - sum_by paid (first money)) in
    omega (arith, whole, here, rest)

-- ---- costs and claims

pub costs_take : (costs money : ℕ) → sum_by paid (costs_lines costs money) ≡ min money costs
costs_take costs money = omega arith

-- the line of a claim pays what the claim gets
pub line_pays : (part : PlanPart) (claim : ClaimItem) (got remains : ℕ) → paid (line_of part claim got remains) ≡ got
line_pays part claim got remains = omega arith

numbered_sum : (part : PlanPart) (f : ℕ → ℕ) (a : ℕ) (claims : List ClaimItem)
    → sum_by paid (map (λ (n : ℕ × ClaimItem). line_of part n.1 (f n.0) 0) (enumerate_from a claims)) ≡ sum (map f (range_with_len a (length claims)))
numbered_sum part f a [] = refl
numbered_sum part f a (c ∷ cs) =
    let line : ℕ × ClaimItem → PlanLine = λ n. line_of part n.1 (f n.0) 0 in
    let left = sum_by-cons paid (line (a, c)) (map line (enumerate_from (a + 1) cs)) in
    let right = sum_by-cons (λ x. x) (f a) (map f (range_with_len (a + 1) (length cs))) in
    let here = line_pays part c (f a) 0 in
    let rest = numbered_sum part f (a + 1) cs in
    omega (arith, left, right, here, rest)

sum_amounts : (claims : List ClaimItem) → sum (map amount_claimed claims) ≡ sum_by amount_claimed claims
sum_amounts [] = refl
sum_amounts (c ∷ cs) =
    let left = sum_by-cons (λ x. x) (amount_claimed c) (map amount_claimed cs) in
    let right = sum_by-cons amount_claimed c cs in
    omega (arith, left, right, sum_amounts cs)

-- claims in proportion take the money, or what they come to
pub proportion_takes : (part : PlanPart) (claims : List ClaimItem) (money : ℕ) → sum_by paid (in_proportion part claims money) ≡ min money (sum_by amount_claimed claims)
proportion_takes part claims money =
    let amounts = map amount_claimed claims in
    let lines = numbered_sum part (share money amounts) 0 claims in
    let many = ap (λ n. sum (map (share money amounts) (range_with_len 0 n))) (sym (length-map claims amount_claimed)) in
    let shared = sum_of_shares money amounts in
    let all = sum_amounts claims in
    omega (arith, lines, many, shared, all)

pub proportion_within : (part : PlanPart) (claims : List ClaimItem) → IsWithin (in_proportion part claims)
proportion_within part claims money = let takes = proportion_takes part claims money in omega (arith, takes)

first_each : (part : PlanPart) (claims : List ClaimItem) → AllByRecursion IsWithin (map (λ (claim : ClaimItem) (left : ℕ). line_of part claim (min left (amount_claimed claim)) 0 ∷ []) claims)
first_each part [] = tt
first_each part (c ∷ cs) = ((λ money. omega arith), first_each part cs)

pub first_within : (part : PlanPart) (claims : List ClaimItem) → IsWithin (first_come part claims)
first_within part claims = turns_within (map (λ (claim : ClaimItem) (left : ℕ). line_of part claim (min left (amount_claimed claim)) 0 ∷ []) claims) (first_each part claims)

rank_each : (part : PlanPart) (gs : List (List ClaimItem)) → AllByRecursion IsWithin (map (in_proportion part) gs)
rank_each part [] = tt
rank_each part (g ∷ gs) = (proportion_within part g, rank_each part gs)

pub rank_within : (part : PlanPart) (claims : List ClaimItem) → IsWithin (in_rank part claims)
rank_within part claims = turns_within (map (in_proportion part) (groups claims)) (rank_each part (groups claims))

-- ---- the owners

owners_sum : (f : ℕ → ℕ) (a : ℕ) (owners : List ℕ)
    → sum_by paid (map (λ (n : ℕ × ℕ). owner_line n.1 (f n.0)) (enumerate_from a owners)) ≡ sum (map f (range_with_len a (length owners)))
owners_sum f a [] = refl
owners_sum f a (p ∷ ps) =
    let line : ℕ × ℕ → PlanLine = λ n. owner_line n.1 (f n.0) in
    let left = sum_by-cons paid (line (a, p)) (map line (enumerate_from (a + 1) ps)) in
    let right = sum_by-cons (λ x. x) (f a) (map f (range_with_len (a + 1) (length ps))) in
    let rest = owners_sum f (a + 1) ps in
    omega (arith, left, right, rest)

-- equal parts with one cent more at each number below a bound
equal_parts : (whole bound a n : ℕ) → sum (map (λ i. whole + (if nat_lt i bound then 1 else 0)) (range_with_len a n)) + min a bound ≡ n * whole + min (a + n) bound
equal_parts whole bound a zero = omega arith
equal_parts whole bound a (suc n) =
    let f : ℕ → ℕ = λ i. whole + (if nat_lt i bound then 1 else 0) in
    let all = sum_by-cons (λ x. x) (f a) (map f (range_with_len (a + 1) n)) in
    let later = equal_parts whole bound (a + 1) n in
    let here : min a bound + (if nat_lt a bound then 1 else 0) ≡ min (a + 1) bound = grind (arith, nat_tests) in
    let times : suc n * whole ≡ whole + n * whole = omega arith in
    omega (arith, all, later, here, times)

pub owners_spend : (owners : List ℕ) → 1 ≤ length owners → SpendsAll (to_owners owners)
owners_spend owners some money =
    let many = length owners in
    let lines = owners_sum (owner_share many money) 0 owners in
    let parts = equal_parts (money / many) (money - many * (money / many)) 0 many in
    let low : many * (money / many) ≤ money = mul-div-le money many in
    let high : money + 1 ≤ many * (money / many) + many = omega arith in
    omega (arith, lines, parts, low, high)
