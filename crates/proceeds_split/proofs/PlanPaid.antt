-- The payments of a plan come to the money.
use Rattle.std.proofs.Common.{◌≡◌, ℕ, ◌+◌, ◌-◌, ◌≤◌, ◌==◌, ◌&&◌, ◌||◌, not, Bool, true, false, cond, List, [], ◌∷◌, ◌++◌, Some, None, length, refl, sym, ap, ◌∙◌, subst, arith}
use Rattle.std.specs.Prelude.{option_map, sum_by}
use Rattle.std.specs.List.{AllByRecursion}
use Rattle.std.specs.Option.{is_some}
use Rattle.std.proofs.lemmas.Bool.{false≢true}
use Rattle.std.proofs.lemmas.Bool.Decides.{nat_tests}
use Rattle.std.proofs.lemmas.List.Elements.{recursion_from_All}
use Rattle.std.proofs.lemmas.List.Sums.{sum_by-cons}
use Rattle.std.proofs.lemmas.Option.{same_Some}
use Rattle.auction_classes.specs.Claims.{are_both}
use Rattle.auction_classes.specs.LowestBid.{bid_by, cents_ahead, cover_of_base, cover_on_line, lowest_bid}
use Rattle.auction_classes.specs.PayableClaims.{HasNoInterest, IsPayable, amount_claimed, claims_in, is_in_class}
use Rattle.auction_classes.specs.SaleClaims.{SaleClaims}
use Rattle.auction_classes.specs.declared.claim_items.ClaimItem.{ClaimItem}
use Rattle.auction_classes.specs.declared.claim_items.SeizedFor.{SeizedFor}
use Rattle.auction_classes.specs.declared.lowest_bids.Lowest.{Lowest}
use Rattle.auction_classes.specs.Computable.{IsComputable}
use Rattle.proceeds_split.specs.Plan.{class_five, class_four, class_in_proportion, class_in_rank, class_six, costs_lines, in_turn, late_in_proportion, late_in_rank, paid, parts, plan_of, remaining_in_all, to_owners}
use Rattle.proceeds_split.specs.declared.plan_lines.PlanLine.{PlanLine}
use Rattle.proceeds_split.specs.declared.plan_lines.PlanPart.TheVariants as plan_part
use Rattle.proceeds_split.specs.declared.payments.Payments.{Payments}
use Rattle.proceeds_split.specs.inner.Payments.{IsBegun, Pays}
use Rattle.proceeds_split.specs.inner.RightsPaid.{IsTakenOut}
use Rattle.proceeds_split.proofs.PartsPaid.{IsWithin, SpendsAll, costs_take, first_within, last_spends, owners_spend, proportion_takes, proportion_within, rank_within, turn_sum}
use Rattle.proceeds_split.proofs.RightsSum.{four_within, remaining_within, six_within}

-- ---- the lowest bid

-- a lowest bid goes by the cover of the base
record IsOfCover (c : SaleClaims) (lowest : Lowest) : Type 0 where
  base : ℕ
  found : cover_of_base c.line_four c.seizures ≡ Some base
  is : bid_by c base ≡ lowest

of_cover : (c : SaleClaims) (lowest : Lowest) → lowest_bid c ≡ Some lowest → IsOfCover c lowest
of_cover c lowest is =
    elim (cover_of_base c.line_four c.seizures) as (λ o. cover_of_base c.line_four c.seizures ≡ o → option_map (bid_by c) o ≡ Some lowest → IsOfCover c lowest) [
      | None ↦ λ _ h. absurd (false≢true (ap is_some h))
      | Some base ↦ λ found h. record { base = base; found = found; is = same_Some (bid_by c base) lowest h }
    ] refl is

-- where there is a cover of the base, a seizure stands
some_seizure : (c : SaleClaims) (base : ℕ) → cover_of_base c.line_four c.seizures ≡ Some base → 1 ≤ length c.seizures
some_seizure c base found =
    elim c.seizures as (λ (zs : List SeizedFor). cover_of_base c.line_four zs ≡ Some base → 1 ≤ length zs) [
      | [] ↦ λ h. absurd (false≢true (ap is_some h))
      | z ∷ zs ↦ λ _. omega arith
    ] found

-- what remains is taken out of the part in cash of the lowest bid
pub taken_out : (c : SaleClaims) (lowest : Lowest) → IsPayable c → IsComputable c → lowest_bid c ≡ Some lowest → IsTakenOut c lowest
taken_out c lowest can fits is =
    let of = of_cover c lowest is in
    let within = remaining_within c (cover_on_line c of.base) fits.four can.four in
    let bid : IsTakenOut c (bid_by c of.base) = record { less = omega (arith, within); taken = omega (arith, within) } in
    subst (IsTakenOut c) of.is bid

-- ---- what stands ahead of the rights

ahead_one : (late is : Bool) (class interest capital : ℕ) → ((not is && (class == 4 || class == 6)) ≡ false → interest ≡ 0)
    → cond (are_both false is && class == 1) (interest + capital) 0 + cond (are_both false is && class == 3) (interest + capital) 0 ≤ cond (not is && (class == 1 || class == 3)) capital 0
ahead_one late true class interest capital whole = omega arith
ahead_one late false class interest capital whole =
    elim (class == 1) as (λ a. (class == 1) ≡ a → cond a (interest + capital) 0 + cond (class == 3) (interest + capital) 0 ≤ cond (a || class == 3) capital 0) [
      | true ↦ λ one.
          let none : interest ≡ 0 = whole (let other : (class == 4 || class == 6) ≡ false = grind (arith, nat_tests, one) in other) in
          let three : (class == 3) ≡ false = grind (arith, nat_tests, one) in
          subst (λ b. (interest + capital) + cond b (interest + capital) 0 ≤ capital) (sym three) (omega (arith, none))
      | false ↦ λ _.
          elim (class == 3) as (λ b. (class == 3) ≡ b → 0 + cond b (interest + capital) 0 ≤ cond b capital 0) [
            | true ↦ λ three.
                let none : interest ≡ 0 = whole (let other : (class == 4 || class == 6) ≡ false = grind (arith, nat_tests, three) in other) in
                omega (arith, none)
            | false ↦ λ _. omega arith
          ] refl
    ] refl

ahead_all : (items : List ClaimItem) → AllByRecursion HasNoInterest items → sum_by amount_claimed (claims_in false 1 items) + sum_by amount_claimed (claims_in false 3 items) ≤ sum_by cents_ahead items
ahead_all [] all = omega arith
ahead_all (c ∷ cs) all =
    let one = kept false 1 c cs in
    let three = kept false 3 c cs in
    let whole = sum_by-cons cents_ahead c cs in
    let here = ahead_one false c.late c.class c.interest c.capital all.0 in
    let rest = ahead_all cs all.1 in
    omega (arith, one, three, whole, here, rest)
  where
    kept : (late : Bool) (class : ℕ) (x : ClaimItem) (xs : List ClaimItem) → sum_by amount_claimed (claims_in late class (x ∷ xs)) ≡ cond (is_in_class late class x) (amount_claimed x) 0 + sum_by amount_claimed (claims_in late class xs)
    kept late class x xs =
        let sum = sum_by-cons amount_claimed x (claims_in late class xs) in
        elim (is_in_class late class x) as (λ b. sum_by amount_claimed (cond b (x ∷ claims_in late class xs) (claims_in late class xs)) ≡ cond b (amount_claimed x) 0 + sum_by amount_claimed (claims_in late class xs)) [ true ↦ sum | false ↦ omega arith ]

-- ---- the whole plan

-- what stands behind class 4, without the owners
abbrev others : SaleClaims → List (ℕ → List PlanLine)
others c =
    class_five c ∷ class_six c ∷ class_in_proportion c 7 ∷ class_in_rank c 8
    ∷ late_in_proportion c 1 ∷ late_in_proportion c 3 ∷ late_in_rank c 4 ∷ late_in_proportion c 7 ∷ late_in_rank c 8 ∷ []

others_within : (c : SaleClaims) → IsPayable c → IsComputable c → AllByRecursion IsWithin (others c)
others_within c can fits = (
  first_within (plan_part.Class 5) (claims_in false 5 c.items),
  (
    (λ money. six_within c can.six.0 money fits.six can.six.1),
    (
      proportion_within (plan_part.Class 7) (claims_in false 7 c.items),
      (
        rank_within (plan_part.Class 8) (claims_in false 8 c.items),
        (
          proportion_within (plan_part.Late 1) (claims_in true 1 c.items),
          (
            proportion_within (plan_part.Late 3) (claims_in true 3 c.items),
            (
              rank_within (plan_part.Late 4) (claims_in true 4 c.items),
              (
                proportion_within (plan_part.Late 7) (claims_in true 7 c.items),
                (rank_within (plan_part.Late 8) (claims_in true 8 c.items), tt),
              ),
            ),
          ),
        ),
      ),
    ),
  ),
)

-- where each of four parts in turn takes no more than it finds, and the rest takes all, they come to the money
four_parts : (a b c d : ℕ → List PlanLine) (rest : List (ℕ → List PlanLine)) (money : ℕ) → IsWithin a → IsWithin b → IsWithin c
    → sum_by paid (d (money - sum_by paid (a money) - sum_by paid (b (money - sum_by paid (a money))) - sum_by paid (c (money - sum_by paid (a money) - sum_by paid (b (money - sum_by paid (a money)))))))
    ≤ money - sum_by paid (a money) - sum_by paid (b (money - sum_by paid (a money))) - sum_by paid (c (money - sum_by paid (a money) - sum_by paid (b (money - sum_by paid (a money)))))
    → SpendsAll (in_turn rest) → sum_by paid (in_turn (a ∷ b ∷ c ∷ d ∷ rest) money) ≡ money
four_parts a b c d rest money first second third fourth spends =
    let m1 : ℕ = money - sum_by paid (a money) in
    let m2 : ℕ = m1 - sum_by paid (b m1) in
    let m3 : ℕ = m2 - sum_by paid (c m2) in
    let one = turn_sum a (b ∷ c ∷ d ∷ rest) money in
    let two = turn_sum b (c ∷ d ∷ rest) m1 in
    let three = turn_sum c (d ∷ rest) m2 in
    let four = turn_sum d rest m3 in
    let last = spends (m3 - sum_by paid (d m3)) in
    let x = first money in
    let y = second m1 in
    let z = third m2 in
    omega (arith, one, two, three, four, last, x, y, z, fourth)

pub plan_sum : (c : SaleClaims) (lowest : Lowest) (money : ℕ) → IsPayable c → IsComputable c → lowest_bid c ≡ Some lowest → lowest.cash ≤ money → sum_by paid (plan_of c lowest money) ≡ money
unfolding plan_of
plan_sum c lowest money can fits is enough =
    let of = of_cover c lowest is in
    let owned = can.owned (some_seizure c of.base of.found) in
    subst (λ (l : Lowest). l.cash ≤ money → sum_by paid (plan_of c l money) ≡ money) of.is (λ cash. whole of.base owned cash) enough
  where
    whole : (base : ℕ) → 1 ≤ length c.owners → (bid_by c base).cash ≤ money → sum_by paid (plan_of c (bid_by c base) money) ≡ money
    whole base owned cash =
        let cover = cover_on_line c base in
        let a = costs_lines c.costs in
        let b = class_in_proportion c 1 in
        let d = class_in_proportion c 3 in
        let m1 : ℕ = money - sum_by paid (a money) in
        let m2 : ℕ = m1 - sum_by paid (b m1) in
        let m3 : ℕ = m2 - sum_by paid (d m2) in
        let one = costs_take c.costs money in
        let two = proportion_takes (plan_part.Class 1) (claims_in false 1 c.items) m1 in
        let three = proportion_takes (plan_part.Class 3) (claims_in false 3 c.items) m2 in
        let ahead = ahead_all c.items (recursion_from_All HasNoInterest c.items can.whole) in
        let within = remaining_within c cover fits.four can.four in
        let reached : cover ≤ m3 + remaining_in_all c cover = omega (arith, one, two, three, ahead, within, cash) in
        let four = four_within c cover m3 fits.four can.four reached in
        four_parts a b d (class_four c cover) (others c ++ to_owners c.owners ∷ []) money (λ m. let t = costs_take c.costs m in omega (arith, t)) (proportion_within (plan_part.Class 1) (claims_in false 1 c.items)) (proportion_within (plan_part.Class 3) (claims_in false 3 c.items))
        four (last_spends (others c) (to_owners c.owners) (others_within c can fits) (owners_spend c.owners owned))

-- the plan that is written is that of the definition
pub plan_written : (c : SaleClaims) (lowest : Lowest) (many lines money : ℕ) (start end : Payments) → IsBegun lines money start → Pays many (in_turn (parts c lowest.cover)) start end → end.lines.items ≡ plan_of c lowest money
unfolding plan_of
plan_written c lowest many lines money start end begun pays = pays.lines ∙ (λ i. begun.none i ++ in_turn (parts c lowest.cover) (begun.left i))
