-- The plan by which the money of an award is distributed (ZVG §§ 10 to 12, 109 to 114).
use Rattle.std.specs.Prelude.{ℕ, ◌+◌, ◌-◌, ◌*◌, ◌/◌, Bool, false, true, not, ◌==◌, ◌||◌, nat_lt, if◌then◌else◌, List, [], ◌∷◌, ◌++◌, drop, filter, length, map, min, sum_by, take_while, Some, None}
use Rattle.std.specs.List.{enumerate_from}
use Rattle.std.specs.Option.{option_map_or}
use Rattle.gb_base.specs.RightNo.{RightNo}
use Rattle.gb_base.specs.Shares.{share}
use Rattle.rank_slots.specs.Filled.{Filled}
use Rattle.rank_slots.specs.Payments.{pay}
use Rattle.auction_classes.specs.LowestBid.{remaining, remaining_of}
use Rattle.auction_classes.specs.PayableClaims.{amount_claimed, claims_in}
use Rattle.auction_classes.specs.SaleClaims.{SaleClaims}
use Rattle.auction_classes.specs.declared.claim_items.ClaimItem.{ClaimItem}
use Rattle.auction_classes.specs.declared.lowest_bids.Lowest.{Lowest}
use Rattle.proceeds_split.specs.declared.plan_lines.PlanLine.{PlanLine}
use Rattle.proceeds_split.specs.declared.plan_lines.PlanPart.{PlanPart}
use Rattle.proceeds_split.specs.declared.plan_lines.PlanPart.TheVariants as plan_part

-- what a line pays: interest and capital together
abbrev pub paid : PlanLine → ℕ
paid line = line.interest + line.capital

-- The parts of a plan are paid one after the other: each takes from what those before it left.
abbrev pub in_turn : List (ℕ → List PlanLine) → ℕ → List PlanLine
in_turn [] money = []
in_turn (first ∷ others) money = first money ++ in_turn others (money - sum_by paid (first money))

-- ---- lines

-- The line of a claim that gets so much, and of which so much remains. Interest comes before capital (ZVG § 12).
abbrev pub line_of : PlanPart → ClaimItem → ℕ → ℕ → PlanLine
line_of part claim got remains = record {
  part = part;
  right = claim.right;
  person = Some claim.person;
  claim = amount_claimed claim;
  interest = min got claim.interest;
  capital = got - claim.interest;
  remains = remains;
}

-- the line of a former owner who gets so much
abbrev pub owner_line : ℕ → ℕ → PlanLine
owner_line person got =
    record { part = plan_part.Owner; right = None; person = Some person; claim = got; interest = 0; capital = got; remains = 0 }

-- ---- parts

-- the costs of the proceedings, which are taken out of the money first (ZVG § 109)
abbrev pub costs_lines : ℕ → ℕ → List PlanLine
costs_lines costs money =
    record { part = plan_part.Costs; right = None; person = None; claim = costs; interest = 0; capital = min money costs; remains = 0 } ∷ []

-- claims of equal rank, in proportion (ZVG § 10(1))
abbrev pub in_proportion : PlanPart → List ClaimItem → ℕ → List PlanLine
in_proportion part claims money =
    map (λ numbered. line_of part numbered.1 (share money (map amount_claimed claims) numbered.0) 0) (enumerate_from 0 claims)

-- claims each of which is paid before the next, as those of personal creditors in order of seizure (ZVG § 11(2))
abbrev pub first_come : PlanPart → List ClaimItem → ℕ → List PlanLine
first_come part claims money = in_turn (map (λ claim left. line_of part claim (min left (amount_claimed claim)) 0 ∷ []) claims) money

-- A claim, with its number among these, begins a group of equal rank: it is the first, or does not rank equally with the one before it.
abbrev pub begins_group : ℕ × ClaimItem → Bool
begins_group numbered = numbered.0 == 0 || not numbered.1.with_previous

-- the group that a claim begins: that claim, and those behind it while each ranks equally with the one before it (GBO § 45(1), (3))
abbrev pub group_from : List ClaimItem → ℕ × ClaimItem → List ClaimItem
group_from claims numbered = numbered.1 ∷ take_while (λ claim. claim.with_previous) (drop (numbered.0 + 1) claims)

-- these claims in groups of equal rank
abbrev pub groups : List ClaimItem → List (List ClaimItem)
groups claims = map (group_from claims) (filter begins_group (enumerate_from 0 claims))

-- claims of rights by rank, group by group, those of a group in proportion (ZVG § 11(1))
abbrev pub in_rank : PlanPart → List ClaimItem → ℕ → List PlanLine
in_rank part claims money = in_turn (map (in_proportion part) (groups claims)) money

-- ---- the rights of classes 4 and 6

-- a value of the claim's right; 0 where it is of none
abbrev pub of_right : (RightNo → ℕ) → ClaimItem → ℕ
of_right value claim = option_map_or value claim.right 0

-- what remains of the rights of class 4 together, at this cover
abbrev pub remaining_in_all : SaleClaims → ℕ → ℕ
remaining_in_all c cover = sum_by (remaining_of c.line_four cover) c.rights

-- What a right of class 4 gets in cash: its part of the money that is left and of all that remains, along the line, less what
-- remains of it (ZVG §§ 11, 52).
abbrev pub cash_of : SaleClaims → ℕ → ℕ → RightNo → ℕ
cash_of c cover money right = pay c.line_four right (money + remaining_in_all c cover) - remaining c cover right

-- the line of a claim of class 4
abbrev pub four_line : SaleClaims → ℕ → ℕ → ClaimItem → PlanLine
four_line c cover money claim = line_of (plan_part.Class 4) claim (of_right (cash_of c cover money) claim) (of_right (remaining c cover) claim)

-- the rights of class 4, in the order of their places (ZVG § 10(1) no. 4)
abbrev pub class_four : SaleClaims → ℕ → ℕ → List PlanLine
class_four c cover money = map (four_line c cover money) (claims_in false 4 c.items)

-- the line of a claim of class 6: what its right gets along the line
abbrev pub six_line : Filled → ℕ → ClaimItem → PlanLine
six_line line money claim = line_of (plan_part.Class 6) claim (of_right (λ right. pay line right money) claim) 0

-- the rights that are younger than the seizure, in the order of their places (ZVG § 10(1) no. 6)
abbrev pub class_six : SaleClaims → ℕ → List PlanLine
class_six c money = map (six_line c.line_six money) (claims_in false 6 c.items)

-- ---- the former owners

-- what owner i of so many gets of the money: an equal part in whole cents, and a cent more where it is among the first while cents
-- are left over
abbrev pub owner_share : ℕ → ℕ → ℕ → ℕ
owner_share many money i = money / many + (if nat_lt i (money - many * (money / many)) then 1 else 0)

-- what is left goes to the former owners in equal parts
abbrev pub to_owners : List ℕ → ℕ → List PlanLine
to_owners owners money = map (λ numbered. owner_line numbered.1 (owner_share (length owners) money numbered.0)) (enumerate_from 0 owners)

-- ---- the plan

-- the timely claims of a class in proportion, or by rank
abbrev pub class_in_proportion : SaleClaims → ℕ → ℕ → List PlanLine
class_in_proportion c class = in_proportion (plan_part.Class class) (claims_in false class c.items)

abbrev pub class_in_rank : SaleClaims → ℕ → ℕ → List PlanLine
class_in_rank c class = in_rank (plan_part.Class class) (claims_in false class c.items)

-- the personal creditors, in order of seizure (ZVG § 10(1) no. 5)
abbrev pub class_five : SaleClaims → ℕ → List PlanLine
class_five c = first_come (plan_part.Class 5) (claims_in false 5 c.items)

-- the late claims of a class in proportion, or by rank
abbrev pub late_in_proportion : SaleClaims → ℕ → ℕ → List PlanLine
late_in_proportion c class = in_proportion (plan_part.Late class) (claims_in true class c.items)

abbrev pub late_in_rank : SaleClaims → ℕ → ℕ → List PlanLine
late_in_rank c class = in_rank (plan_part.Late class) (claims_in true class c.items)

-- The parts in turn: the costs (ZVG § 109), the classes (§ 10(1)), the late claims behind all others in the order of their classes
-- (§ 110), and the former owners.
abbrev pub parts : SaleClaims → ℕ → List (ℕ → List PlanLine)
parts c cover =
    costs_lines c.costs
    ∷ class_in_proportion c 1
    ∷ class_in_proportion c 3
    ∷ class_four c cover
    ∷ class_five c
    ∷ class_six c
    ∷ class_in_proportion c 7
    ∷ class_in_rank c 8
    ∷ late_in_proportion c 1
    ∷ late_in_proportion c 3
    ∷ late_in_rank c 4
    ∷ late_in_proportion c 7
    ∷ late_in_rank c 8
    ∷ to_owners c.owners
    ∷ []

-- the plan for so much money, where the lowest bid is this one
unfoldable pub plan_of : SaleClaims → Lowest → ℕ → List PlanLine
plan_of c lowest money = in_turn (parts c lowest.cover) money
