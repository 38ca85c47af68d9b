-- The parts of a plan that stand ahead of the rights, those that stand behind them, the late ones, and how many lines they have.
use Rattle.std.specs.Prelude.{ℕ, ◌+◌, false, true, List, [], ◌∷◌, length}
use Rattle.auction_classes.specs.PayableClaims.{claims_in}
use Rattle.auction_classes.specs.SaleClaims.{SaleClaims}
use Rattle.proceeds_split.specs.Plan.{class_in_proportion, class_in_rank, costs_lines, late_in_proportion, late_in_rank}
use Rattle.proceeds_split.specs.declared.plan_lines.PlanLine.{PlanLine}

abbrev pub ahead : SaleClaims → List (ℕ → List PlanLine)
ahead c = costs_lines c.costs ∷ class_in_proportion c 1 ∷ class_in_proportion c 3 ∷ []

abbrev pub behind : SaleClaims → List (ℕ → List PlanLine)
behind c = class_in_proportion c 7 ∷ class_in_rank c 8 ∷ []

abbrev pub late : SaleClaims → List (ℕ → List PlanLine)
late c =
    late_in_proportion c 1 ∷ late_in_proportion c 3 ∷ late_in_rank c 4 ∷ late_in_proportion c 7 ∷ late_in_rank c 8 ∷ []

-- ---- how many lines the parts have

-- how many timely claims of a class there are, and how many late ones
abbrev pub timely_len : SaleClaims → ℕ → ℕ
timely_len c class = length (claims_in false class c.items)

abbrev pub late_class_len : SaleClaims → ℕ → ℕ
late_class_len c class = length (claims_in true class c.items)

abbrev pub ahead_len : SaleClaims → ℕ
ahead_len c = 1 + (timely_len c 1 + timely_len c 3)

abbrev pub behind_len : SaleClaims → ℕ
behind_len c = timely_len c 7 + timely_len c 8

abbrev pub late_len : SaleClaims → ℕ
late_len c = late_class_len c 1 + (late_class_len c 3 + (late_class_len c 4 + (late_class_len c 7 + late_class_len c 8)))

-- how many lines the whole plan has
abbrev pub plan_len : SaleClaims → ℕ
plan_len c =
    ahead_len c + (timely_len c 4 + (timely_len c 5 + (timely_len c 6 + (behind_len c + (late_len c + length c.owners)))))
