-- Groups of equal rank as they are found claim by claim.
use Rattle.std.specs.Prelude.{ℕ, if◌then◌else◌, List, [], ◌∷◌, ◌++◌, map}
use Rattle.auction_classes.specs.declared.claim_items.ClaimItem.{ClaimItem}
use Rattle.proceeds_split.specs.Plan.{in_proportion, in_turn}
use Rattle.proceeds_split.specs.declared.plan_lines.PlanLine.{PlanLine}
use Rattle.proceeds_split.specs.declared.plan_lines.PlanPart.{PlanPart}

-- the run of claims of equal rank that was begun, with those of these claims that join it, and behind it the runs of the others
abbrev pub runs_behind : List ClaimItem → List ClaimItem → List (List ClaimItem)
runs_behind run [] = run ∷ []
runs_behind run (claim ∷ claims) =
    if claim.with_previous then runs_behind (run ++ claim ∷ []) claims else run ∷ runs_behind (claim ∷ []) claims

-- these claims in runs of equal rank
abbrev pub runs : List ClaimItem → List (List ClaimItem)
runs [] = []
runs (claim ∷ claims) = runs_behind (claim ∷ []) claims

-- the runs one after the other, the claims of each in proportion
abbrev pub runs_in_turn : PlanPart → List ClaimItem → ℕ → List PlanLine
runs_in_turn part claims money = in_turn (map (in_proportion part) (runs claims)) money
