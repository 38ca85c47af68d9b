-- The plan of a distribution in words (ZVG §§ 109 to 114).
use Rattle.std.specs.Prelude.{ℕ, ◌==◌, ◌||◌, if◌then◌else◌, List, ◌++◌, codes, flat_map}
use Rattle.std.specs.Fmt.{decimal}
use Rattle.gb_base.specs.Texts.{euro, right_text}
use Rattle.folio_extract.specs.Extracts.{word_part}
use Rattle.proceeds_split.specs.Plan.{paid}
use Rattle.proceeds_split.specs.declared.plan_lines.PlanLine.{PlanLine}
use Rattle.proceeds_split.specs.declared.plan_lines.PlanPart.{PlanPart}
use Rattle.proceeds_split.specs.declared.plan_lines.PlanPart.TheVariants as plan_part

-- the part of a plan that a line is of
abbrev pub part_text : PlanPart → List ℕ
part_text plan_part.Costs = codes "costs"
part_text (plan_part.Class class) = codes "class " ++ decimal class
part_text (plan_part.Late class) = codes "late class " ++ decimal class
part_text plan_part.Owner = codes "owner"

-- what is claimed, and what is paid of it
abbrev pub claim_text : PlanLine → List ℕ
claim_text l = codes " claim " ++ (euro l.claim ++ (codes " paid " ++ euro (paid l)))

-- what a right of class 4 or 6 is paid, its interest and its capital, and what remains of it
abbrev pub right_paid_text : PlanLine → List ℕ
right_paid_text l = codes " interest " ++ (euro l.interest ++ (codes " capital " ++ (euro l.capital ++ (codes " remains " ++ euro l.remains))))

-- the amounts of a timely claim of this class
abbrev pub class_text : ℕ → PlanLine → List ℕ
class_text class l = if (class == 4) || (class == 6) then right_paid_text l else claim_text l

-- whose claim it is: the right, where it is of one, and the person
abbrev pub claimant_text : PlanLine → List ℕ
claimant_text l = word_part (codes " right ") right_text l.right ++ word_part (codes " person ") decimal l.person

-- what stands on a line behind its part
abbrev pub line_end : PlanPart → PlanLine → List ℕ
line_end plan_part.Costs l = codes " " ++ euro (paid l)
line_end (plan_part.Class class) l = claimant_text l ++ class_text class l
line_end (plan_part.Late class) l = claimant_text l ++ claim_text l
line_end plan_part.Owner l = word_part (codes " ") decimal l.person ++ (codes " paid " ++ euro (paid l))

-- a line of a plan
abbrev pub plan_line : PlanLine → List ℕ
plan_line l = part_text l.part ++ (line_end l.part l ++ codes "\n")

-- the folio, the receipt and the money
abbrev pub heading : ℕ → ℕ → ℕ → List ℕ
heading folio n money = codes "plan " ++ (decimal folio ++ (codes " receipt " ++ (decimal n ++ (codes "\nmoney " ++ (euro money ++ codes "\n")))))

-- the plan of the distribution by receipt n in a folio, of so much money
abbrev pub plan_with : ℕ → ℕ → ℕ → List PlanLine → List ℕ
plan_with folio n money lines = heading folio n money ++ (flat_map plan_line lines ++ codes "end plan\n")
