-- The plan of a distribution as a list in CSV: the lines of the plan, amounts in cents.
use Rattle.std.specs.Prelude.{ℕ, List, [], ◌∷◌, ◌++◌, codes, flat_map}
use Rattle.std.specs.Fmt.{decimal}
use Rattle.std.specs.Option.{option_map_or}
use Rattle.gb_base.specs.Texts.{right_text}
use Rattle.csv.specs.Writing.{default_writer, row_text}
use Rattle.folio_extract.specs.PlanTexts.{part_text}
use Rattle.proceeds_split.specs.Plan.{paid}
use Rattle.proceeds_split.specs.declared.plan_lines.PlanLine.{PlanLine}

-- the names of the columns
abbrev pub columns : List (List ℕ)
columns = codes "part" ∷ codes "right" ∷ codes "person" ∷ codes "claim" ∷ codes "paid" ∷ codes "remains" ∷ []

-- a line of a plan; right and person are empty where there is none
abbrev pub fields_of_line : PlanLine → List (List ℕ)
fields_of_line l =
    part_text l.part ∷ option_map_or right_text l.right [] ∷ option_map_or decimal l.person [] ∷ decimal l.claim ∷ decimal (paid l) ∷ decimal l.remains ∷ []

-- the lines of a plan, behind a header
abbrev pub csv_of_lines : List PlanLine → List ℕ
csv_of_lines lines = row_text default_writer columns ++ flat_map (λ l. row_text default_writer (fields_of_line l)) lines
