use Rattle.std.proofs.Common.{◌≡◌, ◌++◌, drop, flat_map}
use Rattle.csv.specs.Writing.{default_writer, row_text}
use Rattle.folio_extract.specs.PlanCsv.{csv_of_lines, fields_of_line}
use Rattle.folio_extract.proofs.plan_lists.csv_of_lines.Given as goal

abbrev pub invariant-loop-line : goal.invariant-loop-line
invariant-loop-line l =
    l.text.items ++ flat_map (λ x. row_text default_writer (fields_of_line x)) (drop l.line-index l.lines) ≡ csv_of_lines l.lines
