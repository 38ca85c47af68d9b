use Rattle.std.proofs.Common.{◌≡◌, ◌++◌, drop, flat_map}
use Rattle.std.specs.String.{string_bytes}
use Rattle.folio_extract.specs.PlanTexts.{plan_line}
use Rattle.folio_extract.proofs.plan_lines.add_lines.Given as goal

abbrev pub invariant-loop-line : goal.invariant-loop-line
invariant-loop-line l =
    string_bytes l.text ++ flat_map plan_line (drop l.line-index l.lines) ≡ string_bytes l.fn.text ++ flat_map plan_line l.lines
