use Rattle.std.proofs.Common.{◌≡◌, ◌+◌, ◌++◌, drop}
use Rattle.std.specs.List.{enumerate_from}
use Rattle.std.specs.String.{string_bytes}
use Rattle.folio_extract.specs.VerdictLines.{verdict_lines}
use Rattle.folio_extract.proofs.verdict_lines.add_verdict_lines.Given as goal

abbrev pub invariant-loop-index : goal.invariant-loop-index
invariant-loop-index l =
    string_bytes l.text ++ verdict_lines (enumerate_from (l.index + 1) (drop l.index l.verdicts))
    ≡ string_bytes l.fn.text ++ verdict_lines (enumerate_from 1 l.verdicts)
