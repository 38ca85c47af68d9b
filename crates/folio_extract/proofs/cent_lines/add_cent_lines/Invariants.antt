use Rattle.std.proofs.Common.{◌++◌, length}
use Rattle.std.specs.String.{string_bytes}
use Rattle.folio_extract.specs.CentTexts.{line_text}
use Rattle.folio_extract.proofs.CentLines.{WritesOn}
use Rattle.folio_extract.proofs.cent_lines.add_cent_lines.Given as goal

abbrev pub invariant-loop-first : goal.invariant-loop-first
invariant-loop-first l = WritesOn l.slots.filled.places (string_bytes l.text) (string_bytes l.fn.text ++ line_text l.slots.filled) l.from l.rest

abbrev pub decreases-loop-first : goal.decreases-loop-first
decreases-loop-first l = length l.rest
