use Rattle.std.proofs.Common.{◌-◌, length}
use Rattle.folio_extract.proofs.PieceRuns.{RunsOn}
use Rattle.folio_extract.proofs.cent_lines.run_len.Given as goal

abbrev pub invariant-loop-len : goal.invariant-loop-len
invariant-loop-len l = RunsOn l.slots.filled.places l.pieces l.len

abbrev pub decreases-loop-len : goal.decreases-loop-len
decreases-loop-len l = length l.pieces - l.len
