use Rattle.std.proofs.Common.{◌≡◌, sum_by, take}
use Rattle.folio_extract.proofs.cent_lines.total.Given as goal

abbrev pub invariant-loop-piece : goal.invariant-loop-piece
invariant-loop-piece l = l.cents ≡ sum_by (λ p. p.cents) (take l.piece-index l.pieces)
