-- What is left to look at says the same as the whole.
use Rattle.std.proofs.Common.{◌≡◌, drop}
use Rattle.std.specs.List.{list_any}
use Rattle.gb_base.specs.RightNo.{same_right}
use Rattle.rank_slots.specs.inner.Pieces.{line_of}
use Rattle.rank_slots.proofs.pieces.reaches_end.Given as goal

abbrev pub invariant-loop-piece : goal.invariant-loop-piece
invariant-loop-piece l = list_any (same_right l.right) (drop l.left (line_of (drop l.piece-index l.pieces))) ≡ list_any (same_right l.right) (drop l.t (line_of l.pieces))
