-- A line has as many cents as its pieces.
use Rattle.std.proofs.Common.{arith}
use Rattle.std.proofs.lemmas.Grind.{common_steps}
use Rattle.rank_slots.proofs.Lines.{length_line}
use Rattle.rank_slots.proofs.pieces.total.Goals as goal

pub returns-clause-value : goal.returns-clause-value
returns-clause-value c = grind (arith, common_steps, length_line c.args.pieces.now)
