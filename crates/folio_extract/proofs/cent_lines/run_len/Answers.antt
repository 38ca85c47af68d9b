use Rattle.std.proofs.Common.{sym, ◌∙◌}
use Rattle.folio_extract.proofs.PieceRuns.{run_ends, run_stops, runs_one_more}
use Rattle.folio_extract.proofs.cent_lines.run_len.Goals as goal

pub loop-len-preserved : goal.loop-len-preserved
loop-len-preserved c =
    runs_one_more c.args.slots.now.filled.places c.args.pieces.now c.loop-len.len c.index-pieces-len.result c.index-pieces-len-in-loop-len.result c.loop-len.invariant
    c.loop-len-test.true c.index-pieces-len.is c.index-pieces-len-in-loop-len.is (sym c.shares_group.ensures ∙ c.if-shares_group.true)

pub returns-else-shares_group-clause-value : goal.returns-else-shares_group-clause-value
returns-else-shares_group-clause-value c =
    run_stops c.args.slots.now.filled.places c.args.pieces.now c.loop-len.len c.index-pieces-len.result c.index-pieces-len-in-loop-len.result c.loop-len.invariant
    c.loop-len-test.true c.index-pieces-len.is c.index-pieces-len-in-loop-len.is (sym c.shares_group.ensures ∙ c.if-shares_group.false)

pub returns-after-loop-len-clause-value : goal.returns-after-loop-len-clause-value
returns-after-loop-len-clause-value c = run_ends c.args.slots.now.filled.places c.args.pieces.now c.loop-len.len c.loop-len.invariant c.loop-len-test.false
