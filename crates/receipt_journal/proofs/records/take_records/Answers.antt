use Rattle.std.proofs.Common.{arith}
use Rattle.receipt_journal.proofs.Placing.{all_taken, refused_at, at_exit}
use Rattle.receipt_journal.specs.inner.Taking.{RefusesFrames}
use Rattle.receipt_journal.proofs.records.take_records.Goals as goal

pub returns-in_err-take_record-clause-refused : goal.returns-in_err-take_record-clause-refused
returns-in_err-take_record-clause-refused c = λ bodies frames_are.
    at_exit c.from_residual.result (RefusesFrames bodies) _ c.from_residual.ensures.1
    (refused_at c.args.frames.now c.loop-frame.frame-index c.loop-frame.journal.receipts c.frame-item.result _ c.loop-frame.invariant c.loop-frame-test.true c.frame-item.is c.in_err-take_record.ensures.refused bodies frames_are)

pub returns-clause-taken : goal.returns-clause-taken
returns-clause-taken c = λ bodies frames_are.
    all_taken c.args.frames.now c.loop-frame.journal.receipts bodies c.loop-frame.frame-index c.loop-frame.invariant (omega arith) frames_are
