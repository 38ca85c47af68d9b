use Rattle.gb_base.proofs.Sharing.{takes_part}
use Rattle.gb_base.proofs.shares.left_over.Goals as goal

pub overflow_sub-left : goal.overflow_sub-left
overflow_sub-left c =
    (takes_part _ _ _ _ _ _ c.requires.total c.requires.short c.loop-claim-test.true c.loop-claim.invariant c.whole_part-left.ensures.value).enough

pub loop-claim-preserved : goal.loop-claim-preserved
loop-claim-preserved c =
    (takes_part _ _ _ _ _ _ c.requires.total c.requires.short c.loop-claim-test.true c.loop-claim.invariant c.whole_part-left.ensures.value).rest
