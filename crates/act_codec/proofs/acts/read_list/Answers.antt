use Rattle.act_codec.specs.Spelling.{act_bytes}
use Rattle.act_codec.specs.Values.{IsAct}
use Rattle.act_codec.specs.inner.Reading.{read_act}
use Rattle.act_codec.proofs.Loop.{so_far_more, so_far_fails}
use Rattle.act_codec.proofs.acts.read_list.Goals as goal

pub loop-preserved : goal.loop-preserved
loop-preserved c =
    rw c.push.ensures.items
    (so_far_more read_act act_bytes IsAct c.args.count c.loop.counter c.args.from.now c.loop.from c.read_act.new.from c.loop.acts.items c.in_ok-read_act.field-0 c.loop.invariant c.loop-test.true c.in_ok-read_act.ensures.read c.in_ok-read_act.ensures.found.0 c.in_ok-read_act.ensures.found.1)

pub returns-in_err-read_act-clause-read : goal.returns-in_err-read_act-clause-read
returns-in_err-read_act-clause-read c =
    rw c.from_residual.ensures
    (so_far_fails read_act act_bytes IsAct c.args.count c.loop.counter c.args.from.now c.loop.from c.loop.acts.items c.loop.invariant c.loop-test.true c.in_err-read_act.ensures.read)
