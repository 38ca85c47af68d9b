use Rattle.act_codec.specs.Spelling.{u32_bytes}
use Rattle.act_codec.specs.Values.{IsNumber}
use Rattle.act_codec.specs.inner.Reading.{read_id}
use Rattle.act_codec.proofs.Loop.{so_far_more, so_far_fails}
use Rattle.act_codec.proofs.acts.read_persons.Goals as goal

pub loop-preserved : goal.loop-preserved
loop-preserved c =
    rw c.push.ensures.items
    (so_far_more read_id u32_bytes IsNumber c.args.count c.loop.counter c.args.from.now c.loop.from c.person.new.self c.loop.persons.items c.in_ok-person.field-0 c.loop.invariant c.loop-test.true c.in_ok-person.ensures.read c.in_ok-person.ensures.found.0 c.in_ok-person.ensures.found.1)

pub returns-in_err-person-clause-read : goal.returns-in_err-person-clause-read
returns-in_err-person-clause-read c =
    rw c.from_residual.ensures
    (so_far_fails read_id u32_bytes IsNumber c.args.count c.loop.counter c.args.from.now c.loop.from c.loop.persons.items c.loop.invariant c.loop-test.true c.in_err-person.ensures.read)
