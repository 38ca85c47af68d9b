use Rattle.act_codec.specs.Spelling.{u32_bytes}
use Rattle.act_codec.specs.Values.{IsNumber}
use Rattle.act_codec.specs.inner.Reading.{read_id}
use Rattle.act_codec.proofs.Loop.{SoFar}
use Rattle.act_codec.proofs.acts.read_persons.Given as goal

abbrev pub invariant-loop : goal.invariant-loop
invariant-loop l = SoFar read_id u32_bytes IsNumber l.count l.counter l.fn.from l.from l.persons.items
