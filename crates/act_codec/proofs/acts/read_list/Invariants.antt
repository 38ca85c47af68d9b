use Rattle.act_codec.specs.Spelling.{act_bytes}
use Rattle.act_codec.specs.Values.{IsAct}
use Rattle.act_codec.specs.inner.Reading.{read_act}
use Rattle.act_codec.proofs.Loop.{SoFar}
use Rattle.act_codec.proofs.acts.read_list.Given as goal

abbrev pub invariant-loop : goal.invariant-loop
invariant-loop l = SoFar read_act act_bytes IsAct l.count l.counter l.fn.from l.from l.acts.items
