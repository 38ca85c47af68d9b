use Rattle.act_codec.specs.Spelling.{doc_bytes}
use Rattle.act_codec.specs.Values.{IsDoc}
use Rattle.act_codec.specs.inner.Reading.{read_doc}
use Rattle.act_codec.proofs.Loop.{SoFar}
use Rattle.act_codec.proofs.documents.read_list.Given as goal

abbrev pub invariant-loop : goal.invariant-loop
invariant-loop l = SoFar read_doc doc_bytes IsDoc l.count l.counter l.fn.from l.from l.docs.items
