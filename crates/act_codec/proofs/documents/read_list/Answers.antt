use Rattle.act_codec.specs.Spelling.{doc_bytes}
use Rattle.act_codec.specs.Values.{IsDoc}
use Rattle.act_codec.specs.inner.Reading.{read_doc}
use Rattle.act_codec.proofs.Loop.{so_far_more, so_far_fails}
use Rattle.act_codec.proofs.documents.read_list.Goals as goal

pub loop-preserved : goal.loop-preserved
loop-preserved c =
    rw c.push.ensures.items
    (so_far_more read_doc doc_bytes IsDoc c.args.count c.loop.counter c.args.from.now c.loop.from c.read_doc.new.from c.loop.docs.items c.in_ok-read_doc.field-0 c.loop.invariant c.loop-test.true c.in_ok-read_doc.ensures.read c.in_ok-read_doc.ensures.found.0 c.in_ok-read_doc.ensures.found.1)

pub returns-in_err-read_doc-clause-read : goal.returns-in_err-read_doc-clause-read
returns-in_err-read_doc-clause-read c =
    rw c.from_residual.ensures
    (so_far_fails read_doc doc_bytes IsDoc c.args.count c.loop.counter c.args.from.now c.loop.from c.loop.docs.items c.loop.invariant c.loop-test.true c.in_err-read_doc.ensures.read)
