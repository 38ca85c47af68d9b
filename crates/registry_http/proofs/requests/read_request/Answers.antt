use Rattle.registry_http.specs.Requests.{ReadsNext}
use Rattle.registry_http.proofs.ReadSoFar.{answer_since, whole_request, reads_then, memory_after, at_exit}
use Rattle.registry_http.proofs.requests.read_request.Goals as goal

pub returns-in_err-read_body-clause-answer : goal.returns-in_err-read_body-clause-answer
returns-in_err-read_body-clause-answer g c =
    at_exit c.from_residual-in_err-read_body.result
    (ReadsNext (g.L.Link.left c.args.link.now) (g.L.Link.left c.read_body.new.link) c.args.bytes.now.items c.read_body.new.bytes.items) _
    c.from_residual-in_err-read_body.ensures.1
    (answer_since _ _ _ _ c.read_head.new.bytes.items _ _ c.in_ok-begun.ensures.reads c.in_err-read_body.ensures.answer)

pub returns-in_err-take_request-clause-answer : goal.returns-in_err-take_request-clause-answer
returns-in_err-take_request-clause-answer g c =
    at_exit c.from_residual-in_err-take_request.result
    (ReadsNext (g.L.Link.left c.args.link.now) (g.L.Link.left c.read_body.new.link) c.args.bytes.now.items c.take_request.new.bytes.items) _
    c.from_residual-in_err-take_request.ensures.1
    (memory_after _ _ _ c.read_body.new.bytes.items _ (reads_then _ _ _ _ c.read_head.new.bytes.items _ c.in_ok-begun.ensures.reads c.in_ok-read_body.ensures.reads)
    c.take_request.ensures.few)

pub returns-clause-request : goal.returns-clause-request
returns-clause-request g c =
    whole_request _ _ _ _ c.read_head.new.bytes.items c.read_body.new.bytes.items _ _ _ _ _ _ _ c.in_ok-begun.ensures.reads c.in_ok-begun.ensures.head
    c.in_ok-read_body.ensures.reads c.in_ok-read_body.ensures.long c.in_ok-take_request.ensures.request c.in_ok-take_request.ensures.rest
