use Rattle.std.proofs.Common.{Ok, ◌∙◌, refl, ap, arith}
use Rattle.std.proofs.lemmas.Grind.{common_steps}
use Rattle.registry_http.specs.Requests.{ReadsNext}
use Rattle.registry_http.proofs.ReadSoFar.{broken_in_body, ended_in_body, more_of_body, head_kept, at_exit}
use Rattle.registry_http.proofs.requests.read_body.Goals as goal

pub returns-in_err-read_more-clause-answer : goal.returns-in_err-read_more-clause-answer
returns-in_err-read_more-clause-answer g c =
    at_exit c.from_residual.result
    (ReadsNext (g.L.Link.left c.args.link.now) (g.L.Link.left c.read_more.new.link) c.args.bytes.now.items c.read_more.new.bytes.items) _
    c.from_residual.ensures.1
    (broken_in_body _ _ _ _ c.loop-link.bytes.items _ _ _ _ _ _ _ c.loop-link.invariant.reads c.loop-link.invariant.head (omega arith)
    c.in_err-read_more.ensures.fault)

pub returns-then-not-branch-clause-answer : goal.returns-then-not-branch-clause-answer
returns-then-not-branch-clause-answer g c =
    let end = c.in_ok-read_more.ensures.end (ap Ok c.if-not-branch.true) in
    ended_in_body _ _ _ _ c.loop-link.bytes.items _ _ _ _ _ _ c.loop-link.invariant.reads c.loop-link.invariant.head (omega arith)
    c.in_ok-read_more.ensures.more end.0 end.1

pub loop-link-preserved : goal.loop-link-preserved
loop-link-preserved g c = record {
  block = grind (arith, common_steps);
  head = head_kept _ _ c.loop-link.bytes.items _ _ _ _ _ _ c.loop-link.invariant.head c.in_ok-read_more.ensures.more;
  reads =
      more_of_body _ _ _ _ c.loop-link.bytes.items _ _ _ _ _ _ c.loop-link.invariant.reads c.loop-link.invariant.head (omega arith)
      c.in_ok-read_more.ensures.more;
  written = c.read_more.ensures.written ∙ c.loop-link.invariant.written;
  quiet = c.in_ok-read_more.ensures.cause.else_same refl ∙ c.loop-link.invariant.quiet;
}
