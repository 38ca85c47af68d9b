use Rattle.std.proofs.Common.{◌∙◌, refl, arith}
use Rattle.std.proofs.lemmas.Grind.{common_steps}
use Rattle.registry_http.specs.Requests.{ReadsNext}
use Rattle.registry_http.proofs.HeadLines.{open_lines, over_lines, lines_on}
use Rattle.registry_http.proofs.ReadSoFar.{brought, broke_off, at_exit}
use Rattle.registry_http.proofs.requests.read_lines.Goals.{then-loop-lines-test+else-not-are_over, else-loop-lines-test}
use Rattle.registry_http.proofs.requests.read_lines.Goals as goal

pub returns-in_err-read_more-clause-answer : goal.returns-in_err-read_more-clause-answer
returns-in_err-read_more-clause-answer g c =
    at_exit c.from_residual.result
    (ReadsNext (g.L.Link.left c.args.link.now) (g.L.Link.left c.read_more.new.link) c.args.bytes.now.items c.read_more.new.bytes.items) _
    c.from_residual.ensures.1
    (broke_off _ _ _ _ c.loop-lines.bytes.items _ _ c.loop-lines.invariant.reads
    (open_lines c.loop-lines.bytes.items c.loop-lines.lines _ (omega arith) c.loop-lines.invariant.lines c.are_over.ensures c.if-not-are_over.true)
    c.in_err-read_more.ensures.fault)

pub loop-lines-preserved : goal.loop-lines-preserved
loop-lines-preserved g c =
    let more = c.in_ok-read_more.ensures.more in
    record {
      block = grind (arith, common_steps);
      lines =
          lines_on c.loop-lines.bytes.items c.read_more.new.bytes.items _ more.read c.loop-lines.lines _ _ c.after_all-lines-in-loop-lines.ensures
          c.deref-in-loop-lines.ensures.value (omega (arith, c.len-looked.ensures)) c.loop-lines.invariant.lines more.grown;
      reads =
          brought _ _ _ _ c.loop-lines.bytes.items _ c.loop-lines.invariant.reads
          (open_lines c.loop-lines.bytes.items c.loop-lines.lines _ (omega arith) c.loop-lines.invariant.lines c.are_over.ensures c.if-not-are_over.true)
          more;
      written = c.read_more.ensures.written ∙ c.loop-lines.invariant.written;
      quiet = c.in_ok-read_more.ensures.cause.else_same refl ∙ c.loop-lines.invariant.quiet;
    }

pub returns-clause-over : goal.returns-clause-over
returns-clause-over g c lacks =
    elim c.loop-lines-test.branch [
      | then-loop-lines-test+else-not-are_over w ↦
          absurd (over_lines c.loop-lines.bytes.items c.loop-lines.lines _ c.loop-lines.invariant.lines w.are_over.ensures w.if-not-are_over.false lacks)
      | else-loop-lines-test w ↦ let room = lacks.0 in absurd (omega (arith, room))
    ]
