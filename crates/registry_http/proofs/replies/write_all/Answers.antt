use Rattle.std.proofs.Common.{◌∙◌, arith, refl}
use Rattle.registry_http.proofs.Written.{Appends-take, AppendsPart-take}
use Rattle.std.proofs.lemmas.Grind.{common_steps}
use Rattle.registry_http.proofs.replies.write_all.Goals as goal

pub loop-done-preserved : goal.loop-done-preserved
loop-done-preserved g c = record {
  fits = grind (arith, common_steps);
  so_far = Appends-take _ _ _ _ _ _ c.loop-done.invariant.so_far c.in-Took.ensures.content;
  left = c.in-Took.ensures.left ∙ c.loop-done.invariant.left;
  quiet = c.in-Took.ensures.cause.else_same refl ∙ c.loop-done.invariant.quiet;
}

pub returns-in-Failed-clause-part : goal.returns-in-Failed-clause-part
returns-in-Failed-clause-part g c =
    AppendsPart-take _ _ _ _ c.loop-done.done c.loop-done-test.true c.loop-done.invariant.so_far c.in-Failed.ensures.content
