use Rattle.std.proofs.Common.{◌∙◌, arith, refl}
use Rattle.intake.proofs.Written.{Appends-take, AppendsFront-take}
use Rattle.std.proofs.lemmas.Grind.{common_steps}
use Rattle.intake.proofs.writing.write_all.Goals as goal

pub loop-done-preserved : goal.loop-done-preserved
loop-done-preserved g c = (
  grind (arith, common_steps),
  Appends-take _ _ _ _ _ _ c.loop-done.invariant.1 c.in-Took.ensures.content,
  c.in-Took.ensures.cause.else_same refl ∙ c.loop-done.invariant.2,
)

pub returns-in-Failed-clause-part : goal.returns-in-Failed-clause-part
returns-in-Failed-clause-part g c =
    AppendsFront-take _ _ _ _ c.loop-done.done c.loop-done.invariant.1 c.in-Failed.ensures.content

pub returns-in-Failed-clause-stops : goal.returns-in-Failed-clause-stops
returns-in-Failed-clause-stops g c = record {
  mid = c.loop-done.sink;
  front = AppendsFront-take _ _ _ _ c.loop-done.done c.loop-done.invariant.1 refl;
  unfailed = c.loop-done.invariant.2;
  failed = c.in-Failed.ensures.cause.failed_rose refl;
  none_taken = c.in-Failed.ensures.content;
}
