use Rattle.std.proofs.Common.{sym, ap, ◌∙◌}
use Rattle.std.proofs.Common.{◌-◌, slice_get}
use Rattle.registrar.specs.RegisterState.{verdict_among}
use Rattle.registrar.proofs.Numbered.{numbered}
use Rattle.registrar.proofs.register.Register.verdict.Goals as goal

pub returns : goal.returns
returns c = record {
  value =
      c.at_number.ensures.value ∙ ap (λ vs. slice_get vs (c.args.n - 1)) c.as_slice.ensures.value
      ∙ sym (numbered c.self.inside.settled.verdicts.items c.args.n c.at_number.ensures.positive) ∙ ap (λ s. verdict_among s.verdicts c.args.n) c.self.view_is;
}
