use Rattle.std.proofs.Common.{◌∙◌, ap, option_copied, sym, take}
use Rattle.gb_base.proofs.Fronts.{last_is}
use Rattle.folio_sections.specs.inner.Marks.{or_never, state_at}
use Rattle.folio_sections.proofs.state_marks.StateMarks.at.Goals as goal

pub returns-in-Some : goal.returns-in-Some
returns-in-Some c =
    ap (λ o. or_never (option_copied o)) (sym c.in-Some.is)
    ∙ ap or_never (c.last.ensures.value ∙ last_is (take c.args.mark c.deref.result.now))
    ∙ ap (state_at c.args.mark) c.deref.ensures.value

pub returns-in-None : goal.returns-in-None
returns-in-None c =
    ap (λ o. or_never (option_copied o)) (sym c.in-None.is)
    ∙ ap or_never (c.last.ensures.value ∙ last_is (take c.args.mark c.deref.result.now))
    ∙ ap (state_at c.args.mark) c.deref.ensures.value
