use Rattle.std.proofs.Common.{ap, sym, subst, ◌∙◌}
use Rattle.act_model.specs.declared.items.Item.TheVariants.{Extend}
use Rattle.folio_sections.specs.Adding.{AddsList, HasRoom}
use Rattle.registrar.proofs.ExtensionsSaid.{answered_so, brought_so}
use Rattle.registrar.proofs.FiledSteps.{step_fits, step_settles}
use Rattle.registrar.specs.Brings.{verdict_on_extension}
use Rattle.registrar.proofs.settling.settle_extension.Goals as goal

pub extend-requires-clause-room : goal.extend-requires-clause-room
extend-requires-clause-room g c =
    let journal = c.args.journal.now.receipts in
    let at = g.P.Parts.at c.args.parts.now in
    subst (HasRoom (g.P.Parts.room c.args.parts.now)) (sym (brought_so journal c.args.filing c.args.days c.args.item at c.requires.item))
    (step_fits journal c.args.item (Extend c.args.filing c.args.days) (g.P.Parts.holds c.args.parts.now) at (g.P.Parts.room c.args.parts.now) c.requires tt)

pub returns-clause-settles : goal.returns-clause-settles
returns-clause-settles g c =
    let journal = c.args.journal.now.receipts in
    let at = g.P.Parts.at c.args.parts.now in
    let room = g.P.Parts.room c.args.parts.now in
    step_settles journal c.args.item (Extend c.args.filing c.args.days) (g.P.Parts.holds c.args.parts.now) at room c.requires
    (g.P.Parts.at c.extend.new.parts) (g.P.Parts.room c.extend.new.parts) c.verdict_on_extension.result tt
    (c.verdict_on_extension.ensures ∙ ap verdict_on_extension (c.extend.ensures.answer ∙ answered_so journal c.args.filing c.args.days c.args.item at c.requires.item))
    (subst (AddsList at (g.P.Parts.at c.extend.new.parts) room (g.P.Parts.room c.extend.new.parts)) (brought_so journal c.args.filing c.args.days c.args.item at c.requires.item) c.extend.ensures.added)
