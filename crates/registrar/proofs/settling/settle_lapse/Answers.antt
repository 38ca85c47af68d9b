use Rattle.std.proofs.Common.{ap, ◌∙◌}
use Rattle.registrar.proofs.FiledSteps.{step_fits, step_settles}
use Rattle.registrar.specs.Brings.{verdict_on_lapse}
use Rattle.registrar.specs.inner.Steps.{lapse_item}
use Rattle.registrar.proofs.settling.settle_lapse.Goals as goal

pub lapse-requires-clause-room : goal.lapse-requires-clause-room
lapse-requires-clause-room g c = step_fits c.args.journal.now.receipts c.args.item (lapse_item c.args.filing) (g.P.Parts.holds c.args.parts.now) (g.P.Parts.at c.args.parts.now) (g.P.Parts.room c.args.parts.now) c.requires tt

pub returns-clause-settles : goal.returns-clause-settles
returns-clause-settles g c =
    step_settles c.args.journal.now.receipts c.args.item (lapse_item c.args.filing) (g.P.Parts.holds c.args.parts.now) (g.P.Parts.at c.args.parts.now) (g.P.Parts.room c.args.parts.now) c.requires
    (g.P.Parts.at c.lapse.new.parts) (g.P.Parts.room c.lapse.new.parts) c.verdict_on_lapse.result tt (c.verdict_on_lapse.ensures ∙ ap verdict_on_lapse c.lapse.ensures.answer) c.lapse.ensures.added
