use Rattle.act_model.specs.declared.items.Item.TheVariants.{Cure}
use Rattle.registrar.proofs.FiledSteps.{step_fits, step_knows, step_settles}
use Rattle.registrar.proofs.settling.settle_cure.Goals as goal

pub judge_again-requires-clause-room : goal.judge_again-requires-clause-room
judge_again-requires-clause-room g c = step_fits c.args.journal.now.receipts c.args.item (Cure c.args.filing c.args.docs.now) (g.P.Parts.holds c.args.parts.now) (g.P.Parts.at c.args.parts.now) (g.P.Parts.room c.args.parts.now) c.requires tt

pub judge_again-requires-clause-exchanges : goal.judge_again-requires-clause-exchanges
judge_again-requires-clause-exchanges g c = step_knows c.args.journal.now.receipts c.args.item (Cure c.args.filing c.args.docs.now) (g.P.Parts.holds c.args.parts.now) (g.P.Parts.at c.args.parts.now) (g.P.Parts.room c.args.parts.now) c.requires

pub returns-clause-settles : goal.returns-clause-settles
returns-clause-settles g c =
    step_settles c.args.journal.now.receipts c.args.item (Cure c.args.filing c.args.docs.now) (g.P.Parts.holds c.args.parts.now) (g.P.Parts.at c.args.parts.now) (g.P.Parts.room c.args.parts.now) c.requires
    (g.P.Parts.at c.judge_again.new.parts) (g.P.Parts.room c.judge_again.new.parts) c.judge_again.result tt c.judge_again.ensures.verdict c.judge_again.ensures.added
