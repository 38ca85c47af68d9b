use Rattle.registrar.proofs.Additions.{entered_behind}
use Rattle.registrar.proofs.settling.enter_with_notices.Goals as goal

pub returns-clause-added : goal.returns-clause-added
returns-clause-added g c =
    let matter = c.args.matter.now in
    entered_behind matter.journal.now.receipts matter.number matter.item (g.P.Parts.at c.args.parts.now) (g.P.Parts.at c.enter_notices.new.parts) (g.P.Parts.at c.enter.new.parts)
    (g.P.Parts.room c.args.parts.now) (g.P.Parts.room c.enter_notices.new.parts) (g.P.Parts.room c.enter.new.parts) c.enter_notices.ensures.added c.enter.ensures.added
