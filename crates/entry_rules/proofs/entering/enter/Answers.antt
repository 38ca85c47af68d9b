-- The contents are read once the places stand.
use Rattle.std.proofs.Common.{◌≡◌, Some, rules}
use Rattle.act_model.specs.Touches.{filing_at}
use Rattle.entry_rules.proofs.Entered.{all_entered}
use Rattle.entry_rules.proofs.entering.enter.Goals as goal

pub returns-clause-added : goal.returns-clause-added
returns-clause-added g c =
    let is : filing_at c.args.journal.now.receipts c.args.filing ≡ Some c.unwrap.result.now = search rules in
    all_entered c.args.journal.now.receipts c.args.filing c.args.item (g.P.Parts.at c.args.parts.now) (g.P.Parts.at c.add_places.new.parts) (g.P.Parts.at c.add_contents.new.parts)
    (g.P.Parts.room c.args.parts.now) (g.P.Parts.room c.add_places.new.parts) (g.P.Parts.room c.add_contents.new.parts)
    c.unwrap.result.now is c.add_places.ensures.added c.add_contents.ensures.added
