use Rattle.std.proofs.Common.{◌∙◌}
use Rattle.sale_rules.proofs.FoundAsKept.{money_as_kept}
use Rattle.sale_rules.proofs.distributions.money_distributed.Goals as goal

pub returns : goal.returns
returns g c register stands kept =
    c.money_found.ensures
    ∙ money_as_kept _ c.args.journal.now.receipts (g.P.Parts.holds c.args.parts.now) (g.P.Parts.at c.args.parts.now) register c.args.folio c.args.item c.new.ensures.sale
    (record { stands = stands; held = c.requires.held })
