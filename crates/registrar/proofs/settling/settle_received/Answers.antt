use Rattle.std.proofs.Common.{sym, ap, subst, ◌∙◌}
use Rattle.folio_sections.specs.Adding.{AddsList, HasRoom}
use Rattle.consent_rules.specs.declared.judgements.Judgement.{Judgement}
use Rattle.registrar.proofs.FiledSteps.{judged_so, step_fits, step_knows, step_settles}
use Rattle.registrar.specs.Brings.{brought_by_filing}
use Rattle.registrar.specs.inner.Steps.{filing_item}
use Rattle.registrar.proofs.settling.settle_received.Goals as goal

pub judge-judgement-requires-clause-exchanges : goal.judge-judgement-requires-clause-exchanges
judge-judgement-requires-clause-exchanges g c = step_knows c.args.journal.now.receipts c.args.item (filing_item c.args.filing.now) (g.P.Parts.holds c.args.parts.now) (g.P.Parts.at c.args.parts.now) (g.P.Parts.room c.args.parts.now) c.requires

pub settle_filing-requires-clause-room : goal.settle_filing-requires-clause-room
settle_filing-requires-clause-room g c =
    let at = g.P.Parts.at c.args.parts.now in
    let so = judged_so c.args.journal.now.receipts c.args.item c.args.filing.now at c.judge-judgement.result c.requires.item c.judge-judgement.ensures in
    subst (λ (j : Judgement). HasRoom (g.P.Parts.room c.args.parts.now) (brought_by_filing c.args.journal.now.receipts c.args.item at j).entries) (sym so)
    (step_fits c.args.journal.now.receipts c.args.item (filing_item c.args.filing.now) (g.P.Parts.holds c.args.parts.now) (g.P.Parts.at c.args.parts.now) (g.P.Parts.room c.args.parts.now) c.requires tt)

pub returns-clause-settles : goal.returns-clause-settles
returns-clause-settles g c =
    let at = g.P.Parts.at c.args.parts.now in
    let so = judged_so c.args.journal.now.receipts c.args.item c.args.filing.now at c.judge-judgement.result c.requires.item c.judge-judgement.ensures in
    step_settles c.args.journal.now.receipts c.args.item (filing_item c.args.filing.now) (g.P.Parts.holds c.args.parts.now) (g.P.Parts.at c.args.parts.now) (g.P.Parts.room c.args.parts.now) c.requires
    (g.P.Parts.at c.settle_filing.new.parts) (g.P.Parts.room c.settle_filing.new.parts) c.settle_filing.result tt
    (c.settle_filing.ensures.verdict ∙ ap (λ (j : Judgement). (brought_by_filing c.args.journal.now.receipts c.args.item at j).verdict) so)
    (subst (λ (j : Judgement). AddsList at (g.P.Parts.at c.settle_filing.new.parts) (g.P.Parts.room c.args.parts.now) (g.P.Parts.room c.settle_filing.new.parts) (brought_by_filing c.args.journal.now.receipts c.args.item at j).entries) so
    c.settle_filing.ensures.added)
