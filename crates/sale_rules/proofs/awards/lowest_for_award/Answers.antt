use Rattle.std.proofs.Common.{sym, ap, ◌∙◌}
use Rattle.std.proofs.lemmas.Result.{IfOk-weaker}
use Rattle.auction_classes.specs.Sales.{sale_at}
use Rattle.sale_rules.specs.SaleGrounds.{lowest}
use Rattle.sale_rules.proofs.CallsAsKept.{award_as_kept, least_found, refused_by}
use Rattle.sale_rules.proofs.FoundAsKept.{case_key}
use Rattle.sale_rules.proofs.SalesFound.{award_finds}
use Rattle.sale_rules.proofs.awards.lowest_for_award.Goals as goal

pub lowest_found-requires-clause-found : goal.lowest_found-requires-clause-found
lowest_found-requires-clause-found g c =
    let v = c.args.sale.now in
    award_finds v.journal.now.receipts (g.P.Parts.holds v.parts.now) (g.P.Parts.at v.parts.now) v.folio v.item c.requires.award.0 c.requires.award.1 c.requires.award.2
    (c.requires.held.held _ (case_key v.journal.now.receipts v.item v.folio)) (sym c.lacks_case.ensures ∙ c.if-lacks_case.false) (sym c.lacks_call.ensures ∙ c.if-lacks_call.false)

pub returns-in-Some-clause-answer : goal.returns-in-Some-clause-answer
returns-in-Some-clause-answer g c register stands kept =
    let v = c.args.sale.now in
    c.enough.ensures.answer ∙ ap (refused_by c.args.bid) (sym c.in-Some.is)
    ∙ award_as_kept v.journal.now.receipts (g.P.Parts.holds v.parts.now) (g.P.Parts.at v.parts.now) register v.folio v.item c.args.bid c.lowest_found.result stands
    (c.requires.held.held _ (case_key v.journal.now.receipts v.item v.folio)) (sym c.lacks_case.ensures ∙ c.if-lacks_case.false)
    (sym c.is_awarded.ensures ∙ c.if-is_awarded.false) (sym c.lacks_call.ensures ∙ c.if-lacks_call.false) (c.lowest_found.ensures.value register stands kept)

pub returns-in-None-clause-answer : goal.returns-in-None-clause-answer
returns-in-None-clause-answer g c register stands kept =
    let v = c.args.sale.now in
    ap (refused_by c.args.bid) (sym c.in-None.is)
    ∙ award_as_kept v.journal.now.receipts (g.P.Parts.holds v.parts.now) (g.P.Parts.at v.parts.now) register v.folio v.item c.args.bid c.lowest_found.result stands
    (c.requires.held.held _ (case_key v.journal.now.receipts v.item v.folio)) (sym c.lacks_case.ensures ∙ c.if-lacks_case.false)
    (sym c.is_awarded.ensures ∙ c.if-is_awarded.false) (sym c.lacks_call.ensures ∙ c.if-lacks_call.false) (c.lowest_found.ensures.value register stands kept)

pub returns-in-Some-clause-lowest : goal.returns-in-Some-clause-lowest
returns-in-Some-clause-lowest g c register stands kept =
    let v = c.args.sale.now in
    least_found c.enough.result (lowest (sale_at v.journal.now.receipts register v.folio v.item)) c.lowest_found.result c.in-Some.lowest (c.lowest_found.ensures.value register stands kept) c.in-Some.is c.enough.ensures.same

pub returns-in-Some-clause-claimed : goal.returns-in-Some-clause-claimed
returns-in-Some-clause-claimed g c register stands kept =
    IfOk-weaker c.enough.result _ _ (λ least same. c.lowest_found.ensures.claimed register stands kept) c.enough.ensures.same

pub returns-in-Some-clause-filled : goal.returns-in-Some-clause-filled
returns-in-Some-clause-filled g c = IfOk-weaker c.enough.result _ _ (λ least same. c.in-Some.ensures.filled) c.enough.ensures.same
