use Rattle.std.proofs.Common.{cond, Some, None, is_none, sym, ap, ◌∙◌}
use Rattle.std.specs.Result.{result_ok}
use Rattle.gb_base.specs.declared.sections.Section.TheVariants as section
use Rattle.sale_rules.proofs.CallsAsKept.{call_as_kept}
use Rattle.sale_rules.proofs.FoundAsKept.{case_key}
use Rattle.sale_rules.proofs.SalesFound.{call_finds}
use Rattle.sale_rules.proofs.calls.lowest_called.Goals as goal

pub compute_lowest-requires-clause-found : goal.compute_lowest-requires-clause-found
compute_lowest-requires-clause-found g c =
    let v = c.args.sale.now in
    call_finds v.journal.now.receipts (g.P.Parts.holds v.parts.now) (g.P.Parts.at v.parts.now) v.folio v.item c.requires.call.0 c.requires.call.1
    (c.requires.held.held _ (case_key v.journal.now.receipts v.item v.folio)) (sym c.lacks_case.ensures ∙ c.if-lacks_case.false)

pub returns-in-Ok-clause-answer : goal.returns-in-Ok-clause-answer
returns-in-Ok-clause-answer g c register stands kept =
    let v = c.args.sale.now in
    ap (λ o. cond (is_none (result_ok o)) (Some section.Zvg43) None) (sym c.in-Ok.is)
    ∙ call_as_kept v.journal.now.receipts (g.P.Parts.holds v.parts.now) (g.P.Parts.at v.parts.now) register v.folio v.item (result_ok c.compute_lowest.result) stands
    (c.requires.held.held _ (case_key v.journal.now.receipts v.item v.folio)) (sym c.lacks_case.ensures ∙ c.if-lacks_case.false)
    (sym c.is_awarded.ensures ∙ c.if-is_awarded.false) (c.compute_lowest.ensures.value register stands kept)

pub returns-in-Ok-clause-lowest : goal.returns-in-Ok-clause-lowest
returns-in-Ok-clause-lowest g c register stands kept = sym (c.compute_lowest.ensures.value register stands kept) ∙ ap result_ok c.in-Ok.is

pub returns-in-Err-clause-answer : goal.returns-in-Err-clause-answer
returns-in-Err-clause-answer g c register stands kept =
    let v = c.args.sale.now in
    ap (λ o. cond (is_none (result_ok o)) (Some section.Zvg43) None) (sym c.in-Err.is)
    ∙ call_as_kept v.journal.now.receipts (g.P.Parts.holds v.parts.now) (g.P.Parts.at v.parts.now) register v.folio v.item (result_ok c.compute_lowest.result) stands
    (c.requires.held.held _ (case_key v.journal.now.receipts v.item v.folio)) (sym c.lacks_case.ensures ∙ c.if-lacks_case.false)
    (sym c.is_awarded.ensures ∙ c.if-is_awarded.false) (c.compute_lowest.ensures.value register stands kept)
