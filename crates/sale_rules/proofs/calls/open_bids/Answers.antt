use Rattle.std.proofs.Common.{◌≡◌, IfOk, Some, rules, sym, ap, subst}
use Rattle.std.specs.Result.{result_err}
use Rattle.gb_base.specs.declared.keys.Key.TheVariants.{Case}
use Rattle.sale_rules.specs.SaleGrounds.{lowest, refusal_of_call}
use Rattle.sale_rules.specs.inner.LowestFound.{IsCall}
use Rattle.sale_rules.proofs.Brought.{one_fits}
use Rattle.sale_rules.proofs.FoundAsKept.{case_key}
use Rattle.sale_rules.proofs.ViewedSales.{of_view}
use Rattle.sale_rules.proofs.calls.open_bids.Goals as goal

pub add-requires-clause-room : goal.add-requires-clause-room
add-requires-clause-room g c =
    one_fits (g.P.Parts.room c.args.parts.now) c.entry_by.result (Case c.args.folio) (ap (λ e. e.key) c.entry_by.ensures)
    (c.requires.parts.has_room (Case c.args.folio) (case_key c.args.journal.now.receipts c.args.item c.args.folio))

pub lowest_called-requires-clause-call : goal.lowest_called-requires-clause-call
lowest_called-requires-clause-call g c = subst IsCall (sym c.new-sale.ensures.sale) (c.args.costs, c.requires.call)

pub returns-clause-answer : goal.returns-clause-answer
returns-clause-answer g c register stands kept =
    let answer = of_view g.P.Parts.holds g.P.Parts.at (λ s. result_err c.lowest_called.result ≡ refusal_of_call s) c.new-sale.ensures.made c.lowest_called.ensures.answer register stands kept in
    search rules

pub returns-clause-lowest : goal.returns-clause-lowest
returns-clause-lowest g c register stands kept =
    let answer = of_view g.P.Parts.holds g.P.Parts.at (λ s. result_err c.lowest_called.result ≡ refusal_of_call s) c.new-sale.ensures.made c.lowest_called.ensures.answer register stands kept in
    let least = of_view g.P.Parts.holds g.P.Parts.at (λ s. IfOk c.lowest_called.result (λ least. lowest s ≡ Some least)) c.new-sale.ensures.made c.lowest_called.ensures.lowest register stands kept in
    search rules

pub returns-clause-added : goal.returns-clause-added
returns-clause-added g c register stands kept =
    let answer = of_view g.P.Parts.holds g.P.Parts.at (λ s. result_err c.lowest_called.result ≡ refusal_of_call s) c.new-sale.ensures.made c.lowest_called.ensures.answer register stands kept in
    search rules
