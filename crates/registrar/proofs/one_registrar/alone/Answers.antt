use Rattle.std.proofs.Common.{length, sym, ap, subst, ◌∙◌}
use Rattle.std.proofs.lemmas.List.FromFn.{length-enumerate_from}
use Rattle.registrar.proofs.GoingOn.{has_settled}
use Rattle.registrar.specs.HasSettled.{HasSettled, settled_first}
use Rattle.registrar.specs.OpenFolios.{open_folios}
use Rattle.registrar.proofs.one_registrar.alone.Goals as goal

pub returns-clause-settled : goal.returns-clause-settled
returns-clause-settled c =
    subst (HasSettled c.args.journal.now.receipts) (sym c.new.ensures)
    (has_settled c.args.journal.now.receipts c.put_folios_in_order.new.self c.put_folios_in_order.ensures.ascending
    (c.put_folios_in_order.ensures.behind c.args.journal.now.receipts c.in_ok-settled.ensures.behind))

pub returns-clause-folios : goal.returns-clause-folios
returns-clause-folios c =
    let settled = c.put_folios_in_order.new.self in
    ap (λ r. r.folios) c.new.ensures
    ∙ (has_settled c.args.journal.now.receipts settled c.put_folios_in_order.ensures.ascending
    (c.put_folios_in_order.ensures.behind c.args.journal.now.receipts c.in_ok-settled.ensures.behind)).folios
    ∙ ap (λ n. open_folios (settled_first c.args.journal.now.receipts n).entries)
    (length-enumerate_from 1 settled.verdicts.items ∙ ap (λ vs. length vs.items) c.put_folios_in_order.ensures.verdicts ∙ c.in_ok-settled.ensures.all)

pub returns-clause-whole : goal.returns-clause-whole
returns-clause-whole c = record {
  settled = returns-clause-settled c;
  whole = ap (λ r. length r.verdicts) c.new.ensures ∙ length-enumerate_from 1 c.put_folios_in_order.new.self.verdicts.items
      ∙ ap (λ vs. length vs.items) c.put_folios_in_order.ensures.verdicts ∙ c.in_ok-settled.ensures.all;
}
