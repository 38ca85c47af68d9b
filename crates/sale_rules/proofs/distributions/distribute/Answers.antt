use Rattle.std.proofs.Common.{cond, [], ◌∷◌, Some, None, is_none, sym, ap, ◌∙◌}
use Rattle.gb_base.specs.declared.keys.Key.TheVariants.{Case}
use Rattle.folio_sections.specs.Entries.{entry_by}
use Rattle.folio_sections.specs.declared.entries.What.TheVariants as what
use Rattle.auction_classes.specs.Sales.{sale_at}
use Rattle.sale_rules.specs.SaleGrounds.{refusal_of_distribution}
use Rattle.sale_rules.specs.SaleMoney.{money}
use Rattle.sale_rules.proofs.Brought.{brings_none, brings_one, one_fits}
use Rattle.sale_rules.proofs.FoundAsKept.{case_key, distribution_as_kept, money_as_kept}
use Rattle.sale_rules.proofs.distributions.distribute.Goals as goal

pub add-requires-clause-room : goal.add-requires-clause-room
add-requires-clause-room g c =
    one_fits (g.P.Parts.room c.args.parts.now) c.entry_by.result (Case c.args.folio) (ap (λ e. e.key) c.entry_by.ensures)
    (c.requires.parts.has_room (Case c.args.folio) (case_key c.args.journal.now.receipts c.args.item c.args.folio))

pub returns-in-Some-clause-answer : goal.returns-in-Some-clause-answer
returns-in-Some-clause-answer g c register stands kept =
    let journal = c.args.journal.now.receipts in
    sym c.in-Some.is ∙ c.refusal.ensures
    ∙ distribution_as_kept _ journal (g.P.Parts.holds c.args.parts.now) (g.P.Parts.at c.args.parts.now) register c.args.folio c.args.item c.new-sale.ensures.sale
    (record { stands = stands; held = c.requires.parts.held (Case c.args.folio) (case_key journal c.args.item c.args.folio) })

pub returns-in-Some-clause-money : goal.returns-in-Some-clause-money
returns-in-Some-clause-money g c register stands kept =
    ap (λ o. cond (is_none o) (Some (money (sale_at c.args.journal.now.receipts register c.args.folio c.args.item))) None) (returns-in-Some-clause-answer g c register stands kept)

pub returns-in-Some-clause-added : goal.returns-in-Some-clause-added
returns-in-Some-clause-added g c register stands kept =
    let s = sale_at c.args.journal.now.receipts register c.args.folio c.args.item in
    brings_none (g.P.Parts.at c.args.parts.now) (g.P.Parts.room c.args.parts.now) (refusal_of_distribution s) c.in-Some.section
    (entry_by s.journal s.item (Case s.folio) what.Distributed ∷ []) (returns-in-Some-clause-answer g c register stands kept)

pub returns-in-None-clause-answer : goal.returns-in-None-clause-answer
returns-in-None-clause-answer g c register stands kept =
    let journal = c.args.journal.now.receipts in
    sym c.in-None.is ∙ c.refusal.ensures
    ∙ distribution_as_kept _ journal (g.P.Parts.holds c.args.parts.now) (g.P.Parts.at c.args.parts.now) register c.args.folio c.args.item c.new-sale.ensures.sale
    (record { stands = stands; held = c.requires.parts.held (Case c.args.folio) (case_key journal c.args.item c.args.folio) })

pub returns-in-None-clause-money : goal.returns-in-None-clause-money
returns-in-None-clause-money g c register stands kept =
    let journal = c.args.journal.now.receipts in
    let cents = money (sale_at journal register c.args.folio c.args.item) in
    ap Some (c.money_found-cents.ensures
    ∙ money_as_kept _ journal (g.P.Parts.holds c.args.parts.now) (g.P.Parts.at c.args.parts.now) register c.args.folio c.args.item c.new-sale.ensures.sale
    (record { stands = stands; held = c.requires.parts.held (Case c.args.folio) (case_key journal c.args.item c.args.folio) }))
    ∙ ap (λ o. cond (is_none o) (Some cents) None) (returns-in-None-clause-answer g c register stands kept)

pub returns-in-None-clause-added : goal.returns-in-None-clause-added
returns-in-None-clause-added g c register stands kept =
    let s = sale_at c.args.journal.now.receipts register c.args.folio c.args.item in
    brings_one (g.P.Parts.at c.args.parts.now) (g.P.Parts.at c.add.new.parts) (g.P.Parts.room c.args.parts.now) (g.P.Parts.room c.add.new.parts)
    (refusal_of_distribution s) c.entry_by.result (entry_by s.journal s.item (Case s.folio) what.Distributed)
    (returns-in-None-clause-answer g c register stands kept) c.entry_by.ensures c.add.ensures.added
