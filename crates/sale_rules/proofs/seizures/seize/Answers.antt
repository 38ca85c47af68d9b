use Rattle.std.proofs.Common.{[], ◌∷◌, sym, ◌∙◌}
use Rattle.gb_base.specs.declared.keys.Key.TheVariants.{Case}
use Rattle.folio_sections.specs.Entries.{entry_by}
use Rattle.folio_sections.specs.declared.entries.What.TheVariants as what
use Rattle.auction_classes.specs.Sales.{sale_at}
use Rattle.sale_rules.specs.SaleGrounds.{refusal_of_seizure}
use Rattle.sale_rules.proofs.Brought.{brings_none, brings_one}
use Rattle.sale_rules.proofs.FoundAsKept.{seizure_as_kept}
use Rattle.sale_rules.proofs.seizures.seize.Goals as goal

pub returns-in-Some-clause-answer : goal.returns-in-Some-clause-answer
returns-in-Some-clause-answer g c register stands kept =
    let journal = c.args.journal.now.receipts in
    sym c.in-Some.is ∙ c.refusal.ensures
    ∙ seizure_as_kept _ journal (g.P.Parts.holds c.args.parts.now) (g.P.Parts.at c.args.parts.now) register c.args.folio c.args.item c.args.basis.now c.new-sale.ensures.sale
    (record { received = c.is_a_journal.ensures.journal; stands = stands; kept = kept; held = c.requires.parts.held })

pub returns-in-Some-clause-added : goal.returns-in-Some-clause-added
returns-in-Some-clause-added g c register stands kept =
    let s = sale_at c.args.journal.now.receipts register c.args.folio c.args.item in
    brings_none (g.P.Parts.at c.args.parts.now) (g.P.Parts.room c.args.parts.now) (refusal_of_seizure s c.args.basis.now) c.in-Some.section
    (entry_by s.journal s.item (Case s.folio) what.Seized ∷ []) (returns-in-Some-clause-answer g c register stands kept)

pub returns-in-None-clause-answer : goal.returns-in-None-clause-answer
returns-in-None-clause-answer g c register stands kept =
    let journal = c.args.journal.now.receipts in
    sym c.in-None.is ∙ c.refusal.ensures
    ∙ seizure_as_kept _ journal (g.P.Parts.holds c.args.parts.now) (g.P.Parts.at c.args.parts.now) register c.args.folio c.args.item c.args.basis.now c.new-sale.ensures.sale
    (record { received = c.is_a_journal.ensures.journal; stands = stands; kept = kept; held = c.requires.parts.held })

pub returns-in-None-clause-added : goal.returns-in-None-clause-added
returns-in-None-clause-added g c register stands kept =
    let s = sale_at c.args.journal.now.receipts register c.args.folio c.args.item in
    brings_one (g.P.Parts.at c.args.parts.now) (g.P.Parts.at c.add.new.parts) (g.P.Parts.room c.args.parts.now) (g.P.Parts.room c.add.new.parts)
    (refusal_of_seizure s c.args.basis.now) c.entry_by.result (entry_by s.journal s.item (Case s.folio) what.Seized)
    (returns-in-None-clause-answer g c register stands kept) c.entry_by.ensures c.add.ensures.added
