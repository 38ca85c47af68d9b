use Rattle.std.proofs.Common.{All, IsTrue, List, sym, subst}
use Rattle.folio_sections.specs.Cases.{is_distribution}
use Rattle.folio_sections.specs.Held.{entries_at}
use Rattle.folio_sections.specs.declared.entries.Entry.{Entry}
use Rattle.registrar.specs.KeptDistributions.{IsDistributionKept}
use Rattle.folio_extract.proofs.plans.add_plans.Goals as goal

pub add_plans_by-requires-clause-kept : goal.add_plans_by-requires-clause-kept
add_plans_by-requires-clause-kept c =
    subst (λ (entries : List Entry). All (λ e. IsTrue (is_distribution e.what)
    → IsDistributionKept c.args.journal.now.receipts (entries_at c.args.register.now.parts) c.args.folio e.receipt) entries)
    (sym c.case_entries-entries.ensures) (c.requires.told.distributions c.args.folio)
