use Rattle.std.proofs.Common.{IsTrue, sym, subst}
use Rattle.folio_sections.specs.Cases.{is_distribution}
use Rattle.folio_sections.specs.Held.{entries_at}
use Rattle.folio_sections.specs.declared.entries.Entry.{Entry}
use Rattle.registrar.specs.KeptDistributions.{IsDistributionKept}
use Rattle.folio_extract.proofs.plans.add_plans_by.Goals as goal

pub add_plan_by-requires-clause-kept : goal.add_plan_by-requires-clause-kept
add_plan_by-requires-clause-kept c =
    subst (λ (e : Entry). IsTrue (is_distribution e.what) → IsDistributionKept c.args.journal.now.receipts (entries_at c.args.register.now.parts) c.args.folio e.receipt)
    (sym c.entry-item.is) (c.requires.kept c.loop-entry.entry-index c.entry-item.result c.loop-entry-test.true)
