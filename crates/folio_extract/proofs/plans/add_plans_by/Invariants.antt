use Rattle.std.proofs.Common.{◌≡◌, ◌++◌, drop, flat_map}
use Rattle.std.specs.String.{string_bytes}
use Rattle.folio_sections.specs.Held.{entries_at}
use Rattle.folio_extract.specs.Plans.{plan_by}
use Rattle.folio_extract.proofs.plans.add_plans_by.Given as goal

abbrev pub invariant-loop-entry : goal.invariant-loop-entry
invariant-loop-entry l =
    string_bytes l.text ++ flat_map (plan_by l.journal.receipts (entries_at l.register.parts) l.folio) (drop l.entry-index l.entries)
    ≡ string_bytes l.fn.text ++ flat_map (plan_by l.journal.receipts (entries_at l.register.parts) l.folio) l.entries
