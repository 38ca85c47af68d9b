use Rattle.std.proofs.Common.{◌+◌, ℕ, drop}
use Rattle.std.specs.List.{enumerate_from}
use Rattle.act_model.specs.Touches.{keys_of_acts}
use Rattle.act_model.specs.declared.filing_acts.Act.{Act}
use Rattle.folio_sections.proofs.Unchanged.{SetsNoPlace}
use Rattle.entry_rules.specs.inner.Acting.{Held}
use Rattle.folio_sections.proofs.Progress.{Progress}
use Rattle.entry_rules.proofs.Steady.{brings}
use Rattle.entry_rules.proofs.contents.add_contents.Given as goal

abbrev pub invariant-loop-index : goal.invariant-loop-index
invariant-loop-index g l =
    Progress (ℕ × Act) (brings l.matter.journal.now.receipts l.matter.number l.matter.item l.matter.filing.now) SetsNoPlace (enumerate_from 1 l.matter.filing.now.acts) (enumerate_from (l.index + 1) (drop l.index l.matter.filing.now.acts))
    (g.P.Parts.at l.fn.parts) (g.P.Parts.at l.parts) (g.P.Parts.room l.fn.parts) (g.P.Parts.room l.parts) (g.P.Parts.holds l.fn.parts) (g.P.Parts.holds l.parts)
    × Held (g.P.Parts.holds l.parts) (keys_of_acts l.matter.journal.now.receipts l.matter.number (l.index + 1) (drop l.index l.matter.filing.now.acts))
