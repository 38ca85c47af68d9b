-- What verdicts count as, by the name of the count.
use Rattle.std.specs.Prelude.{Bool}
use Rattle.registrar.specs.declared.verdicts.Verdict.{Verdict}
use Rattle.folio_extract.specs.Summaries.{is_cured, is_entered, is_interim, is_other, is_rejected}
use Rattle.folio_extract.specs.declared.summaries.Tally.{Tally}
use Rattle.folio_extract.specs.declared.summaries.Tally.TheVariants as tally

-- the verdict counts as this
abbrev pub counts_as : Tally → Verdict → Bool
counts_as tally.Entered v = is_entered v
counts_as tally.Rejected v = is_rejected v
counts_as tally.Interim v = is_interim v
counts_as tally.Cured v = is_cured v
counts_as tally.Other v = is_other v
