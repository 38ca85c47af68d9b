-- The count so far, of as many verdicts as are read.
use Rattle.std.proofs.Common.{count_by, take}
use Rattle.folio_extract.specs.inner.Tallies.{counts_as}
use Rattle.folio_extract.proofs.Sums.{IsSum}
use Rattle.folio_extract.proofs.summaries.count.Given as goal

abbrev pub invariant-loop-verdict : goal.invariant-loop-verdict
invariant-loop-verdict l = IsSum l.count (count_by (counts_as l.tally) (take l.verdict-index l.verdicts)) l.verdict-index
