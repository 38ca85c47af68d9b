-- The sum so far, of as many verdicts as are read; each has less than 2^64 cents.
use Rattle.std.proofs.Common.{◌*◌, sum_by, take}
use Rattle.folio_extract.specs.Summaries.{money_of}
use Rattle.folio_extract.proofs.Sums.{IsSum}
use Rattle.folio_extract.proofs.summaries.paid.Given as goal

abbrev pub invariant-loop-verdict : goal.invariant-loop-verdict
invariant-loop-verdict l = IsSum l.cents (sum_by money_of (take l.verdict-index l.verdicts)) (l.verdict-index * 18446744073709551615)
