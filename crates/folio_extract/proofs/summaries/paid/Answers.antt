-- One more is added.
use Rattle.std.proofs.Common.{ap, arith}
use Rattle.std.proofs.lemmas.List.Sums.{sum_by_more}
use Rattle.folio_extract.specs.Summaries.{money_of}
use Rattle.folio_extract.proofs.summaries.paid.Goals as goal

pub loop-verdict-preserved : goal.loop-verdict-preserved
loop-verdict-preserved c =
    let more = sum_by_more money_of c.args.verdicts.now c.loop-verdict.verdict-index c.verdict-item.result c.loop-verdict-test.true in
    let here = ap money_of c.verdict-item.is in
    record {
      is = omega (arith, c.loop-verdict.invariant.is, c.money_of.ensures, c.from-cents.ensures, more, here);
      within = omega (arith, c.loop-verdict.invariant.within, c.from-cents.ensures);
    }
