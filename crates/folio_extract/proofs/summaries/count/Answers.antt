-- One more is counted, or not.
use Rattle.std.proofs.Common.{ℕ, ap, arith, cond, ◌∙◌}
use Rattle.folio_extract.specs.inner.Tallies.{counts_as}
use Rattle.folio_extract.proofs.Sums.{counted_more}
use Rattle.folio_extract.proofs.summaries.count.Goals as goal

pub loop-verdict-preserved : goal.loop-verdict-preserved
loop-verdict-preserved c =
    let test = counts_as c.args.tally in
    let more = counted_more test c.args.verdicts.now c.loop-verdict.verdict-index c.verdict-item.result c.loop-verdict-test.true in
    let here = ap {B = ℕ} (λ v. cond (test v) 1 0) c.verdict-item.is in
    let one = c.one_if-count.ensures.value ∙ ap {B = ℕ} (λ b. cond b 1 0) c.counts_as.ensures in
    record {
      is = omega (arith, c.loop-verdict.invariant.is, one, more, here);
      within = omega (arith, c.loop-verdict.invariant.within, c.one_if-count.ensures.bound);
    }
