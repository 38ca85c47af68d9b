-- One more is added.
use Rattle.std.proofs.Common.{ap, arith}
use Rattle.std.proofs.lemmas.List.Sums.{sum_by_more}
use Rattle.auction_classes.specs.LowestBid.{remaining_of}
use Rattle.auction_classes.proofs.remaining.remaining_in_all.Goals as goal

pub loop-claimed-preserved : goal.loop-claimed-preserved
loop-claimed-preserved c =
    let f = remaining_of c.args.slots.now.filled c.args.cover in
    let more = sum_by_more f c.args.rights.now c.loop-claimed.claimed-index c.claimed-item.result c.loop-claimed-test.true in
    let here = ap f c.claimed-item.is in
    record {
      sum = omega (arith, c.loop-claimed.invariant.sum, c.remaining_of.ensures, c.from-cents.ensures, more, here);
      few = omega (arith, c.loop-claimed.invariant.few, c.from-cents.ensures);
    }
