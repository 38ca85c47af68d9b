-- What is found in one walk is the least.
use Rattle.std.proofs.Common.{sym, ap, ◌∙◌}
use Rattle.std.proofs.lemmas.List.{drop_all}
use Rattle.auction_classes.specs.LowestBid.{least}
use Rattle.auction_classes.specs.inner.Covers.{covers_from, least_from}
use Rattle.auction_classes.proofs.EarlierSeizures.{covers_are}
use Rattle.auction_classes.proofs.LeastCovers.{least_found}
use Rattle.auction_classes.proofs.covers.cover_of_base.Goals as goal

pub returns-clause-value : goal.returns-clause-value
returns-clause-value c =
    let four = c.args.slots.now.filled in
    let seizures = c.args.seizures.now in
    let walk = c.loop-seizure in
    sym (ap (λ zs. least_from walk.least (covers_from four walk.before zs)) (drop_all walk.seizure-index seizures c.loop-seizure-test.false))
    ∙ walk.invariant.covered ∙ least_found (covers_from four 0 seizures) ∙ ap least (covers_are four seizures)
