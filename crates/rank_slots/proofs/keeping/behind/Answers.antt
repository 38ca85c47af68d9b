-- Where the exchanges begin with the last ones, the others follow.
use Rattle.std.proofs.lemmas.Slice.Eq.{strip_prefix_is}
use Rattle.rank_slots.proofs.SameFillings.{some_alone, swap_decides}
use Rattle.rank_slots.proofs.keeping.behind.Goals as goal

pub returns : goal.returns
returns c = some_alone _ _ c.strip_prefix.result (strip_prefix_is swap_decides c.args.swaps.now c.args.last.now c.strip_prefix.result c.strip_prefix.ensures.cases)
