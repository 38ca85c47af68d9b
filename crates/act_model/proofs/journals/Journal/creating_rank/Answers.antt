-- The creating acts of a folio stand in order.
use Rattle.std.proofs.Common.{sym, subst}
use Rattle.act_model.specs.inner.CreationOrder.{Rises}
use Rattle.act_model.proofs.CreationOrder.{creations_rise}
use Rattle.act_model.proofs.journals.Journal.creating_rank.Goals as goal

pub rank_among-requires-clause-rising : goal.rank_among-requires-clause-rising
rank_among-requires-clause-rising c = subst (Rises 0 0) (sym c.creations_in.ensures.value) (creations_rise c.args.self.now.receipts c.in_ok-folio.folio)
