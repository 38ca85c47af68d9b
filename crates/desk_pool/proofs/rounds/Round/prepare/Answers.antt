use Rattle.std.proofs.Common.{◌∙◌}
use Rattle.desk_pool.proofs.RoundKeys.{is_round}
use Rattle.desk_pool.proofs.rounds.Round.prepare.Goals as goal

pub invariant_of-result : goal.invariant_of-result
invariant_of-result g c =
    is_round
    c.requires
    c.in_ok-frame.ensures
    c.in_ok-ready.ensures
    c.in_ok-receipts.ensures
    c.in_ok-list_unpassed.ensures.none
    (c.in_ok-list_unpassed.ensures.count ∙ c.len.ensures ∙ c.in_ok-receipts.receipts.ok.0)
