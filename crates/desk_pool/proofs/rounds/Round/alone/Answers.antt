use Rattle.std.proofs.Common.{◌∙◌, subst, sym}
use Rattle.conflict_queue.specs.Schedules.{IsPermitted}
use Rattle.desk_pool.proofs.rounds.Round.alone.Goals as goal

pub settle_in_row-requires-clause-permitted : goal.settle_in_row-requires-clause-permitted
settle_in_row-requires-clause-permitted g c =
    subst (IsPermitted g.N.JournalName.receipts) (sym (c.as_slice.ensures.value ∙ c.self.invariant.receipts_are)) (c.receipts_in_turn.ensures.permitted g.N.JournalName.receipts)
