-- Where no place is dropped, none of the right's is.
use Rattle.std.proofs.Common.{ap, not, sym, ◌∙◌}
use Rattle.rank_slots.proofs.TakenOut.{none_dropped}
use Rattle.rank_slots.proofs.cutting.stays.Goals as goal
use Rattle.rank_slots.proofs.cutting.stays.Goals.{then-any, else-any}

pub returns : goal.returns
returns c =
    elim c.if-any.branch [
      | then-any w ↦ ap not (w.result-is ∙ w.is_dropped.ensures)
      | else-any w ↦ ap not (w.result-is ∙ w.if-any.false ∙ sym (none_dropped c.args.places.now c.args.right (sym c.requires ∙ w.if-any.false)))
    ]
