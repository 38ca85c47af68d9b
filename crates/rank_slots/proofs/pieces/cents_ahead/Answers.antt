-- The cents ahead are those of the pieces ahead.
use Rattle.std.proofs.Common.{ap, length, sym, take, ◌∙◌}
use Rattle.rank_slots.specs.Payments.{is_of_group}
use Rattle.rank_slots.specs.inner.Pieces.{line_of}
use Rattle.rank_slots.proofs.Ahead.{cents_of_pieces_ahead}
use Rattle.rank_slots.proofs.pieces.cents_ahead.Goals as goal

pub returns-clause-value : goal.returns-clause-value
returns-clause-value c =
    c.total.ensures.value
    ∙ ap (λ k. length (line_of (take k c.args.pieces.now))) c.pieces_ahead.ensures.value
    ∙ sym (cents_of_pieces_ahead (is_of_group c.args.group.now) c.args.pieces.now c.requires.joined)
