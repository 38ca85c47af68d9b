-- The pieces of the slots are those of their line.
use Rattle.std.proofs.Common.{All, ap, subst, sum_by, sym, ◌<◌, ◌≤◌, ◌∙◌}
use Rattle.gb_base.specs.Limits.{most_sum}
use Rattle.rank_slots.specs.CentLine.{pieces_of}
use Rattle.rank_slots.specs.Filled.{line}
use Rattle.rank_slots.proofs.Joined.{pieces_have_cents, pieces_of_line}
use Rattle.rank_slots.proofs.slots.Slots.pieces.Goals as goal

pub returns : goal.returns
returns c =
    let kept = c.self.invariant.0 in
    let own = sym c.deref.ensures.value in
    record {
      value = c.deref.ensures.value ∙ sym (pieces_of_line c.self.inside.pieces.items kept.joined) ∙ ap pieces_of kept.line ∙ ap (λ s. pieces_of (line s.filled)) c.self.view_is;
      some = subst (λ ps. All (λ p. 1 ≤ p.cents) ps) own (pieces_have_cents c.self.inside.pieces.items kept.joined);
      sum = subst (λ ps. sum_by (λ p. p.cents) ps < most_sum) own kept.sum;
    }
