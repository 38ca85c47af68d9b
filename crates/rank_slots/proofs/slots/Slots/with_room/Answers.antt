-- Empty slots have a line without places.
use Rattle.std.proofs.Common.{◌≡◌, ◌+◌, ◌<◌, arith, ap, length, subst, sum_by, sym, ◌∙◌}
use Rattle.std.proofs.lemmas.Grind.{common_steps}
use Rattle.rank_slots.specs.CanFill.{CanFill}
use Rattle.rank_slots.specs.CentLine.{cent_line}
use Rattle.gb_base.specs.Limits.{most_sum}
use Rattle.rank_slots.specs.inner.Pieces.{AreJoined, line_of}
use Rattle.rank_slots.specs.inner.Spans.{spans_of}
use Rattle.rank_slots.specs.inner.SpanLists.{lists_of}
use Rattle.rank_slots.proofs.Filling.{no_cents, nothing_fits}
use Rattle.rank_slots.proofs.KeptLines.{none_made}
use Rattle.rank_slots.proofs.slots.Slots.with_room.Goals as goal

pub invariant_of-result : goal.invariant_of-result
invariant_of-result c =
    let places = sym c.in_ok-with_capacity.ensures.items in
    let swaps = sym c.in_ok-with_capacity-2.ensures.items in
    let knots = sym c.in_ok-with_capacity-3.ensures.items in
    let pieces = sym c.in_ok-with_capacity-4.ensures.items in
    let line = c.in_ok-with_room.ensures in
    let paid = c.in_ok-with_room-2.ensures in
    let both : c.in_ok-pieces.pieces ≡ c.args.places + c.args.swaps = grind (arith, common_steps, c.in_ok-pieces.ensures.ok_part, c.checked_add.ensures) in (
      record {
        fits = subst CanFill (λ i. record { places = places i; swaps = swaps i; knots = knots i }) nothing_fits;
        line = ap line_of (sym pieces) ∙ no_cents ∙ (λ i. cent_line (places i) (swaps i));
        joined = subst AreJoined pieces tt;
        sum = subst (λ ps. sum_by (λ p. p.cents) ps < most_sum) pieces (omega arith);
      },
      record {
        places = c.in_ok-with_capacity.ensures.capacity;
        swaps = c.in_ok-with_capacity-2.ensures.capacity;
        knots = c.in_ok-with_capacity-3.ensures.capacity;
        pieces = omega (arith, c.in_ok-with_capacity-4.ensures.capacity);
      },
      record { spans = omega (arith, line.room); links = omega (arith, line.link_room); heads = line.head_room },
      record { spans = omega (arith, paid.room); links = omega (arith, paid.link_room); heads = paid.head_room },
      none_made (lists_of c.in_ok-with_room.field-0) _ _ line.spans line.links line.heads c.in_ok-with_capacity.ensures.items c.in_ok-with_capacity-2.ensures.items,
      record {
        spans = paid.spans ∙ ap (spans_of 0) pieces;
        as_many_links = ap length paid.links ∙ sym (ap length paid.spans);
        as_many_heads = ap length paid.heads ∙ ap length places;
        chains = λ n p within here. absurd (omega (arith, within, ap length places));
      },
    )
