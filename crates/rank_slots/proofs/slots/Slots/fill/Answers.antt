-- The slots stand for what they were filled with.
use Rattle.std.proofs.Common.{◌≡◌, ◌<◌, All, [], true, arith, ap, sym, subst, sum_by, length, ◌∙◌}
use Rattle.rank_slots.specs.CanFill.{CanFill}
use Rattle.rank_slots.specs.CentLine.{cent_line}
use Rattle.gb_base.specs.Limits.{most_sum}
use Rattle.rank_slots.specs.inner.Pieces.{line_of}
use Rattle.rank_slots.specs.declared.spans.Span.{Span}
use Rattle.rank_slots.proofs.Filling.{made_of_spans}
use Rattle.rank_slots.proofs.KnotRoom.{no_more_knots}
use Rattle.rank_slots.specs.declared.places.Piece.{Piece}
use Rattle.rank_slots.specs.inner.SpanLists.{lists_of}
use Rattle.rank_slots.specs.Filled.{Filled}
use Rattle.rank_slots.specs.inner.Spans.{AreChained, AreMadeOf, spans_of}
use Rattle.std.specs.List.{list_any}
use Rattle.rank_slots.specs.Groups.{is_of}
use Rattle.rank_slots.proofs.JoinedSpans.{written_owned}
use Rattle.rank_slots.proofs.SpanLines.{row_sum}
use Rattle.rank_slots.proofs.slots.Slots.fill.Goals as goal

pub copy_into-requires-3 : goal.copy_into-requires-3
copy_into-requires-3 c =
    let few = no_more_knots c.args.places.now c.args.swaps.now c.args.knots.now c.requires.fits.knots c.requires.fits.once in
    let room = ap (λ s. s.place_room) c.self.view_is in
    omega arith

pub write_line-requires-clause-sum : goal.write_line-requires-clause-sum
write_line-requires-clause-sum c =
    let cut = c.make_of.ensures.made.stand.cut in
    subst (λ xs. sum_by (λ (x : Span). x.cents) xs < most_sum) (sym c.deref-3.ensures.value) (omega (arith, row_sum 0 c.make_of.new.self.spans.items cut.in_row))

pub cut_again-requires-clause-owned : goal.cut_again-requires-clause-owned
cut_again-requires-clause-owned c =
    let places = c.args.places.now in
    let made = lists_of c.make_of.new.self in
    subst (All (λ (p : Piece). list_any (is_of p.right) places ≡ true)) (sym c.deref-4.ensures.value)
    (written_owned made places made.spans c.deref-3.result.now c.write_line.new.pieces.items c.make_of.ensures.made.stand.cut c.deref-3.ensures.value c.write_line.ensures.joined c.write_line.ensures.line)

pub invariant_of-self : goal.invariant_of-self
invariant_of-self c =
    let places = c.args.places.now in
    let swaps = c.args.swaps.now in
    let few = no_more_knots places swaps c.args.knots.now c.requires.fits.knots c.requires.fits.once in
    let place_room = ap (λ s. s.place_room) c.self.view_is in
    let swap_room = ap (λ s. s.swap_room) c.self.view_is in
    let made = c.make_of.ensures.made in
    let copied = sym c.copy_into.ensures.items in
    let exchanges = sym c.copy_into-2.ensures.items in (
      record {
        fits = subst CanFill (λ i. record { places = copied i; swaps = exchanges i; knots = sym c.copy_into-3.ensures.items i }) c.requires.fits;
        line = made_of_spans places swaps c.make_of.new.self.spans.items c.deref-3.result.now (line_of c.write_line.new.pieces.items) made.stand.is_line c.deref-3.ensures.value c.write_line.ensures.line
            ∙ (λ i. cent_line (copied i) (exchanges i));
        joined = c.write_line.ensures.joined;
        sum = c.write_line.ensures.sum;
      },
      record {
        places = omega (arith, c.self.invariant.1.places);
        swaps = omega (arith, c.self.invariant.1.swaps);
        knots = omega (arith, c.self.invariant.1.knots);
        pieces = omega (arith, c.self.invariant.1.pieces);
      },
      record {
        spans = omega (arith, c.self.invariant.2.spans);
        links = omega (arith, c.self.invariant.2.links);
        heads = omega (arith, c.self.invariant.2.heads);
      },
      record {
        spans = omega (arith, c.self.invariant.3.spans);
        links = omega (arith, c.self.invariant.3.links);
        heads = omega (arith, c.self.invariant.3.heads);
      },
      subst (λ (filled : Filled). AreMadeOf (lists_of c.make_of.new.self) filled.places filled.swaps) (λ i. record { places = copied i; swaps = exchanges i; knots = [] }) made,
      record {
        spans = c.cut_again.ensures.spans ∙ ap (spans_of 0) c.deref-4.ensures.value;
        as_many_links = c.cut_again.ensures.as_many_links;
        as_many_heads = c.cut_again.ensures.as_many_heads ∙ ap length copied;
        chains = subst (AreChained (lists_of c.cut_again.new.self)) copied c.cut_again.ensures.chains;
      },
    )
