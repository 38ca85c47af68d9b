-- Sorted spans are written as pieces, and these are cut.
use Rattle.std.proofs.Common.{◌≡◌, ◌<◌, All, ap, arith, subst, sum_by, sym, true, ◌∙◌}
use Rattle.std.specs.List.{list_any}
use Rattle.gb_base.specs.Limits.{most_sum}
use Rattle.rank_slots.specs.Groups.{is_of}
use Rattle.rank_slots.specs.declared.places.Piece.{Piece}
use Rattle.rank_slots.specs.declared.spans.Span.{Span}
use Rattle.rank_slots.specs.inner.SpanLists.{lists_of}
use Rattle.rank_slots.specs.inner.Spans.{spans_of}
use Rattle.rank_slots.proofs.JoinedSpans.{all_owned, stand_in_order, written_line}
use Rattle.rank_slots.proofs.SpanLines.{row_sum}
use Rattle.rank_slots.proofs.spans.Spans.join_neighbours.Goals as goal

pub write_line-requires-clause-sum : goal.write_line-requires-clause-sum
write_line-requires-clause-sum c =
    let row = c.requires.cut.0 in
    let sorted = c.deref.ensures.value ∙ c.sort.ensures.row c.args.places.now row c.requires.cut.1 in
    subst (λ xs. sum_by (λ (x : Span). x.cents) xs < most_sum) (sym sorted) (omega (arith, row_sum 0 row c.requires.cut.1.in_row))

pub cut_again-requires-clause-owned : goal.cut_again-requires-clause-owned
cut_again-requires-clause-owned c =
    let places = c.args.places.now in
    let row = c.requires.cut.0 in
    let cut = c.requires.cut.1 in
    let ps = c.write_line.new.pieces.items in
    let line = written_line c.deref.result.now row _ (c.deref.ensures.value ∙ c.sort.ensures.row places row cut) c.write_line.ensures.line in
    subst (All (λ (p : Piece). list_any (is_of p.right) places ≡ true)) (sym c.deref-2.ensures.value) (all_owned (lists_of c.args.self.now) places row ps cut c.write_line.ensures.joined line)

pub returns-clause-cut : goal.returns-clause-cut
returns-clause-cut c = λ row cut.
    let places = c.args.places.now in
    let ps = c.write_line.new.pieces.items in
    let line = written_line c.deref.result.now row _ (c.deref.ensures.value ∙ c.sort.ensures.row places row cut) c.write_line.ensures.line in
    stand_in_order (lists_of c.args.self.now) (lists_of c.cut_again.new.self) places row ps cut c.write_line.ensures.joined c.write_line.ensures.sum line
    (c.cut_again.ensures.spans ∙ ap (spans_of 0) c.deref-2.ensures.value) c.cut_again.ensures.as_many_links c.cut_again.ensures.as_many_heads c.cut_again.ensures.chains
