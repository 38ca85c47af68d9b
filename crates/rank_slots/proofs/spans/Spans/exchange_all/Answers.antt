-- One more exchange.
use Rattle.std.proofs.Common.{◌≡◌, ℕ, ◌+◌, ◌<◌, List, ap, arith, get_or, length, subst, sym, take, ◌∙◌}
use Rattle.std.proofs.lemmas.List.Elements.{All-get_or}
use Rattle.std.proofs.lemmas.List.Sums.{fold_more}
use Rattle.gb_base.specs.RightNo.{RightNo}
use Rattle.rank_slots.specs.CanFill.{CanSwap}
use Rattle.rank_slots.specs.CentLine.{exchange, exchange_all}
use Rattle.rank_slots.specs.declared.places.Place.{Place}
use Rattle.rank_slots.specs.declared.places.Swap.{Swap}
use Rattle.rank_slots.specs.declared.spans.Span.{Span}
use Rattle.rank_slots.specs.inner.SpanLists.{lists_of}
use Rattle.rank_slots.specs.inner.Spans.{AreCut, SpanLists, StandFor, exchange_spans}
use Rattle.rank_slots.proofs.SpanLines.{line_behind}
use Rattle.rank_slots.proofs.spans.Spans.exchange_all.Goals as goal

one_more : (line : List RightNo) (swaps : List Swap) (i : ℕ) (s : Swap) → i < length swaps → s ≡ get_or swaps i s → exchange (exchange_all line (take i swaps)) s ≡ exchange_all line (take (i + 1) swaps)
one_more line swaps i s here is = sym (fold_more exchange line swaps i s here ∙ ap (exchange (exchange_all line (take i swaps))) (sym is))

stand_behind : (a d : SpanLists) (places : List Place) (line more : List RightNo) (s : Swap) → StandFor a places line → ((row : List Span) → AreCut a places row → AreCut d places (exchange_spans row s)) → exchange line s ≡ more → StandFor d places more
stand_behind a d places line more s stands behind next = record {
  row = exchange_spans stands.row s;
  cut = behind stands.row stands.cut;
  is_line = line_behind s stands.row ∙ ap (λ cs. exchange cs s) stands.is_line ∙ next;
}

pub join_in_turn-left-requires-clause-cut : goal.join_in_turn-left-requires-clause-cut
join_in_turn-left-requires-clause-cut c =
    let so_far = c.loop-swap.invariant.stand c.requires.stand.0 c.requires.stand.1 in
    (so_far.row, so_far.cut)

pub exchange-requires-clause-cut : goal.exchange-requires-clause-cut
exchange-requires-clause-cut c =
    let so_far = c.loop-swap.invariant.stand c.requires.stand.0 c.requires.stand.1 in
    let joined = c.join_in_turn-left.ensures.cut so_far.row so_far.cut in
    (joined.row, joined.cut)

pub exchange-requires-clause-as_many : goal.exchange-requires-clause-as_many
exchange-requires-clause-as_many c =
    let so_far = c.loop-swap.invariant.stand c.requires.stand.0 c.requires.stand.1 in
    (c.join_in_turn-left.ensures.cut so_far.row so_far.cut).cut.as_many_links

pub exchange-requires-clause-as_many_heads : goal.exchange-requires-clause-as_many_heads
exchange-requires-clause-as_many_heads c =
    let so_far = c.loop-swap.invariant.stand c.requires.stand.0 c.requires.stand.1 in
    (c.join_in_turn-left.ensures.cut so_far.row so_far.cut).cut.as_many_heads

pub exchange-requires-clause-swap : goal.exchange-requires-clause-swap
exchange-requires-clause-swap c =
    subst (CanSwap c.args.places.now) (sym c.swap-item.is) (All-get_or (CanSwap c.args.places.now) c.args.swaps.now c.loop-swap.swap-index c.swap-item.result c.loop-swap-test.true c.requires.swaps)

pub loop-swap-preserved : goal.loop-swap-preserved
loop-swap-preserved c =
    let before = c.loop-swap.invariant in
    let places = c.args.places.now in
    let swaps = c.args.swaps.now in
    let s = c.swap-item.result in
    record {
      stand = λ line began.
          let so_far = before.stand line began in
          let joined = c.join_in_turn-left.ensures.cut so_far.row so_far.cut in
          stand_behind (lists_of c.join_in_turn-left.new.self) (lists_of c.exchange.new.self) places (exchange_all line (take c.loop-swap.swap-index swaps)) _ s
          (subst (StandFor (lists_of c.join_in_turn-left.new.self) places) so_far.is_line joined) c.exchange.ensures.cut (one_more line swaps c.loop-swap.swap-index s c.loop-swap-test.true c.swap-item.is);
      few = omega (arith, before.few, c.join_in_turn-left.ensures.few, c.exchange.ensures.few);
      capacity = c.exchange.ensures.capacity ∙ c.join_in_turn-left.ensures.capacity ∙ before.capacity;
      link_capacity = c.exchange.ensures.link_capacity ∙ c.join_in_turn-left.ensures.link_capacity ∙ before.link_capacity;
      head_capacity = c.exchange.ensures.head_capacity ∙ c.join_in_turn-left.ensures.head_capacity ∙ before.head_capacity;
      piece_capacity = c.join_in_turn-left.ensures.piece_capacity ∙ before.piece_capacity;
    }
