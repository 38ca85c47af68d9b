-- The spans of both rights are joined and dealt.
use Rattle.std.proofs.Common.{ap, filter, get_or, sym, ◌∙◌}
use Rattle.rank_slots.specs.inner.SpanLists.{lists_of}
use Rattle.rank_slots.specs.inner.Spans.{is_span_of_either}
use Rattle.rank_slots.proofs.CutLines.{cut_behind, is_exchanged, join_at, to_deal_row}
use Rattle.rank_slots.proofs.GroupMembers.{alone_listed}
use Rattle.rank_slots.proofs.PlaceNumbers.{claim_read, numbers_differ}
use Rattle.rank_slots.proofs.SpanChains.{all_pass}
use Rattle.rank_slots.proofs.spans.Spans.exchange_two.Goals as goal

pub join-joined-requires-clause-chains : goal.join-joined-requires-clause-chains
join-joined-requires-clause-chains c =
    let places = c.args.places.now in
    let s = c.args.swap.now in (
      _,
      join_at (lists_of c.args.self.now) places c.requires.cut.0 s c.number_of-recede.result c.number_of-rise.result c.number_of-recede.ensures.value c.number_of-rise.ensures.value c.requires.cut.1
          (alone_listed places s.recede c.requires.swap.0) (alone_listed places s.rise c.requires.swap.1) c.requires.two,
    )

pub deal-requires-clause-two : goal.deal-requires-clause-two
deal-requires-clause-two c = λ same.
    let places = c.args.places.now in
    let s = c.args.swap.now in
    numbers_differ places s.recede s.rise (alone_listed places s.recede c.requires.swap.0) (alone_listed places s.rise c.requires.swap.1) c.requires.two (sym c.number_of-recede.ensures.value ∙ same ∙ c.number_of-rise.ensures.value)

pub deal-requires-clause-chain : goal.deal-requires-clause-chain
deal-requires-clause-chain c =
    let places = c.args.places.now in
    let s = c.args.swap.now in
    let a = lists_of c.args.self.now in
    let row = c.requires.cut.0 in
    let join = join_at a places row s c.number_of-recede.result c.number_of-rise.result c.number_of-recede.ensures.value c.number_of-rise.ensures.value c.requires.cut.1
    (alone_listed places s.recede c.requires.swap.0) (alone_listed places s.rise c.requires.swap.1) c.requires.two in
    (_, to_deal_row a _ places row s _ c.requires.cut.1 (c.join-joined.ensures.joined (filter (is_span_of_either s) row) join))

pub returns-clause-cut : goal.returns-clause-cut
returns-clause-cut c = λ row cut.
    let places = c.args.places.now in
    let s = c.args.swap.now in
    let a = lists_of c.args.self.now in
    let b = lists_of c.join-joined.new.self in
    let d = lists_of c.deal.new.self in
    let whole = filter (is_span_of_either s) row in
    let here = alone_listed places s.recede c.requires.swap.0 in
    let there = alone_listed places s.rise c.requires.swap.1 in
    let join = join_at a places row s c.number_of-recede.result c.number_of-rise.result c.number_of-recede.ensures.value c.number_of-rise.ensures.value cut here there c.requires.two in
    let deal = to_deal_row a _ places row s _ cut (c.join-joined.ensures.joined whole join) in
    let cents = (get_or places c.number_of-rise.result c.index-places-rise.result).claim in
    let claim = claim_read places s.rise c.number_of-rise.result c.index-places-rise.result there c.number_of-rise.ensures.value in
    cut_behind a d places row s cents c.requires.places.distinct cut here there c.requires.two claim
    (is_exchanged a b d places row s c.number_of-recede.result c.number_of-rise.result cents c.number_of-recede.ensures.value c.number_of-rise.ensures.value
    (ap (λ v. v.items) c.join-joined.ensures.spans) (ap (λ v. v.items) c.join-joined.ensures.heads) (c.deal.ensures.dealt whole deal)
    (λ head xs none chain. c.join-joined.ensures.thirds whole (is_span_of_either s) head xs join (all_pass (is_span_of_either s) row) none chain)
    (λ head xs none chain. c.deal.ensures.thirds whole (is_span_of_either s) head xs deal (all_pass (is_span_of_either s) row) none chain)
    c.deal.ensures.heads c.deal.ensures.as_many c.deal.ensures.as_many_heads)
