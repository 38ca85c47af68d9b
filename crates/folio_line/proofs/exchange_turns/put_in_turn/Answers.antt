use Rattle.std.proofs.Common.{◌∙◌, ap, arith, length, map, rules, subst}
use Rattle.std.specs.List.Sorted.{IsPermutation, IsSortedBy}
use Rattle.std.proofs.lemmas.List.Sorted.{answers_always, length_permutation}
use Rattle.folio_line.specs.declared.exchange_turns.Turn.{Turn}
use Rattle.folio_line.specs.inner.Turns.{turns_of}
use Rattle.folio_line.proofs.SortedTurns.{key_before, sorted_turns, turns_count}
use Rattle.folio_line.proofs.exchange_turns.put_in_turn.Goals as goal

pub write_back-requires : goal.write_back-requires
write_back-requires c =
    let xs = c.args.exchanges.now.items in
    let sorted = ap length c.deref-2.ensures.value in
    let moved = length_permutation _ _ c.sort_unstable_by_key.ensures.permutation in
    let numbered = ap length (c.number.ensures.items ∙ ap (turns_of 0) c.deref.ensures.value) in
    let count = turns_count 0 xs in
    let room = c.requires.own_room in
    omega (arith, sorted, moved, numbered, count, room)

pub returns-clause-items : goal.returns-clause-items
returns-clause-items c =
    let xs = c.args.exchanges.now.items in
    let ts = c.sort_unstable_by_key.new.self.items in
    let sorted = c.sort_unstable_by_key.ensures.sorted (λ (t : Turn). (t.exchange.item, t.exchange.act, t.number)) (answers_always _ _ _ (λ f a r next called. search rules)) in
    let permutation = subst (λ us. IsPermutation us ts) (c.number.ensures.items ∙ ap (turns_of 0) c.deref.ensures.value) c.sort_unstable_by_key.ensures.permutation in
    c.write_back.ensures.items ∙ ap (map (λ (t : Turn). t.exchange)) c.deref-2.ensures.value
    ∙ sorted_turns xs ts c.requires.turns permutation (subst (λ lt. IsSortedBy lt ts) (λ i s t. key_before s t i) sorted)
