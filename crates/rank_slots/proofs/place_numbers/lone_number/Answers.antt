-- A place that joins none, and that none joins, is the group of its right.
use Rattle.std.proofs.Common.{◌≡◌, ◌+◌, ap, arith, drop, suc, sym, ◌∙◌}
use Rattle.std.proofs.lemmas.List.{take_rest}
use Rattle.rank_slots.specs.Groups.{joins}
use Rattle.rank_slots.proofs.LoneNumbers.{group_at}
use Rattle.rank_slots.proofs.place_numbers.lone_number.Goals as goal

pub returns-then-not-joins-2-clause-group : goal.returns-then-not-joins-2-clause-group
returns-then-not-joins-2-clause-group c =
    let places = c.args.places.now in
    let n = c.number_of-number.result in
    let more : suc n ≡ n + 1 = omega arith in
    group_at places c.args.right n c.if-number-places.true c.number_of-number.ensures.value
    (sym (ap joins (take_rest places n)) ∙ sym c.joins.ensures ∙ c.if-not-joins.true)
    (ap (λ k. joins (drop k places)) more ∙ sym (ap joins (take_rest places (n + 1))) ∙ sym c.joins-then-not-joins.ensures ∙ c.if-not-joins-2.true)
