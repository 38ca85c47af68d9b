-- What is found among the last places is the first of all.
use Rattle.std.proofs.Common.{◌+◌, ap, arith, ◌∙◌}
use Rattle.std.specs.List.{position_or_len}
use Rattle.std.proofs.lemmas.List.{length-drop, take_rest}
use Rattle.rank_slots.specs.Groups.{is_of}
use Rattle.rank_slots.proofs.LoneNumbers.{number_behind}
use Rattle.rank_slots.proofs.place_numbers.number_of.Goals as goal

pub returns-then-number-places-clause-value : goal.returns-then-number-places-clause-value
returns-then-number-places-clause-value c =
    let places = c.args.places.now in
    let first = c.partition_point-first.result in
    let value = c.places_ahead.ensures.value ∙ ap (position_or_len (is_of c.args.right)) (take_rest places first) in
    ap (λ k. first + k) value ∙ number_behind places c.args.right first c.requires.distinct (omega (arith, value, length-drop first places, c.if-number-places.true))
