use Rattle.std.proofs.Common.{◌∙◌, Some, ap, sym, arith, rules}
use Rattle.std.proofs.lemmas.Bool.{false≢true}
use Rattle.std.proofs.lemmas.Option.{slice_get-get_or}
use Rattle.desk_pool.proofs.TakingParts.{one_more_parts, places_length, still_in_place}
use Rattle.desk_pool.proofs.taking_parts.take_parts.Goals as goal
use Rattle.desk_pool.proofs.taking_parts.take_parts.Goals.{in-Some, then-is_done, else-is_done, in_default}

pub loop-place-preserved : goal.loop-place-preserved
loop-place-preserved g c =
    let inside = c.loop-place-test.true in
    let within = c.loop-place.auto.places in
    let count = places_length c.args.queues.now c.args.places.now c.requires.in_places in
    let there = slice_get-get_or c.loop-place.places c.loop-place.place c.index-places-place.result (omega (arith, inside, within, count)) ∙ ap Some (sym c.take.ensures.value) in
    elim c.match-take.branch [
      | in-Some w ↦ record {
        taken = one_more_parts g.N.JournalName.receipts c.args.queues.now c.args.places.now c.loop-place.places c.loop-place.back.items c.match-take.back.items c.loop-place.settled w.is_done.result c.match-take.settled c.loop-place.place
            w.in-Some.marked w.index-queues-place.result w.as_slice.result.now c.take.new.self w.into_parts.result
            c.requires.queues c.requires.in_places inside w.index-queues-place.is (w.as_slice.ensures.value ∙ ap (λ q. q.items.items) (sym w.index-queues-place.is)) (there ∙ ap Some w.in-Some.is) c.take.ensures.after
            w.is_done.ensures.whole w.into_parts.ensures.value (record { held = w.into_parts.ensures.held; room = w.into_parts.ensures.room }) (ap (λ b. b.items) w.back-is ∙ w.push_reserved.ensures.items)
            (elim w.if-is_done.branch [
              | then-is_done v ↦ λ all. (v.if-is_done.true, sym v.settled-is ∙ sym w.settled-is ∙ all)
              | else-is_done v ↦ λ all. absurd (false≢true (sym v.if-is_done.false ∙ sym v.settled-is ∙ sym w.settled-is ∙ all))
            ])
            c.loop-place.invariant.taken;
        room = search rules;
      }
      | in_default w ↦ absurd (still_in_place c.args.queues.now c.args.places.now c.loop-place.places c.loop-place.place c.take.result c.requires.in_places c.loop-place.invariant.taken.leaving inside there w.in_default.not-Some)
    ]
