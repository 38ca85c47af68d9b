use Rattle.std.proofs.Common.{◌∙◌, Some, ap, sym, arith, rules}
use Rattle.std.proofs.lemmas.Option.{slice_get-get_or}
use Rattle.desk_pool.proofs.FoliosInRow.{all_left, one_leaves, still_there, taken_in_row}
use Rattle.desk_pool.proofs.locking.put_behind_locks.Goals as goal
use Rattle.desk_pool.proofs.locking.put_behind_locks.Goals.{in-Some, in_default}

pub new-requires : goal.new-requires
new-requires g c =
    let inside = c.loop-place-test.true in
    let same = c.loop-place.auto.places in
    taken_in_row g.W.RowName.row c.args.places.now c.loop-place.places c.loop-place.place c.in-Some.marked c.requires c.loop-place.invariant.leaving inside
    (slice_get-get_or c.loop-place.places c.loop-place.place c.index-places-place.result (omega (arith, inside, same)) ∙ ap Some (sym c.take.ensures.value ∙ c.in-Some.is))

pub loop-place-preserved : goal.loop-place-preserved
loop-place-preserved g c =
    let inside = c.loop-place-test.true in
    let same = c.loop-place.auto.places in
    elim c.match-take.branch [
      | in-Some w ↦ record {
        leaving = one_leaves c.args.places.now c.loop-place.places c.loop-place.place c.take.new.self c.take.ensures.after (omega (arith, inside, same)) c.loop-place.invariant.leaving;
        many = search rules;
        room = search rules;
      }
      | in_default w ↦ absurd
          (still_there g.W.RowName.row c.args.places.now c.loop-place.places c.loop-place.place c.take.result c.requires c.loop-place.invariant.leaving inside
          (slice_get-get_or c.loop-place.places c.loop-place.place c.index-places-place.result (omega (arith, inside, same)) ∙ ap Some (sym c.take.ensures.value)) w.in_default.not-Some)
    ]

pub returns-clause-away : goal.returns-clause-away
returns-clause-away g c = all_left g.W.RowName.row c.args.places.now c.loop-place.places c.loop-place.place c.requires c.loop-place-test.false c.loop-place.invariant.leaving
