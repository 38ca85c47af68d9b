use Rattle.std.proofs.Common.{◌∙◌, Some, ap, sym, arith}
use Rattle.std.proofs.lemmas.Option.{slice_get-get_or}
use Rattle.desk_pool.specs.inner.FolioMarks.{count_here}
use Rattle.desk_pool.proofs.FoliosInRow.{found_within, put_in_row, same_mark}
use Rattle.desk_pool.proofs.locking.put_one_back.Goals as goal

pub never_twice-requires : goal.never_twice-requires
never_twice-requires g c =
    let place = c.args.placed.place in
    let inside = found_within g.W.RowName.row place _ c.args.placed.there in
    let same = c.requires.places_are in
    same_mark g.W.RowName.row c.args.places.now place (count_here c.args.places.now) c.args.placed.marked c.in-Some.other
    (slice_get-get_or c.args.places.now place c.index-places-place.result (omega (arith, inside, same)) ∙ ap Some (sym c.take.ensures.value ∙ c.in-Some.is)) c.args.placed.there c.requires

pub returns-in-None : goal.returns-in-None
returns-in-None g c =
    let place = c.args.placed.place in
    let inside = found_within g.W.RowName.row place _ c.args.placed.there in
    let same = c.requires.places_are in
    put_in_row g.W.RowName.row c.args.places.now place (count_here c.args.places.now) c.args.placed.marked
    (slice_get-get_or c.args.places.now place c.index-places-place.result (omega (arith, inside, same)) ∙ ap Some (sym c.take.ensures.value ∙ c.in-None.is)) c.args.placed.there c.requires
