-- What was made is a frame of the journal's register.
use Rattle.std.proofs.Common.{true, filter_map, sym, subst, ◌∙◌, ap}
use Rattle.desk_pool.specs.declared.folio_parts.KeyRoom.{KeyRoom}
use Rattle.desk_pool.specs.inner.PartsPrepared.{AreRoomsAt}
use Rattle.desk_pool.specs.inner.TitlesListed.{titled_folio}
use Rattle.desk_pool.proofs.AllPrepared.{has_frame}
use Rattle.desk_pool.proofs.PreparedParts.{all_listed}
use Rattle.desk_pool.proofs.preparing.prepare_frame.Goals as goal

pub scratch_for_all-requires-clause-keys : goal.scratch_for_all-requires-clause-keys
scratch_for_all-requires-clause-keys c =
    let rooms = c.args.rooms.now in
    subst (AreRoomsAt rooms (λ k. true)) (sym (c.as_slice-2.ensures.value ∙ c.in_ok-keys.ensures.value)) (all_listed rooms c.list_rooms.ensures.ordered)

pub returns : goal.returns
returns c =
    has_frame c.args.journal.now.receipts c.args.rooms.now c.as_slice.result.now
    (record { alloc = c.args.alloc; parts = c.in_ok-parts_without_room.field-0; scratch = c.in_ok-scratch_for_all.field-0; verdicts = c.in_ok-no_verdicts.field-0; folios = c.in_ok-titled_folios.field-0 })
    c.requires c.list_rooms.ensures.ordered (c.as_slice.ensures.value ∙ c.in_ok-keys.ensures.value) c.in_ok-parts_without_room.ensures.held c.in_ok-scratch_for_all.ensures (c.in_ok-no_verdicts.ensures ∙ c.len.ensures.value)
    (c.in_ok-titled_folios.ensures ∙ ap (filter_map (λ (r : KeyRoom). titled_folio r.key)) (c.as_slice-3.ensures.value ∙ sym c.as_slice.ensures.value))
