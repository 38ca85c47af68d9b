use Rattle.std.proofs.Common.{◌==◌, Bool, sym, subst, ◌∙◌}
use Rattle.gb_base.specs.Keys.{folio_of_key}
use Rattle.gb_base.specs.declared.keys.Key.{Key}
use Rattle.desk_pool.specs.inner.PartsPrepared.{AreRoomsAt}
use Rattle.desk_pool.proofs.PreparedParts.{folio_listed, parts_on_ok}
use Rattle.desk_pool.proofs.folio_parts.parts_for_folio.Goals as goal

pub returns : goal.returns
returns c =
    let rooms = c.args.rooms.now in
    let own : Key → Bool = λ k. folio_of_key k == c.args.folio in
    parts_on_ok rooms own c.as_slice.result.now c.parts_at.result
    (subst (AreRoomsAt rooms own) (sym (c.as_slice.ensures.value ∙ c.in_ok-keys.ensures.value)) (folio_listed rooms c.args.folio c.rooms_between.ensures.ordered))
    c.parts_at.ensures.held c.parts_at.ensures.empty c.parts_at.ensures.room
