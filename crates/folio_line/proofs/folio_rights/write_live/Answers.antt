use Rattle.std.proofs.Common.{◌∙◌, [], arith, refl, vec_capacity}
use Rattle.folio_line.specs.FolioReading.{reads}
use Rattle.folio_line.specs.FolioSlots.{stands_on_line}
use Rattle.folio_line.specs.inner.RightWalk.{right_found}
use Rattle.folio_line.proofs.LineRead.{live_written, rights_fit}
use Rattle.folio_line.proofs.folio_rights.write_live.Goals as goal

pub write_by_group-requires : goal.write_by_group-requires
write_by_group-requires g c =
    let at = reads g.P.Parts.holds g.P.Parts.at c.args.reading.now in
    let capacity = vec_capacity c.args.live.now in
    record {
      room = rights_fit (right_found (stands_on_line []) at c.args.reading.now.folio) c.args.ids.now c.deref.result.now capacity capacity capacity (c.deref.ensures.value ∙ c.write_on_line.ensures.items) c.requires.live_room refl (omega arith);
    }

pub returns-clause-live : goal.returns-clause-live
returns-clause-live g c =
    let at = reads g.P.Parts.holds g.P.Parts.at c.args.reading.now in
    live_written at c.args.reading.now.folio c.args.ids.now c.deref.result.now c.write_by_group.new.list.items c.requires.all (c.deref.ensures.value ∙ c.write_on_line.ensures.items) c.write_by_group.ensures.items
