use Rattle.std.proofs.Common.{sym}
use Rattle.desk_pool.proofs.TouchedKeys.{one_touched, two_touched}
use Rattle.desk_pool.proofs.touched_folios.folios_of.Goals as goal

pub returns-in-None : goal.returns-in-None
returns-in-None c =
    let place = c.in-Some.ensures.item.3 in
    one_touched c.args.keys.now c.in-Some.key.now c.folio-one.result (0, place.0, sym (place.1 c.in-Some.key.now)) c.folio-one.ensures (sym c.in-None.ensures)

pub returns-in-Some-key_elsewhere : goal.returns-in-Some-key_elsewhere
returns-in-Some-key_elsewhere c =
    let place = c.in-Some.ensures.item.3 in
    two_touched c.args.keys.now c.in-Some.key.now c.in-Some-key_elsewhere.other.now c.folio-one.result c.folio.result c.requires.few (0, place.0, sym (place.1 c.in-Some.key.now)) c.folio-one.ensures
    (sym c.in-Some-key_elsewhere.ensures) c.folio.ensures c.lower_first.result c.lower_first.ensures
