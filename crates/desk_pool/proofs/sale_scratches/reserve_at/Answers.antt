-- The room for a folio's rights is enough for each item that computes a lowest bid there.
use Rattle.std.proofs.Common.{◌≤◌, OnOk, length, sym, subst}
use Rattle.desk_pool.specs.inner.ScratchesPrepared.{ServesAt, ServesFolio}
use Rattle.desk_pool.proofs.PreparedScratches.{few_filed, rooms_few, serves_folio}
use Rattle.desk_pool.proofs.sale_scratches.reserve_at.Goals as goal
use Rattle.registrar.proofs.ScratchRooms.{both_on_ok}

pub exchange_room-exchanges-requires-clause-few : goal.exchange_room-exchanges-requires-clause-few
exchange_room-exchanges-requires-clause-few c = rooms_few c.args.journal.now.receipts c.args.rooms.now c.is_a_journal.ensures.limit c.requires.rooms

pub exchange_room-exchanges-requires-clause-rights : goal.exchange_room-exchanges-requires-clause-rights
exchange_room-exchanges-requires-clause-rights c = few_filed c.args.journal.now.receipts c.in-Case.folio c.rights_filed-rights.result.now c.rights_filed-rights.ensures.value

pub returns-in-Case-clause-served : goal.returns-in-Case-clause-served
returns-in-Case-clause-served c =
    let journal = c.args.journal.now.receipts in
    let folio = c.in-Case.folio in
    let ids = c.rights_filed-rights.result.now in
    let room = c.exchange_room-exchanges.result in
    let scratch = c.reserve.new.self in
    subst (λ k. OnOk c.reserve.result (ServesAt journal k scratch)) (sym c.in-Case.is)
    (both_on_ok c.reserve.result (length ids ≤ scratch.rights) (room ≤ scratch.exchanges) (ServesFolio journal folio scratch)
    (λ rights exchanges.
    serves_folio journal c.args.rooms.now folio ids room scratch c.is_a_journal.ensures.journal (c.empty_register_is_kept.ensures.kept journal) c.requires.rooms
    c.rights_filed-rights.ensures.value c.exchange_room-exchanges.ensures rights exchanges)
    c.reserve.ensures.rights c.reserve.ensures.exchanges)
