use Rattle.std.specs.Prelude.{◌-◌}
use Rattle.act_model.specs.SaleKeys.{earlier_rights}
use Rattle.desk_pool.proofs.RoomsSuffice.{exchanges_fit, room_grows, room_suffices}
use Rattle.desk_pool.proofs.laws.rooms_suffice.Goals as goal

pub returns-clause-room : goal.returns-clause-room
returns-clause-room c = λ journal i k stands low high there. room_suffices journal k stands (c.empty_register_is_kept.ensures.kept journal) i low there

pub returns-clause-exchanges : goal.returns-clause-exchanges
returns-clause-exchanges c = λ journal i folio stands. exchanges_fit journal (i - 1) folio (earlier_rights journal i folio) stands (c.empty_register_is_kept.ensures.kept journal)

pub returns-clause-grows : goal.returns-clause-grows
returns-clause-grows c = room_grows
