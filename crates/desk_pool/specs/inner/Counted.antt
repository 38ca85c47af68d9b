-- What is counted of a journal before room is kept for it.
use Rattle.std.specs.Prelude.{◌≡◌, List}
use Rattle.act_model.specs.declared.receipts.Receipt.{Receipt}
use Rattle.conflict_queue.specs.Dockets.{docket_of}
use Rattle.desk_pool.specs.declared.counted.Counted.{Counted}
use Rattle.desk_pool.specs.inner.AllQueues.{AreAllQueues}
use Rattle.desk_pool.specs.inner.KeyRooms.{AreRooms}

-- The docket, the queues and the rooms are those of the journal.
pub record IsCounted (journal : List Receipt) (s : Counted) : Type 0 where
  pub docket_is : s.docket ≡ docket_of journal
  pub queues_are : AreAllQueues journal s.queues.items
  pub rooms_are : AreRooms journal s.rooms
