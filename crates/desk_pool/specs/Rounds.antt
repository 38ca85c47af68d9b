-- What a round keeps ready.
use Rattle.std.specs.Prelude.{◌≡◌, ℕ, Bool, false, List, All, length}
use Rattle.act_model.specs.declared.receipts.Receipt.{Receipt}
use Rattle.conflict_queue.specs.Schedules.{in_receipt_order}
use Rattle.desk_pool.specs.Preparing.{HasFrame}
use Rattle.desk_pool.specs.declared.register_frames.RegisterFrame.{RegisterFrame}

-- All is of the named journal: the journal that is lent, and the frame of its register; there are seats for 64 desks, and no item is marked as seen in an order.
pub record IsRound (journal lent : List Receipt) (frame : RegisterFrame) (seats : ℕ) (receipts : List ℕ) (passed : List Bool) : Type 0 where
  pub named : lent ≡ journal
  pub frame_is : HasFrame journal frame
  pub seats_are : seats ≡ 64
  pub receipts_are : receipts ≡ in_receipt_order journal
  pub none_passed : All (λ b. b ≡ false) passed
  pub as_many : length passed ≡ length journal
