-- The book that is open stays open, over the turns of a link and over the links of a door.
use Rattle.std.proofs.Common.{ℕ, ◌==◌, Bool, false, ◌||◌, List, Option}
use Rattle.std.proofs.lemmas.Bool.{or_parts}
use Rattle.gb_base.specs.DayMinute.{DayMinute}
use Rattle.registry_http.specs.RequestParts.{RequestParts}
use Rattle.connections.specs.Answering.{AnswersTurn, KeepsOpen}
use Rattle.connections.specs.DoorOrder.{ServesDoorInOrder}
use Rattle.connections.specs.LinkOrder.{ServesInOrder, Stage}
use Rattle.connections.specs.Replies.{ReplyParts}
use Rattle.connections.specs.Tools.{Tools}
use Rattle.connections.specs.declared.doors.DoorEnd.{DoorEnd}
use Rattle.connections.specs.declared.serving.Served.{Served}
use Rattle.connections.proofs.ByDiskAlone.{counts_still}
use Rattle.connections.proofs.DoorOrders.{links_keep}
use Rattle.connections.proofs.OrderedTurns.{order_keeps}
use Rattle.connections.proofs.TakenTurns.{counts_both}

module _ {D C : Type 0} (tells : Bool) (reads : D → List ℕ) (images : D → List ℕ → Type 0) (faults : D → ℕ) (ticks : C → Option (List DayMinute)) where
  abbrev Keeps : Tools D C → Tools D C → Type 0
  Keeps old new = KeepsOpen faults old.at_hand new.at_hand old.disk new.disk

  abbrev Answers : RequestParts → ReplyParts → Tools D C → Tools D C → Type 0
  Answers request reply old new = AnswersTurn tells reads images faults ticks request reply old new

  keeps_still : (at : Tools D C) → Keeps at at
  keeps_still at = record { failed = false; disk = counts_still (faults at.disk); kept = λ sound some. some }

  keeps_then : (old mid new : Tools D C) → Keeps old mid → Keeps mid new → Keeps old new
  keeps_then old mid new first second = record {
    failed = first.failed || second.failed;
    disk = counts_both (faults old.disk) (faults mid.disk) (faults new.disk) first.failed second.failed first.disk second.disk;
    kept = λ sound some. let parts = or_parts first.failed second.failed sound in second.kept parts.1 (first.kept parts.0 some);
  }

  keeps_by : (request : RequestParts) (reply : ReplyParts) (old new : Tools D C) → Answers request reply old new → Keeps old new
  keeps_by request reply old new turn = record { failed = reply.status == 503; disk = turn.disk; kept = λ sound some. turn.kept some sound }

  module _ {L : Type 0} (left written : L → Option (List ℕ)) (link_faults : L → ℕ) where
    pub link_keeps_open : (most : ℕ) (old new : Stage L (Tools D C)) (served : Served) → ServesInOrder left written link_faults Answers most old new served → Keeps old.tools new.tools
    link_keeps_open most old new served order = order_keeps left written link_faults Answers Keeps keeps_still keeps_then keeps_by most old new served order

    pub door_keeps_open : {P : Type 0} (waiting : P → Option (List (List ℕ))) (served : P → Option (List (List ℕ × ℕ))) (door_faults : P → ℕ) (most : ℕ) (old new : Stage P (Tools D C)) (end : DoorEnd)
        → ServesDoorInOrder waiting served door_faults left written link_faults Answers most old new end → Keeps old.tools new.tools
    door_keeps_open waiting served door_faults most old new end order = links_keep waiting served door_faults left written link_faults Answers Keeps keeps_still keeps_then keeps_by most old new end order
