-- What requests are answered, and what is held after them.
-- Why so: docs/DECISIONS.md, "One state serves the session over a journal and a book".
-- Why so: docs/DECISIONS.md, "Two definitions give a clock's ticks".
use Rattle.std.specs.Prelude.{ℕ, Bool, true, false, List, [], ◌∷◌, ◌++◌, codes, Some, None}
use Rattle.std.specs.Fmt.{decimal}
use Rattle.gb_base.specs.DayMinute.{DayMinute}
use Rattle.act_model.specs.Receiving.{answer_to}
use Rattle.act_model.specs.declared.items.Item.{Item}
use Rattle.act_model.specs.declared.receipts.Receipt.{Receipt}
use Rattle.receipt_journal.specs.Receiving.{in_journal, answer_on, journal_after}
use Rattle.receipt_journal.specs.declared.received.Received.{Received}
use Rattle.receipt_journal.specs.declared.received.Received.TheVariants as answer
use Rattle.intake_requests.specs.declared.requests.Request.{Request}
use Rattle.intake_requests.specs.declared.requests.Request.TheVariants.{Nothing, Refused, Receive}

-- where items are received: in memory, or on a disk whose file has its limit
pub data Medium : Type 0 where
  InMemory : Medium
  OnDisk : Medium

-- the answer to an item
abbrev pub received : Medium → List Receipt → DayMinute → ℕ → ℕ → Item → Received
received InMemory journal stamp sender reference item = in_journal (answer_to journal sender reference item)
received OnDisk journal stamp sender reference item = answer_on journal stamp sender reference item

-- the words of an answer; faults have none
abbrev pub received_text : Received → List ℕ
received_text (answer.Accepted n) = codes "accepted " ++ decimal n
received_text (answer.Repeated n) = codes "repeated " ++ decimal n
received_text (answer.Differs n) = codes "differs " ++ decimal n
received_text answer.Full = codes "full"
received_text answer.Disk = []
received_text answer.MustReopen = []
received_text answer.Memory = []

-- the answer is a fault
abbrev pub is_fault : Received → Bool
is_fault (answer.Accepted n) = false
is_fault (answer.Repeated n) = false
is_fault (answer.Differs n) = false
is_fault answer.Full = false
is_fault answer.Disk = true
is_fault answer.MustReopen = true
is_fault answer.Memory = true

-- what is held between two requests: the receipts, and the stamps that the clock will still give
pub record Held : Type 0 where
  pub journal : List Receipt
  pub ticks : List DayMinute

-- these receipts and these ticks
abbrev pub holding : List Receipt → List DayMinute → Held
holding journal ticks = record { journal = journal; ticks = ticks }

-- a request's reply, and what is held after it
pub record Replied : Type 0 where
  pub text : List ℕ
  pub held : Held

-- the reply to an item that has this answer, where the clock will still give these ticks
abbrev pub replied : List Receipt → List DayMinute → DayMinute → ℕ → ℕ → Item → Received → Replied
replied journal ticks stamp sender reference item answer = record {
  text = received_text answer ++ 10 ∷ [];
  held = holding (journal_after journal stamp sender reference item answer) ticks;
}

-- the clock stamps the item with its first tick and goes on by one, whatever the answer
abbrev pub replied_by_clock : Medium → List Receipt → List DayMinute → ℕ → ℕ → Item → Replied
replied_by_clock medium journal [] sender reference item = record { text = []; held = holding journal [] }
replied_by_clock medium journal (t ∷ []) sender reference item =
    replied journal (t ∷ []) t sender reference item (received medium journal t sender reference item)
replied_by_clock medium journal (t ∷ u ∷ ticks) sender reference item =
    replied journal (u ∷ ticks) t sender reference item (received medium journal t sender reference item)

-- a request's reply, with its LF, and what is held after it
unfoldable pub reply_of : Medium → Held → Request → Replied
reply_of medium held Nothing = record { text = []; held = held }
reply_of medium held (Refused text) = record { text = text; held = held }
reply_of medium held (Receive (Some stamp) from item) =
    replied held.journal held.ticks stamp from.sender from.reference item (received medium held.journal stamp from.sender from.reference item)
reply_of medium held (Receive None from item) = replied_by_clock medium held.journal held.ticks from.sender from.reference item

-- the replies to requests, one after the other
abbrev pub replies : Medium → Held → List Request → List ℕ
replies medium held [] = []
replies medium held (request ∷ requests) = (reply_of medium held request).text ++ replies medium (reply_of medium held request).held requests

-- what is held after these requests
abbrev pub held_after : Medium → Held → List Request → Held
held_after medium held [] = held
held_after medium held (request ∷ requests) = held_after medium (reply_of medium held request).held requests
