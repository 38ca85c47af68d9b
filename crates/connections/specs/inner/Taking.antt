-- What is done for a reply: a route is found, a book is taken, and an item is received.
use Rattle.std.specs.Prelude.{◌≡◌, ◌⊎◌, ℕ, Bool, true, false, List, Option, Some, Result, Ok, Err, IfOk}
use Rattle.gb_base.specs.DayMinute.{DayMinute}
use Rattle.gb_outside.specs.Images.{LeavesOnly}
use Rattle.act_json.specs.declared.lines.LineFault.{LineFault}
use Rattle.act_json.specs.declared.lines.LineFault.TheVariants as line
use Rattle.act_model.specs.declared.items.Item.{Item}
use Rattle.act_model.specs.declared.receipts.Receipt.{Receipt}
use Rattle.receipt_journal.specs.Receiving.{is_received}
use Rattle.receipt_journal.specs.Standing.{StandsForJournal}
use Rattle.receipt_journal.specs.declared.faults.BookFault.{BookFault}
use Rattle.receipt_journal.specs.declared.faults.BookFault.TheVariants as fault
use Rattle.receipt_journal.specs.declared.received.Received.{Received}
use Rattle.receipt_journal.specs.declared.received.Received.TheVariants as answers
use Rattle.intake.specs.Grown.{GrownFrom, WritesFrames}
use Rattle.intake.specs.Requests.{Held, is_fault}
use Rattle.intake_requests.specs.declared.requests.SenderReference.{SenderReference}
use Rattle.registry_http.specs.declared.finding.RouteFault.{RouteFault}
use Rattle.registry_http.specs.declared.finding.RouteFault.TheVariants as routing
use Rattle.settled_book.specs.SettledBookState.{SettledBookState}
use Rattle.connections.specs.Answering.{LeavesOldThen, WritesBy}
use Rattle.connections.specs.Answers.{item_answer, item_reply, malformed, received_by_clock, status_of}
use Rattle.connections.specs.Fates.{Fate, Answered, Failed, Failure, DiskFailed, NoJournal, OutOfMemory, NotBegun, failure_reply, is_numbered}
use Rattle.connections.specs.Holding.{IsOpenOn}
use Rattle.connections.specs.Replies.{ReplyParts, disk_failed, not_found, out_of_memory, wrong_method}

-- ---- a route is found

-- the reply to a request that has no route
abbrev pub unrouted_reply : RouteFault → ReplyParts
unrouted_reply routing.NotFound = not_found
unrouted_reply routing.WrongMethod = wrong_method
unrouted_reply routing.Memory = out_of_memory

-- ---- a book is taken

-- what an opening that failed is for the request
abbrev pub failure_of : BookFault → Failure
failure_of fault.Disk = DiskFailed
failure_of fault.NotJournal = NoJournal
failure_of (fault.BadRecord at) = NoJournal
failure_of fault.Memory = OutOfMemory

-- its reply
abbrev pub opening_reply : BookFault → ReplyParts
opening_reply f = failure_reply (failure_of f)

-- the fate of a request that takes a book, so far
abbrev pub fate_so_far : Result SettledBookState BookFault → Fate
fate_so_far (Ok settled) = Answered
fate_so_far (Err f) = Failed (failure_of f) NotBegun

-- A book was taken, or none was opened, of a file that stood for this journal: it stands for it still, and a stop leaves what it might have left before or, from some moment on, nothing but a file that does.
pub record Finds {D : Type 0} (reads : D → List ℕ) (images : D → List ℕ → Type 0) (moment : D → ℕ) (since : D → ℕ → List ℕ → Type 0) (old new : D) (journal : List Receipt) (taken : Result SettledBookState BookFault) : Type 0 where
  pub file : StandsForJournal (reads new) journal
  pub left : LeavesOldThen images moment since old new (λ file. StandsForJournal file journal)
  pub written : WritesBy true (fate_so_far taken) journal journal (reads old) (reads new)
  pub there : IfOk taken (λ settled. IsOpenOn settled (reads new) (images new) journal)

-- ---- an item is received

-- An item was received by a book that stood on the disk with what is held, and answered so.
pub record Receives {D : Type 0} (reads : D → List ℕ) (images : D → List ℕ → Type 0) (moment : D → ℕ) (since : D → ℕ → List ℕ → Type 0) (old new : D) (held : Held) (from : SenderReference) (item : Item)
    (answer : Received) (settled : SettledBookState) (known : Option (List DayMinute)) : Type 0 where
  pub expected : is_fault answer ≡ false → answer ≡ received_by_clock held from item
  pub lacked : answer ≡ answers.Memory → is_received (received_by_clock held from item) ≡ true
  pub clock : known ≡ Some (item_answer held from item).held.ticks
  pub file : StandsForJournal (reads new) held.journal ⊎ StandsForJournal (reads new) (item_answer held from item).held.journal
  pub left : LeavesOnly moment since old new (GrownFrom held.journal (item_answer held from item).held.journal)
  pub written : WritesFrames held.journal (item_answer held from item).held.journal (reads old) (reads new)
  pub same : (item_answer held from item).held.journal ≡ held.journal → reads new ≡ reads old
  pub answered : is_fault answer ≡ false → IsOpenOn settled (reads new) (images new) (item_answer held from item).held.journal
  pub unreceived : answer ≡ answers.Memory → IsOpenOn settled (reads new) (images new) held.journal
  pub unwritten : answer ≡ answers.Memory → reads new ≡ reads old

-- the reply to an item by its answer
abbrev pub received_reply : Received → ReplyParts
received_reply (answers.Accepted n) = item_reply (answers.Accepted n)
received_reply (answers.Repeated n) = item_reply (answers.Repeated n)
received_reply (answers.Differs n) = item_reply (answers.Differs n)
received_reply answers.Full = item_reply answers.Full
received_reply answers.Disk = disk_failed
received_reply answers.MustReopen = disk_failed
received_reply answers.Memory = out_of_memory

-- the reply is that of the answer, or says that no memory was found for its words
abbrev pub IsReplyTo : Received → ReplyParts → Type 0
IsReplyTo answer reply = (reply ≡ received_reply answer) ⊎ ((is_numbered (status_of answer) ≡ true) × (reply ≡ out_of_memory))

-- the words of its reply name a path, and so may run out of memory
abbrev pub has_path : LineFault → Bool
has_path line.NotJson = false
has_path (line.NotItem path) = true
has_path line.Memory = false

-- the reply is that to a body that is no item, or says that no memory was found for its words
abbrev pub IsReplyToFault : LineFault → ReplyParts → Type 0
IsReplyToFault fault reply = (reply ≡ malformed fault) ⊎ ((has_path fault ≡ true) × (reply ≡ out_of_memory))
