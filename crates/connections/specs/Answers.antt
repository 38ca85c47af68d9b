-- What a request is answered, and what is held after it, where all that it needs works.
use Rattle.std.specs.Prelude.{ℕ, List, [], ◌∷◌, Result, Ok, Err, Option, None}
use Rattle.std.specs.Option.{option_map_or}
use Rattle.gb_base.specs.DayMinute.{DayMinute}
use Rattle.act_json.specs.Lines.{item_of}
use Rattle.act_json.specs.declared.lines.LineFault.{LineFault}
use Rattle.act_json.specs.declared.lines.LineFault.TheVariants as line
use Rattle.act_model.specs.declared.items.Item.{Item}
use Rattle.act_model.specs.declared.receipts.Receipt.{Receipt}
use Rattle.intake.specs.Lines.{fault_text}
use Rattle.intake.specs.Requests.{Held, OnDisk, received, received_text, reply_of}
use Rattle.intake_requests.specs.declared.requests.Request.TheVariants.{Receive}
use Rattle.intake_requests.specs.declared.requests.SenderReference.{SenderReference}
use Rattle.receipt_journal.specs.declared.received.Received.{Received}
use Rattle.receipt_journal.specs.declared.received.Received.TheVariants as answers
use Rattle.registry_http.specs.declared.routes.Route.{Route}
use Rattle.registry_http.specs.declared.routes.Route.TheVariants.{Post}
use Rattle.settled_book.specs.Texts.{text_of}
use Rattle.connections.specs.Asking.{Asked, AskedFor, NoRoute, WrongMethod}
use Rattle.connections.specs.Replies.{ReplyParts, line_reply, not_found, out_of_memory, wrong_method}

-- a request's reply, and what is held after it
pub record Answer : Type 0 where
  pub reply : ReplyParts
  pub held : Held

-- a reply that leaves what is held
abbrev pub only : Held → ReplyParts → Answer
only held reply = record { reply = reply; held = held }

-- ---- reads

-- the reply to a read that found this text, or none
abbrev pub text_reply : Option (List ℕ) → ReplyParts
text_reply text = option_map_or (λ bytes. record { status = 200; body = bytes }) text not_found

-- the reply to a read: the text of the register that the one registrar leaves of the journal as it stands
abbrev pub read_reply : List Receipt → Route → ReplyParts
read_reply journal route = text_reply (text_of journal route)

-- ---- a POST

-- the status of an answer to an item
abbrev pub status_of : Received → ℕ
status_of (answers.Accepted n) = 201
status_of (answers.Repeated n) = 200
status_of (answers.Differs n) = 409
status_of answers.Full = 403
status_of answers.Disk = 503
status_of answers.MustReopen = 503
status_of answers.Memory = 507

-- the reply to an item that is answered so
abbrev pub item_reply : Received → ReplyParts
item_reply answer = line_reply (status_of answer) (received_text answer)

-- the answer to an item that the clock stamps with the first of these ticks
abbrev pub received_at : List DayMinute → List Receipt → SenderReference → Item → Received
received_at [] journal from item = answers.Memory
received_at (tick ∷ ticks) journal from item = received OnDisk journal tick from.sender from.reference item

-- the answer to an item, by what is held
abbrev pub received_by_clock : Held → SenderReference → Item → Received
received_by_clock held from item = received_at held.ticks held.journal from item

-- an item is received, as by a session
abbrev pub item_answer : Held → SenderReference → Item → Answer
item_answer held from item = record {
  reply = item_reply (received_by_clock held from item);
  held = (reply_of OnDisk held (Receive None from item)).held;
}

-- the reply to a body that is no item; where memory ran out it says that, and not that the body is wrong
abbrev pub malformed : LineFault → ReplyParts
malformed line.NotJson = line_reply 400 (fault_text line.NotJson)
malformed (line.NotItem path) = line_reply 422 (fault_text (line.NotItem path))
malformed line.Memory = out_of_memory

-- what a body is, read as one line without a stamp
abbrev pub body_answer : Held → Result (ℕ × ℕ × Item) LineFault → Answer
body_answer held (Ok found) = item_answer held (record { sender = found.0; reference = found.1 }) found.2
body_answer held (Err fault) = only held (malformed fault)

-- ---- a request

-- a request with this body is answered what it asks for
abbrev pub answer : Held → List ℕ → Asked → Answer
answer held body (AskedFor Post) = body_answer held (item_of body)
answer held body (AskedFor route) = only held (read_reply held.journal route)
answer held body NoRoute = only held not_found
answer held body WrongMethod = only held wrong_method
