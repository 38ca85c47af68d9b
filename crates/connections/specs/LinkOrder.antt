-- In which order a link is read and written, and what each turn does with the tools of the clerk who serves it.
use Rattle.std.specs.Prelude.{◌≡◌, ◌⊎◌, ℕ, ◌+◌, ◌<◌, true, false, List, [], ◌∷◌, length, Option}
use Rattle.std.specs.Io.KnownBytes.{Appends}
use Rattle.gb_outside.specs.Faults.{Counts}
use Rattle.registry_http.specs.Replies.{AppendsPart}
use Rattle.registry_http.specs.RequestParts.{RequestParts}
use Rattle.registry_http.specs.Requests.{ReadsNext, link_failed}
use Rattle.registry_http.specs.declared.requests.Next.{Next}
use Rattle.registry_http.specs.declared.requests.Next.TheVariants as next
use Rattle.connections.specs.Replies.{ReplyParts, bad_request, body_too_long, bytes_of, out_of_memory}
use Rattle.connections.specs.Serving.{is_link_fault}
use Rattle.connections.specs.declared.serving.Ended.{Ended}
use Rattle.connections.specs.declared.serving.Ended.TheVariants as ended
use Rattle.connections.specs.declared.serving.Served.{Served}

-- What is served, a link or the door that links come through, and the tools with which it is.
pub record Stage (A T : Type 0) : Type 0 where
  pub outer : A
  pub tools : T

-- the stage of these
abbrev pub stage : {A T : Type 0} → A → T → Stage A T
stage outer tools = record { outer = outer; tools = tools }

-- In all that follows `Answers request reply old new` says what answering a request so does with the tools.

-- A request that is not the last was read, as far as it was wanted and with nothing written; it was answered; and then its reply was written whole, with nothing read.
pub record TurnsOnce {L T : Type 0} (left written : L → Option (List ℕ)) (faults : L → ℕ) (Answers : RequestParts → ReplyParts → T → T → Type 0)
    (from : Stage L T) (kept : List ℕ) (reply : ReplyParts) (to : Stage L T) (behind : List ℕ) : Type 0 where
  -- the link once the request was read
  pub read : L
  pub request : RequestParts
  -- `kept` are the bytes that were read before this turn, .., and `behind` those that are kept after the request
  pub reads : ReadsNext (left from.outer) (left read) kept behind (next.Request request)
  pub more : request.last ≡ false
  pub unwritten : written read ≡ written from.outer
  pub answered : Answers request reply from.tools to.tools
  pub unread : left to.outer ≡ left read
  pub replied : Appends (written read) (written to.outer) (bytes_of (reply ∷ []))
  -- the link failed neither while it was read nor while it was written
  pub quiet : (faults read ≡ faults from.outer) × (faults to.outer ≡ faults read)

-- each of these replies was written by a turn of its own (`TurnsOnce`), one after another
abbrev pub TurnsInOrder : {L T : Type 0} → (L → Option (List ℕ)) → (L → Option (List ℕ)) → (L → ℕ) → (RequestParts → ReplyParts → T → T → Type 0) → Stage L T → List ℕ → List ReplyParts → Stage L T → List ℕ → Type 0
TurnsInOrder left written faults Answers from kept [] to behind = (to ≡ from) × (behind ≡ kept)
TurnsInOrder {L} {T} left written faults Answers from kept (reply ∷ replies) to behind =
    (mid : Stage L T) × (kept_mid : List ℕ) × TurnsOnce left written faults Answers from kept reply mid kept_mid × TurnsInOrder left written faults Answers mid kept_mid replies to behind

-- ---- the last turn

-- what became of a connection with so many whole replies that ended so
abbrev pub served_so : ℕ → Ended → Served
served_so replies how = record { replies = replies; ended = how }

-- What stands written of the last reply, by how the connection ended.
pub record WritesLast (written_old written_new : Option (List ℕ)) (reply : ReplyParts) (last : Served) : Type 0 where
  -- where it is finished the reply stands whole, and only then it counts; else a front of it that is not the whole
  pub whole : last.ended ≡ ended.Finished → Appends written_old written_new (bytes_of (reply ∷ [])) × (last.replies ≡ 1)
  pub part : (last.ended ≡ ended.Finished → ⊥) → AppendsPart written_old written_new (bytes_of (reply ∷ [])) × (last.replies ≡ 0)
  -- where no memory was found, nothing of it
  pub nothing : last.ended ≡ ended.Memory → written_new ≡ written_old

-- The last reply was written, with nothing read.
pub record RepliesLast {L : Type 0} (left written : L → Option (List ℕ)) (faults : L → ℕ) (reply : ReplyParts) (old new : L) (last : Served) : Type 0 where
  pub unread : left new ≡ left old
  pub wrote : WritesLast (written old) (written new) reply last
  -- the link's count rose just where the connection ended by that
  pub failed : Counts (faults old) (faults new) (is_link_fault last.ended)

-- a request was answered and its reply was the last: it stands whole only where the request was the last
pub record AnswersLast {L T : Type 0} (left written : L → Option (List ℕ)) (faults : L → ℕ) (Answers : RequestParts → ReplyParts → T → T → Type 0)
    (request : RequestParts) (old new : Stage L T) (last : Served) : Type 0 where
  pub reply : ReplyParts
  pub answered : Answers request reply old.tools new.tools
  pub replies : RepliesLast left written faults reply old.outer new.outer last
  pub was_last : last.ended ≡ ended.Finished → request.last ≡ true

-- What the last turn does once this was read: a request is answered. To bytes that are refused, and where no memory was found to read on, one fixed reply closes the connection, and the tools stay. At the end of the bytes, and where the link failed while it was read, nothing is done.
abbrev pub EndsTurn : {L T : Type 0} → (L → Option (List ℕ)) → (L → Option (List ℕ)) → (L → ℕ) → (RequestParts → ReplyParts → T → T → Type 0) → Next → Stage L T → Stage L T → Served → Type 0
EndsTurn left written faults Answers (next.Request request) old new last = AnswersLast left written faults Answers request old new last
EndsTurn left written faults Answers next.HeadFault old new last = RepliesLast left written faults bad_request old.outer new.outer last × (new.tools ≡ old.tools)
EndsTurn left written faults Answers next.BodyTooLong old new last = RepliesLast left written faults body_too_long old.outer new.outer last × (new.tools ≡ old.tools)
EndsTurn left written faults Answers next.Memory old new last = RepliesLast left written faults out_of_memory old.outer new.outer last × (new.tools ≡ old.tools)
EndsTurn left written faults Answers next.End old new last = (new ≡ old) × (last ≡ served_so 0 ended.Finished)
EndsTurn left written faults Answers next.Cut old new last = (new ≡ old) × (last ≡ served_so 0 ended.Finished)
EndsTurn left written faults Answers next.LinkFault old new last = (new ≡ old) × (last ≡ served_so 0 ended.LinkFault)

-- The last turn was taken: the link was read, as far as it was wanted and with nothing written, and what was read ends the connection so.
pub record TurnsLast {L T : Type 0} (left written : L → Option (List ℕ)) (faults : L → ℕ) (Answers : RequestParts → ReplyParts → T → T → Type 0)
    (from : Stage L T) (kept : List ℕ) (to : Stage L T) (last : Served) : Type 0 where
  -- the link once it was read, and what was read
  pub read : L
  pub answer : Next
  pub behind : List ℕ
  pub reads : ReadsNext (left from.outer) (left read) kept behind answer
  pub unwritten : written read ≡ written from.outer
  pub failed : Counts (faults from.outer) (faults read) (link_failed answer)
  pub ends : EndsTurn left written faults Answers answer (stage read from.tools) to last

-- ---- the connection

-- All replies that were left stand written, and the link was not touched after the last.
pub record WritesAll {L T : Type 0} (most : ℕ) (replies : List ReplyParts) (mid new : Stage L T) (served : Served) : Type 0 where
  pub all : length replies ≡ most
  pub untouched : new ≡ mid
  pub is : served ≡ served_so most ended.Finished

-- Fewer replies stand written than were left, and one more turn was the last.
pub record EndsBefore {L T : Type 0} (left written : L → Option (List ℕ)) (faults : L → ℕ) (Answers : RequestParts → ReplyParts → T → T → Type 0)
    (most : ℕ) (replies : List ReplyParts) (mid : Stage L T) (kept : List ℕ) (new : Stage L T) (served : Served) : Type 0 where
  pub fewer : length replies < most
  pub last : Served
  pub turn : TurnsLast left written faults Answers mid kept new last
  pub is : served ≡ served_so (length replies + last.replies) last.ended

-- A connection with so many replies left was served in order, one turn after another: each reply was written before the link was read for the next request. It ended as all replies were written, or by a last turn, and in no other way.
pub record ServesInOrder {L T : Type 0} (left written : L → Option (List ℕ)) (faults : L → ℕ) (Answers : RequestParts → ReplyParts → T → T → Type 0)
    (most : ℕ) (old new : Stage L T) (served : Served) : Type 0 where
  pub replies : List ReplyParts
  pub mid : Stage L T
  pub kept : List ℕ
  pub turns : TurnsInOrder left written faults Answers old [] replies mid kept
  pub ends : WritesAll most replies mid new served ⊎ EndsBefore left written faults Answers most replies mid kept new served
