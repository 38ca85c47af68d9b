-- What one turn of a connection comes to.
use Rattle.std.specs.Prelude.{◌≡◌, ℕ, ◌==◌, Bool, false, List, [], ◌∷◌, ◌++◌, Option, Some, None, Result, Ok, Err}
use Rattle.std.specs.Io.KnownBytes.{Appends}
use Rattle.intake.specs.Requests.{Held}
use Rattle.registry_http.specs.RequestLists.{AreRequests}
use Rattle.registry_http.specs.RequestParts.{RequestParts}
use Rattle.registry_http.specs.Requests.{AtFront}
use Rattle.registry_http.specs.declared.replies.ReplyFault.{ReplyFault}
use Rattle.registry_http.specs.declared.replies.ReplyFault.TheVariants as fault
use Rattle.connections.specs.LinkOrder.{AnswersLast, Stage, TurnsLast, TurnsOnce}
use Rattle.connections.specs.Replies.{ReplyParts, bytes_of}
use Rattle.connections.specs.Serving.{ServesLink, is_link_fault}
use Rattle.connections.specs.Turns.{Taken, Request, IsOf, answer_in, turns}
use Rattle.connections.specs.declared.serving.Ended.{Ended}
use Rattle.connections.specs.declared.serving.Ended.TheVariants as ended
use Rattle.connections.specs.declared.serving.Served.{Served}

-- how a connection ends by the fault of a reply
abbrev pub answering_ended : ReplyFault → Ended
answering_ended fault.LinkFault = ended.LinkFault
answering_ended fault.Memory = ended.Memory

-- the link failed while a reply was written
abbrev pub sending_failed : Result (Unit {0}) Ended → Bool
sending_failed (Ok u) = false
sending_failed (Err e) = is_link_fault e

-- the connection ended, and the link failed
abbrev pub has_link_failed : Option Served → Bool
has_link_failed None = false
has_link_failed (Some served) = is_link_fault served.ended

-- What stands at a link before a turn: what is held, and these requests in the bytes that were read and those to come.
pub record Meets (HoldsNow : Held → Type 0) (left : Option (List ℕ)) (kept : List ℕ) (end : AtFront)
    (held : Held) (requests : List RequestParts) : Type 0 where
  pub holds : HoldsNow held
  pub input : List ℕ
  pub left_is : left ≡ Some input
  pub are : AreRequests (kept ++ input) requests end

-- A request was replied to that is not the last.
pub record GoesOn {D : Type 0} (Takes : D → D → Held → List Taken → Type 0) (old new : D) (held : Held)
    (written_old written_new : Option (List ℕ)) (requests : List RequestParts) (MeetsNow : Held → List RequestParts → Type 0) : Type 0 where
  pub request : RequestParts
  pub others : List RequestParts
  pub first : requests ≡ request ∷ others
  pub more : request.last ≡ false
  pub taken : Taken
  pub is : IsOf (Request request) taken
  pub written : Appends written_old written_new (bytes_of ((answer_in held taken).reply ∷ []))
  pub meets : MeetsNow (answer_in held taken).held others
  pub disk : Takes old new held (taken ∷ [])

-- one turn was taken and more may follow, or the connection was served
abbrev pub IsTurn : {D : Type 0} → (D → D → Held → List Taken → Type 0) → D → D → Held
    → Option (List ℕ) → Option (List ℕ) → List RequestParts → AtFront → (Held → Type 0) → (Held → List RequestParts → Type 0) → Option Served → Type 0
IsTurn Takes old new held written_old written_new requests end HoldsNow MeetsNow None =
    GoesOn Takes old new held written_old written_new requests MeetsNow
IsTurn Takes old new held written_old written_new requests end HoldsNow MeetsNow (Some served) =
    (n : ℕ) → (n == 0) ≡ false → ServesLink Takes old new held written_old written_new (turns n requests end) served HoldsNow

-- ---- in which order the link was read and written

-- The reply to a request was written, with nothing read: whole where more may follow, and then it was not the last, and the link did not fail.
pub record RepliesOnce {L : Type 0} (left written : L → Option (List ℕ)) (faults : L → ℕ) (request : RequestParts) (reply : ReplyParts) (old new : L) : Type 0 where
  pub more : request.last ≡ false
  pub unread : left new ≡ left old
  pub replied : Appends (written old) (written new) (bytes_of (reply ∷ []))
  pub quiet : faults new ≡ faults old

-- a request was answered, and more may follow, or its reply was the last
abbrev pub AnswersNext : {L T : Type 0} → (L → Option (List ℕ)) → (L → Option (List ℕ)) → (L → ℕ) → (RequestParts → ReplyParts → T → T → Type 0) → RequestParts → Stage L T → Stage L T → Option Served → Type 0
AnswersNext left written faults Answers request old new None =
    (reply : ReplyParts) × Answers request reply old.tools new.tools × RepliesOnce left written faults request reply old.outer new.outer
AnswersNext left written faults Answers request old new (Some last) = AnswersLast left written faults Answers request old new last

-- one turn was taken and more may follow, or the last one
abbrev pub TurnsNext : {L T : Type 0} → (L → Option (List ℕ)) → (L → Option (List ℕ)) → (L → ℕ) → (RequestParts → ReplyParts → T → T → Type 0) → Stage L T → List ℕ → Stage L T → List ℕ → Option Served → Type 0
TurnsNext left written faults Answers from kept to behind None = (reply : ReplyParts) × TurnsOnce left written faults Answers from kept reply to behind
TurnsNext left written faults Answers from kept to behind (Some last) = TurnsLast left written faults Answers from kept to last
