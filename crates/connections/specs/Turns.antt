-- The replies of a connection, one turn after another.
use Rattle.std.specs.Prelude.{◌≡◌, ℕ, ◌-◌, ◌==◌, Bool, true, false, if◌then◌else◌, List, [], ◌∷◌}
use Rattle.intake.specs.Requests.{Held}
use Rattle.registry_http.specs.RequestParts.{RequestParts}
use Rattle.registry_http.specs.Requests.{AtFront, Whole, Nothing, Cut, HeadFault, BodyTooLong}
use Rattle.connections.specs.Answering.{may_call_disk}
use Rattle.connections.specs.Answers.{Answer, answer, only}
use Rattle.connections.specs.Asking.{Asked, Asks}
use Rattle.connections.specs.Fates.{Fate, answer_by, is_apart}
use Rattle.connections.specs.Replies.{ReplyParts, bad_request, body_too_long}

-- what a connection reads in one turn: a request, bytes that end it with a refusal, or the end of its bytes
pub data Turn : Type 0 where
  Request : RequestParts → Turn
  Refusal : ReplyParts → Turn
  End : Turn

-- a reply is owed to it
abbrev pub is_owed : Turn → Bool
is_owed (Request request) = true
is_owed (Refusal reply) = true
is_owed End = false

-- the turn after the last request of a link
abbrev pub last_turn : AtFront → List Turn
last_turn (Whole request rest) = []
last_turn Nothing = End ∷ []
last_turn Cut = End ∷ []
last_turn HeadFault = Refusal bad_request ∷ []
last_turn BodyTooLong = Refusal body_too_long ∷ []

-- The turns of a connection with so many replies left, as long as it reads: its requests, up to one that is the last, and what ends it.
abbrev pub turns : ℕ → List RequestParts → AtFront → List Turn
turns left [] end = if left == 0 then [] else last_turn end
turns left (request ∷ requests) end =
    if left == 0 then [] else Request request ∷ (if request.last then [] else turns (left - 1) requests end)

-- a turn that was taken: of a request, what it asks for and what became of it
pub data Taken : Type 0 where
  Answering : RequestParts → Asked → Fate → Taken
  Refusing : ReplyParts → Taken

-- It is this turn; where the disk is not called for it, it was answered as it asks, or no memory was found.
abbrev pub IsOf : Turn → Taken → Type 0
IsOf (Request request) (Answering taken wants fate) =
    (taken ≡ request) × Asks request wants × (may_call_disk wants request.body ≡ false → is_apart fate ≡ true)
IsOf (Request request) (Refusing reply) = ⊥
IsOf (Refusal reply) (Refusing taken) = taken ≡ reply
IsOf (Refusal reply) (Answering request wants fate) = ⊥
IsOf End taken = ⊥

-- the disk may be called in it
abbrev pub calls_disk : Taken → Bool
calls_disk (Answering request wants fate) = may_call_disk wants request.body
calls_disk (Refusing reply) = false

-- the reply of a turn, and what is held after it
abbrev pub answer_in : Held → Taken → Answer
answer_in held (Answering request wants fate) = answer_by fate held (answer held request.body wants)
answer_in held (Refusing reply) = only held reply

-- the replies of turns, one after the other
abbrev pub replies_in : Held → List Taken → List ReplyParts
replies_in held [] = []
replies_in held (turn ∷ turns) = (answer_in held turn).reply ∷ replies_in (answer_in held turn).held turns

-- what is held after them
abbrev pub held_after : Held → List Taken → Held
held_after held [] = held
held_after held (turn ∷ turns) = held_after (answer_in held turn).held turns
