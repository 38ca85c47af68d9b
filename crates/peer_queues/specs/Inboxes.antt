-- What a peer has sent, and what of it the office is given.
use Rattle.std.specs.Prelude.{◌≡◌, ℕ, ◌+◌, ◌<◌, ◌≤◌, ◌⊎◌, Bool, true, false, List, [], ◌++◌, take, drop, length, Option, Some, None}
use Rattle.registry_http.specs.Framing.{IsRefusal, IsWhole}
use Rattle.registry_http.specs.Heads.{longest_head, longest_request_body}
use Rattle.registry_http.specs.Requests.{WantsMore}
use Rattle.peer_queues.specs.InboxState.{InboxState}
use Rattle.peer_queues.specs.declared.stages.Stage.{Stage}
use Rattle.peer_queues.specs.declared.stages.Stage.TheVariants.{Silent, Idle, Begun, Ready, Leaving}

-- how many bytes of a peer are kept: those of the longest head and the longest body
abbrev pub most_kept : ℕ
most_kept = longest_head + longest_request_body

-- more bytes came
abbrev pub with_more : InboxState → List ℕ → InboxState
with_more inbox bytes = record { giving = inbox.giving; kept = inbox.kept ++ bytes; ended = inbox.ended; known = inbox.known }

-- the peer's bytes have ended
abbrev pub with_end : InboxState → InboxState
with_end inbox = record { giving = inbox.giving; kept = inbox.kept; ended = true; known = inbox.known }

-- so many bytes of what is opened were given
abbrev pub without_front : ℕ → InboxState → InboxState
without_front count inbox = record { giving = drop count inbox.giving; kept = inbox.kept; ended = inbox.ended; known = inbox.known }

-- So many of the bytes the office is to be given: those of one whole request; or all, where they are refused, or no more come. None where more are wanted and may come, or where there are none.
pub record IsDue (kept : List ℕ) (ended : Bool) (size : ℕ) : Type 0 where
  pub within : size ≤ length kept
  pub none : size ≡ 0 → (kept ≡ []) ⊎ (WantsMore kept × (ended ≡ false))
  pub some : 0 < size → IsWhole kept size ⊎ ((size ≡ length kept) × (IsRefusal kept ⊎ (WantsMore kept × (ended ≡ true))))

-- How far a peer has come that sent these bytes, by what it is to be given of them; none where it has ended and there are none. One of which some were opened before has had its reply.
abbrev pub HasCome : List ℕ → Bool → Bool → Option Stage → Type 0
HasCome kept ended known None = (kept ≡ []) × (ended ≡ true)
HasCome kept ended known (Some Silent) = (kept ≡ []) × (ended ≡ false) × (known ≡ false)
HasCome kept ended known (Some Idle) = (kept ≡ []) × (ended ≡ false) × (known ≡ true)
HasCome kept ended known (Some Begun) = (0 < length kept) × IsDue kept ended 0
HasCome kept ended known (Some Ready) = (size : ℕ) × (0 < size) × IsDue kept ended size
HasCome kept ended known (Some Leaving) = ⊥

-- What the office is to be given next is opened, and what comes behind it is kept.
pub record Opens (old new : InboxState) : Type 0 where
  pub size : ℕ
  pub due : IsDue old.kept old.ended size
  pub giving : new.giving ≡ take size old.kept
  pub kept : new.kept ≡ drop size old.kept
  pub ended : new.ended ≡ old.ended
  pub known : new.known ≡ true
