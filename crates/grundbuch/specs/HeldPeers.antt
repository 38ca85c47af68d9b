-- What is read of a peer of the port, and what of it the office is given.
use Rattle.std.specs.Prelude.{◌≡◌, ℕ, ◌⊎◌, ◌||◌, Bool, true, false, List, [], ◌++◌, take, length, min, Option, None, Some, IfSome}
use Rattle.std.specs.Io.KnownBytes.{Consumes}
use Rattle.gb_outside.specs.declared.streams.Got.{Got}
use Rattle.gb_outside.specs.declared.streams.Got.TheVariants as got
use Rattle.peer_queues.specs.InboxState.{InboxState}
use Rattle.peer_queues.specs.Inboxes.{Opens, with_end, with_more, without_front}

-- What a stream gave is kept behind what was kept before, each byte once and in its order. That the peer's bytes have ended is noted only where no more are left. Some bytes may be lost behind those that are kept, where the peer does not stay.
pub record Hears (left0 left1 : Option (List ℕ)) (old new : InboxState) (stays : Bool) : Type 0 where
  pub more : List ℕ
  pub lost : List ℕ
  pub read : Consumes left0 left1 (more ++ lost)
  pub none_lost : stays ≡ true → lost ≡ []
  pub kept : (new ≡ with_more old more) ⊎ ((new ≡ with_end (with_more old more)) × IfSome left0 (λ bytes. bytes ≡ more))

-- what was kept of the peer of a place is kept, and what a connection gave behind it; or no peer is there any more
abbrev pub HearsThere : Option InboxState → Option InboxState → Type 0
HearsThere old None = Unit {0}
HearsThere None (Some new) = ⊥
HearsThere (Some old) (Some new) = Hears None None old new true

-- what the office is to be given next of a peer was just opened
abbrev pub IsOpened : InboxState → Type 0
IsOpened inbox = (before : InboxState) × Opens before inbox

-- More of a peer is kept, and where it is its turn, what the office is to be given of it next is opened. Nothing is lost of one that is opened or waits on.
pub record GoesOn (old new : InboxState) (opens waits : Bool) : Type 0 where
  pub heard : InboxState
  pub hears : Hears None None old heard (opens || waits)
  pub opened : opens ≡ true → Opens heard new
  pub not_opened : opens ≡ false → new ≡ heard

-- A peer goes on where this is so, and else stays as it is.
pub record GoesOnIf (goes_on : Bool) (old new : InboxState) (waits : Bool) : Type 0 where
  pub goes : goes_on ≡ true → (opens : Bool) × GoesOn old new opens waits
  pub stays : goes_on ≡ false → new ≡ old

-- the bytes that are handed on are the next of what is opened, as many as there is room for, and no others; at the end all of them were
abbrev pub Gives : InboxState → InboxState → Got → List ℕ → Type 0
Gives old new (got.Bytes n) into = (n ≡ min (length old.giving) (length into)) × (take n into ≡ take n old.giving) × (new ≡ without_front n old)
Gives old new got.End into = (old.giving ≡ []) × (new ≡ old)
Gives old new got.Failed into = ⊥

-- What the office reads of a peer: the next bytes of what is opened. The peer goes on before, where this is so, and then perhaps waits.
pub record GivesNext (old new : InboxState) (goes_on waits : Bool) (got : Got) (into : List ℕ) : Type 0 where
  pub opened : InboxState
  pub next : GoesOnIf goes_on old opened waits
  pub gives : Gives opened new got into
