-- What a connection writes and leaves.
use Rattle.std.specs.Prelude.{◌≡◌, ◌≢◌, ◌⊎◌, ℕ, ◌+◌, ◌<◌, ◌≤◌, false, List, [], ◌∷◌, ◌++◌, length, map, take, drop}
use Rattle.std.specs.List.{AllZip, list_any}
use Rattle.intake.specs.Grown.{GrownFrom, IsFront}
use Rattle.intake.specs.Requests.{Held}
use Rattle.connections.specs.Fates.{Answered}
use Rattle.connections.specs.Replies.{ReplyParts, bytes_of, out_of_memory}
use Rattle.connections.specs.Turns.{Turn, Taken, Answering, Refusing, IsOf, held_after, is_owed, replies_in}

-- the turn as it is where nothing fails in it
abbrev pub unfailed : Taken → Taken
unfailed (Answering request wants fate) = Answering request wants Answered
unfailed (Refusing reply) = Refusing reply

-- A file that a stop leaves while these turns are taken: it stands for the journal after the first of them, with the receipt of the one that follows or without it.
pub record IsLeftIn (held : Held) (turns : List Taken) (file : List ℕ) : Type 0 where
  pub done : List Taken
  pub next : List Taken
  pub rest : List Taken
  pub all : turns ≡ done ++ (next ++ rest)
  pub one : length next ≤ 1
  pub left : GrownFrom (held_after held done).journal (held_after held (done ++ map unfailed next)).journal file

-- The connection said all; or it has no more to say, as no memory was found for a turn that was left after these.
abbrev pub IsClosing : List Turn → List Taken → List ReplyParts → Type 0
IsClosing turns replied closing = (closing ≡ []) ⊎ ((closing ≡ out_of_memory ∷ []) × (length replied < length turns))

-- What became of a connection.
pub record Connection : Type 0 where
  -- the turns that were replied to whole, and the one that was taken up after them, if any
  pub replied : List Taken
  pub begun : List Taken
  -- the reply that ends it where no memory was found for what comes next
  pub closing : List ReplyParts
  -- the bytes that stand written of a reply that is not whole
  pub front : List ℕ

-- the turns that were taken up
abbrev pub taken_of : Connection → List Taken
taken_of c = c.replied ++ c.begun

-- the bytes that were written, where this was held at first
abbrev pub written_by : Held → Connection → List ℕ
written_by held c = bytes_of (replies_in held c.replied) ++ c.front

-- what is held after it
abbrev pub held_by : Held → Connection → Held
held_by held c = held_after held (taken_of c)

-- the reply that comes next after the whole ones: to the turn that was begun, or the one that closes
abbrev pub next_reply : Held → Connection → List ReplyParts
next_reply held c = replies_in (held_after held c.replied) c.begun ++ c.closing

-- It is a connection of these turns.
pub record IsOfTurns (held : Held) (turns : List Turn) (c : Connection) : Type 0 where
  -- the first of them were taken, and at most one of these is not replied to whole
  pub are : AllZip IsOf (take (length (taken_of c)) turns) (taken_of c)
  pub one : length c.begun ≤ 1
  -- a reply that closes comes in place of a turn, and not beside one that was begun
  pub closes : IsClosing turns c.replied c.closing
  pub apart : (c.begun ≡ []) ⊎ (c.closing ≡ [])
  -- what stands written after the whole replies is a front of the next one
  pub part : IsFront c.front (bytes_of (next_reply held c))

-- It is whole: all turns were replied to that are owed a reply, or the reply that closes stands written whole.
pub record IsWhole (turns : List Turn) (c : Connection) : Type 0 where
  pub none_begun : c.begun ≡ []
  pub written : c.front ≡ bytes_of c.closing
  pub all : c.closing ≡ [] → list_any is_owed (drop (length c.replied) turns) ≡ false

-- It is cut off: a turn was left, and the reply that comes next, if there is one, does not stand whole.
pub record IsCutOff (held : Held) (turns : List Turn) (c : Connection) : Type 0 where
  pub left : length c.replied < length turns
  pub short : (next_reply held c ≡ []) ⊎ (length c.front < length (bytes_of (next_reply held c)))

-- A reply comes next, and nothing of it was written.
pub record IsUnwritten (held : Held) (c : Connection) : Type 0 where
  pub owed : next_reply held c ≢ []
  pub nothing : c.front ≡ []

-- how many whole replies were written of one that is whole
abbrev pub replies_of : Connection → ℕ
replies_of c = length c.replied + length c.closing
