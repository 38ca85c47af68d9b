-- A connection in which nothing failed has all replies.
use Rattle.std.specs.Prelude.{◌≡◌, ◌⊎◌, ℕ, ◌==◌, ◌≤◌, Bool, true, false, ◌||◌, List, [], ◌∷◌, length, Option}
use Rattle.std.specs.Io.KnownBytes.{Appends}
use Rattle.std.specs.List.{list_any}
use Rattle.intake.specs.Requests.{Held}
use Rattle.connections.specs.Answers.{answer}
use Rattle.connections.specs.Asking.{Asked, Asks}
use Rattle.connections.specs.Fates.{has_disk_failed}
use Rattle.connections.specs.Replies.{ReplyParts, bytes_of}
use Rattle.connections.specs.Served.{Connection, IsOfTurns, IsUnwritten, IsWhole, replies_of, taken_of, written_by}
use Rattle.connections.specs.Serving.{fate_of, lacks_journal, lacks_memory}
use Rattle.connections.specs.Turns.{Turn, Request, Refusal, End}
use Rattle.connections.specs.declared.serving.Ended.TheVariants as ended
use Rattle.connections.specs.declared.serving.Served.{Served}

-- These are the replies to the turns, each answered as it asks by what the one before left. The end of the bytes has none.
abbrev pub AreReplies : Held → List Turn → List ReplyParts → Type 0
AreReplies held [] replies = replies ≡ []
AreReplies held (Request request ∷ turns) replies =
    (wants : Asked) × Asks request wants
    × (rest : List ReplyParts) × (replies ≡ (answer held request.body wants).reply ∷ rest) × AreReplies (answer held request.body wants).held turns rest
AreReplies held (Refusal reply ∷ turns) replies = (rest : List ReplyParts) × (replies ≡ reply ∷ rest) × AreReplies held turns rest
AreReplies held (End ∷ turns) replies = AreReplies held turns replies

-- the status says that a call of the disk failed, or that no memory was found
abbrev pub is_unserved : ReplyParts → Bool
is_unserved reply = reply.status == 503 || reply.status == 507

-- It is finished with all replies to the turns; where the clock has a tick, none is a 503 or a 507.
pub record IsComplete (held : Held) (written_old written_new : Option (List ℕ)) (turns : List Turn) (served : Served) : Type 0 where
  pub finished : served.ended ≡ ended.Finished
  pub replies : List ReplyParts
  pub are : AreReplies held turns replies
  pub written : Appends written_old written_new (bytes_of replies)
  pub counted : served.replies ≡ length replies
  pub sound : 1 ≤ length held.ticks → list_any is_unserved replies ≡ false

-- Memory ran out in a connection of these turns, and nothing else failed in it.
pub record LackedMemory (held : Held) (written_old written_new : Option (List ℕ)) (turns : List Turn) (served : Served) : Type 0 where
  -- what became of it, and what was written
  pub became : Connection
  pub of_turns : IsOfTurns held turns became
  pub written : Appends written_old written_new (written_by held became)
  -- memory ran out in one of the turns, in place of the next, or for writing a reply
  pub lacked : (list_any (λ turn. lacks_memory (fate_of turn)) (taken_of became) ≡ true) ⊎ ((became.closing ≡ [] → ⊥) ⊎ (served.ended ≡ ended.Memory))
  -- no call of the disk failed, the file stands for a journal, and the link did not fail
  pub disk : list_any (λ turn. has_disk_failed (fate_of turn)) (taken_of became) ≡ false
  pub journal : list_any (λ turn. lacks_journal (fate_of turn)) (taken_of became) ≡ false
  pub sound : served.ended ≡ ended.LinkFault → ⊥
  -- where it is finished it is whole all the same; where no memory was found to write a reply, nothing of it was written
  pub whole : served.ended ≡ ended.Finished → IsWhole turns became × (served.replies ≡ replies_of became)
  pub unwritten : served.ended ≡ ended.Memory → IsUnwritten held became × (served.replies ≡ length became.replied)

-- A connection of these turns on which no count rose is finished with all replies, or memory ran out in it.
abbrev pub Completes : Held → Option (List ℕ) → Option (List ℕ) → List Turn → Served → Type 0
Completes held written_old written_new turns served = IsComplete held written_old written_new turns served ⊎ LackedMemory held written_old written_new turns served
