-- What becomes of a request: it is answered as it asks, or something failed in it.
use Rattle.std.specs.Prelude.{ℕ, ◌==◌, Bool, true, false, ◌||◌}
use Rattle.intake.specs.Requests.{Held, holding}
use Rattle.connections.specs.Answers.{Answer}
use Rattle.connections.specs.Replies.{ReplyParts, disk_failed, not_a_journal, out_of_memory}

-- a call of the disk failed; an opening found that its file is no journal; no memory was found
pub data Failure : Type 0 where
  DiskFailed NoJournal OutOfMemory : Failure

-- how far its receipt came: nothing was begun; the clock was asked for its stamp; the file then reads with the receipt
pub data Progress : Type 0 where
  NotBegun Stamped Received : Progress

-- what became of a request: it was answered as it asks, or this failed, once its receipt had come so far
pub data Fate : Type 0 where
  Answered : Fate
  Failed : Failure → Progress → Fate

-- the reply to a request in which this failed
abbrev pub failure_reply : Failure → ReplyParts
failure_reply DiskFailed = disk_failed
failure_reply NoJournal = not_a_journal
failure_reply OutOfMemory = out_of_memory

-- what is held after a request that came so far, where this would be its answer
abbrev pub held_so_far : Progress → Held → Answer → Held
held_so_far NotBegun held wanted = held
held_so_far Stamped held wanted = holding held.journal wanted.held.ticks
held_so_far Received held wanted = wanted.held

-- the reply to a request of this fate, and what is held after it
abbrev pub answer_by : Fate → Held → Answer → Answer
answer_by Answered held wanted = wanted
answer_by (Failed failure progress) held wanted = record {
  reply = failure_reply failure;
  held = held_so_far progress held wanted;
}

-- a call of the disk failed in it
abbrev pub has_disk_failed : Fate → Bool
has_disk_failed Answered = false
has_disk_failed (Failed DiskFailed progress) = true
has_disk_failed (Failed NoJournal progress) = false
has_disk_failed (Failed OutOfMemory progress) = false

-- its receipt came to the file whole, and no memory was found for the words of its reply
abbrev pub lacks_words : Fate → Bool
lacks_words Answered = false
lacks_words (Failed DiskFailed progress) = false
lacks_words (Failed NoJournal progress) = false
lacks_words (Failed OutOfMemory NotBegun) = false
lacks_words (Failed OutOfMemory Stamped) = false
lacks_words (Failed OutOfMemory Received) = true

-- it was answered as it asks, or no memory was found and nothing was begun
abbrev pub is_apart : Fate → Bool
is_apart Answered = true
is_apart (Failed DiskFailed progress) = false
is_apart (Failed NoJournal progress) = false
is_apart (Failed OutOfMemory NotBegun) = true
is_apart (Failed OutOfMemory Stamped) = false
is_apart (Failed OutOfMemory Received) = false

-- the status of an answer to an item whose words have a number
abbrev pub is_numbered : ℕ → Bool
is_numbered status = status == 200 || status == 201 || status == 409

-- Memory may run out in it where this would be its reply: before the clock was asked, whatever the reply; after that only for the receipt of an item that is accepted, or for words that have a number.
abbrev pub may_lack_memory : Fate → ReplyParts → Bool
may_lack_memory Answered wanted = true
may_lack_memory (Failed DiskFailed progress) wanted = true
may_lack_memory (Failed NoJournal progress) wanted = true
may_lack_memory (Failed OutOfMemory NotBegun) wanted = true
may_lack_memory (Failed OutOfMemory Stamped) wanted = wanted.status == 201
may_lack_memory (Failed OutOfMemory Received) wanted = is_numbered wanted.status
