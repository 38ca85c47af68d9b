-- How answering a request ends, by what it found of the book.
use Rattle.std.proofs.Common.{◌≡◌, ℕ, Bool, true, false, List, Option, IsSome, refl, sym, ◌∙◌, ap}
use Rattle.gb_base.specs.DayMinute.{DayMinute}
use Rattle.act_model.specs.declared.receipts.Receipt.{Receipt}
use Rattle.intake.specs.Grown.{GrownFrom, IsFront}
use Rattle.intake.specs.Requests.{Held}
use Rattle.intake.proofs.Durable.{front_refl}
use Rattle.receipt_journal.specs.Standing.{StandsForJournal}
use Rattle.settled_book.specs.SettledBookState.{SettledBookState}
use Rattle.connections.specs.Answering.{LeavesOldThen, WritesBy, is_from_disk, tells_of_file}
use Rattle.connections.specs.Answers.{Answer, only}
use Rattle.connections.specs.Fates.{Failure, DiskFailed, NoJournal, OutOfMemory, Answered, Failed, NotBegun, failure_reply, may_lack_memory}
use Rattle.connections.specs.Holding.{Holds, working}
use Rattle.connections.specs.Replies.{ReplyParts}
use Rattle.connections.specs.inner.Ends as ends
use Rattle.connections.proofs.LeftThen.{then_still, then_weakened}

-- a file that stands for the journal that was held has grown by nothing
pub grown_none : (from to : List Receipt) (file : List ℕ) → IsFront from to → StandsForJournal file from → GrownFrom from to file
grown_none from to file front stands = record { journal = from; stands = stands; begins = front_refl from; ends = front }

-- no reply to what failed before a receipt tells of the file
failed_tells_none : (failure : Failure) → tells_of_file (Failed failure NotBegun) (failure_reply failure) ≡ false
failed_tells_none DiskFailed = refl
failed_tells_none NoJournal = refl
failed_tells_none OutOfMemory = refl

-- memory may run out before each receipt
unbegun_lacks : (failure : Failure) (wanted : ReplyParts) → may_lack_memory (Failed failure NotBegun) wanted ≡ true
unbegun_lacks DiskFailed wanted = refl
unbegun_lacks NoJournal wanted = refl
unbegun_lacks OutOfMemory wanted = refl

pub never_true : (b : Bool) (P : Type 0) → b ≡ false → b ≡ true → P
never_true b P fails passes = let never : true ≡ false = sym passes ∙ fails in absurd cc

pub not_from_disk : (reply : ReplyParts) (P : Type 0) → is_from_disk reply ≡ false → is_from_disk reply ≡ true → P
not_from_disk reply P silent tells = never_true (is_from_disk reply) P silent tells

module _ {D : Type 0} (reads : D → List ℕ) (images : D → List ℕ → Type 0) (moment : D → ℕ) (since : D → ℕ → List ℕ → Type 0) where
  -- what a stop leaves where no item was received
  abbrev pub LeavesHeld : D → D → List Receipt → Type 0
  LeavesHeld old new journal = LeavesOldThen images moment since old new (λ file. StandsForJournal file journal)

  pub leaves_grown : (old new : D) (from to : List Receipt) → IsFront from to → LeavesHeld old new from → LeavesOldThen images moment since old new (GrownFrom from to)
  leaves_grown old new from to front run = then_weakened images moment since old new (λ file. StandsForJournal file from) (GrownFrom from to) (λ file stands. grown_none from to file front stands) run

  -- no call of the disk was made
  pub leaves_now : (disk : D) (journal : List Receipt) → ((file : List ℕ) → since disk (moment disk) file → images disk file) → LeavesHeld disk disk journal
  leaves_now disk journal only_now = then_still images moment since disk (λ file. StandsForJournal file journal) only_now

  -- it is answered by this, which leaves what is held
  pub ends_only : (old new : D) (calls : Bool) (held : Held) (reply : ReplyParts) (at_hand : Option SettledBookState) (known : Option (List DayMinute))
      → Holds at_hand (reads new) (images new) known held → LeavesHeld old new held.journal → WritesBy calls Answered held.journal held.journal (reads old) (reads new) → (is_from_disk reply ≡ true → IsSome (working at_hand))
      → ends.EndsBy reads images moment since old new calls held (only held reply) reply at_hand known
  ends_only old new calls held reply at_hand known holds left written works = record {
    fate = Answered;
    reply_is = refl;
    memory = refl;
    holds = holds;
    left = leaves_grown old new held.journal held.journal (front_refl held.journal) left;
    written = written;
    works = works;
  }

  -- something failed in it before its receipt
  pub ends_failed : (old new : D) (calls : Bool) (held : Held) (wanted : Answer) (failure : Failure) (reply : ReplyParts) (at_hand : Option SettledBookState) (known : Option (List DayMinute))
      → reply ≡ failure_reply failure → Holds at_hand (reads new) (images new) known held → LeavesHeld old new held.journal → WritesBy calls (Failed failure NotBegun) held.journal wanted.held.journal (reads old) (reads new) → IsFront held.journal wanted.held.journal
      → ends.EndsBy reads images moment since old new calls held wanted reply at_hand known
  ends_failed old new calls held wanted failure reply at_hand known is holds left written front = record {
    fate = Failed failure NotBegun;
    reply_is = is;
    memory = unbegun_lacks failure wanted.reply;
    holds = holds;
    left = leaves_grown old new held.journal wanted.held.journal front left;
    written = written;
    works = λ tells. never_true (tells_of_file (Failed failure NotBegun) reply) _ (ap (λ (r : ReplyParts). tells_of_file (Failed failure NotBegun) r) is ∙ failed_tells_none failure) tells;
  }
