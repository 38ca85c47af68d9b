-- How answering a request ends.
use Rattle.std.specs.Prelude.{◌≡◌, ℕ, ◌==◌, Bool, true, false, List, Option, None, IsSome, IsTrue}
use Rattle.gb_base.specs.DayMinute.{DayMinute}
use Rattle.gb_outside.specs.Faults.{Counts}
use Rattle.journal_disk.specs.Layout.{the_heading, IsMade}
use Rattle.intake.specs.Grown.{GrownFrom}
use Rattle.intake.specs.Requests.{Held}
use Rattle.settled_book.specs.SettledBookState.{SettledBookState}
use Rattle.connections.specs.Answering.{LeavesOldThen, OpensNone, WritesBy, tells_of_file, tells_of_journal}
use Rattle.connections.specs.Answers.{Answer}
use Rattle.connections.specs.Fates.{Fate, answer_by, may_lack_memory}
use Rattle.connections.specs.Holding.{Holds, IsNoJournal, StandsForNone, StandsOpen, working}
use Rattle.connections.specs.Replies.{ReplyParts, is_reply_status}

-- What a request came to that would be answered so where all works, and for which the disk may be called or not; after a text was read or an item received, a book works.
pub record EndsBy {D : Type 0} (reads : D → List ℕ) (images : D → List ℕ → Type 0) (moment : D → ℕ) (since : D → ℕ → List ℕ → Type 0) (old new : D) (calls : Bool) (held : Held) (wanted : Answer)
    (reply : ReplyParts) (at_hand : Option SettledBookState) (known : Option (List DayMinute)) : Type 0 where
  pub fate : Fate
  pub reply_is : reply ≡ (answer_by fate held wanted).reply
  pub memory : may_lack_memory fate wanted.reply ≡ true
  pub holds : Holds at_hand (reads new) (images new) known (answer_by fate held wanted).held
  pub left : LeavesOldThen images moment since old new (GrownFrom held.journal wanted.held.journal)
  pub written : WritesBy calls fate held.journal wanted.held.journal (reads old) (reads new)
  pub works : tells_of_file fate reply ≡ true → IsSome (working at_hand)

-- What a reply is by the book and the disk alone, whatever is held.
pub record Serves {D : Type 0} (tells : Bool) (reads : D → List ℕ) (images : D → List ℕ → Type 0) (moment : D → ℕ) (since : D → ℕ → List ℕ → Type 0) (faults : D → ℕ) (old new : D)
    (book_old book_new : Option SettledBookState) (reply : ReplyParts) : Type 0 where
  pub stands_open : IsTrue tells → StandsOpen book_new (reads new) (images new)
  pub disk : Counts (faults old) (faults new) (reply.status == 503)
  pub kept_open : IsSome (working book_old) → (reply.status == 503) ≡ false → IsSome (working book_new)
  pub failed : (reply.status == 503) ≡ true → working book_new ≡ None
  pub no_journal : IsTrue tells → reply.status ≡ 500 → IsNoJournal (reads old)
  pub had_none : reply.status ≡ 500 → working book_old ≡ None
  pub status : is_reply_status reply.status ≡ true
  pub not_opened : IsTrue tells → working book_old ≡ None → StandsForNone (reads old) → tells_of_journal reply ≡ false
  pub made : IsTrue tells → IsMade the_heading (reads old) → IsMade the_heading (reads new)
  pub no_book : IsTrue tells → working book_old ≡ None → StandsForNone (reads old) → OpensNone reads images moment since old new book_new
