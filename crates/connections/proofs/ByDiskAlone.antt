-- What a reply is by the book and the disk alone.
use Rattle.std.proofs.Common.{◌≡◌, ◌⊎◌, inl, inr, ℕ, ◌==◌, Bool, true, false, List, Option, Some, None, Err, IfSome, IsSome, refl, sym, ◌∙◌, ap, subst, IsTrue, arith, eq-eqb}
use Rattle.std.proofs.lemmas.Bool.{or_parts}
use Rattle.gb_outside.specs.Faults.{Counts}
use Rattle.act_model.specs.declared.receipts.Receipt.{Receipt}
use Rattle.journal_disk.specs.Layout.{the_heading, IsMade}
use Rattle.receipt_journal.specs.Opening.{BookRefuses, book_opening_disk_failed}
use Rattle.receipt_journal.specs.Receiving.{is_received, receiving_disk_failed}
use Rattle.receipt_journal.specs.Standing.{Stands, StandsForJournal}
use Rattle.receipt_journal.specs.declared.faults.BookFault.{BookFault}
use Rattle.receipt_journal.specs.declared.faults.BookFault.TheVariants as fault
use Rattle.receipt_journal.specs.declared.received.Received.{Received}
use Rattle.receipt_journal.specs.declared.received.Received.TheVariants as answers
use Rattle.settled_book.specs.SettledBookState.{SettledBookState}
use Rattle.connections.specs.Answering.{IsFailure, OpensNone, is_failed, is_item_status, is_text_status, tells_of_journal}
use Rattle.connections.specs.Answers.{status_of}
use Rattle.connections.specs.Fates.{Failure, DiskFailed, NoJournal, OutOfMemory, failure_reply, is_numbered}
use Rattle.connections.specs.Holding.{StandsForNone, StandsOpen, working}
use Rattle.connections.specs.Replies.{ReplyParts, is_reply_status, out_of_memory}
use Rattle.connections.specs.inner.Ends.{Serves}
use Rattle.connections.specs.inner.Taking.{IsReplyTo, opening_reply, received_reply}
use Rattle.connections.proofs.EndsBy.{never_true}
use Rattle.connections.proofs.NoBook.{none_still}
use Rattle.connections.proofs.TakenBooks.{failed_is, to_working}

-- a count that one call left and another goes on with
pub counts_then : (before mid now : ℕ) (failed : Bool) → Counts before mid false → Counts mid now failed → Counts before now failed
counts_then before mid now failed first second = subst (λ n. Counts n now failed) (first.else_same refl) second

pub counts_still : (count : ℕ) → Counts count count false
counts_still count = record { never_falls = omega arith; failed_rose = λ failed. absurd cc; else_same = λ sound. refl }

-- ---- no book was opened

pub none_open : (at_hand : Option SettledBookState) (P : Type 0) → at_hand ≡ None → IsSome at_hand → P
none_open at_hand P none some = let never : IsSome {T = SettledBookState} None = subst (λ (o : Option SettledBookState). IsSome o) none some in absurd cc

-- a book is open, or none
pub some_or : (at_hand : Option SettledBookState) (P : Type 0) → (at_hand ≡ None → P) → IsSome at_hand ⊎ P
some_or None P none = inr (none refl)
some_or (Some settled) P none = inl refl

module _ {D : Type 0} (tells : Bool) (reads : D → List ℕ) (images : D → List ℕ → Type 0) (moment : D → ℕ) (since : D → ℕ → List ℕ → Type 0) (faults : D → ℕ) (old new : D) (book : Option SettledBookState) where
  abbrev Answers : Option SettledBookState → ReplyParts → Type 0
  Answers at_hand reply = Serves tells reads images moment since faults old new book at_hand reply

  abbrev FindsNone : Option SettledBookState → Type 0
  FindsNone at_hand = IsTrue tells → working book ≡ None → StandsForNone (reads old) → OpensNone reads images moment since old new at_hand

  abbrev KeepsMade : Type 0
  KeepsMade = IsTrue tells → IsMade the_heading (reads old) → IsMade the_heading (reads new)

  unopened_by : (f : BookFault) → FindsNone None → KeepsMade → (IsTrue tells → BookRefuses (reads old) f) → working book ≡ None → Counts (faults old) (faults new) (book_opening_disk_failed {A = SettledBookState} (Err f)) → Answers None (opening_reply f)
  unopened_by fault.Disk finds makes refuses none counts = record { stands_open = λ told. tt; disk = counts; no_journal = λ told is. never_true (503 == 500) _ refl (eq-eqb 503 500 is); had_none = λ is. none; status = refl; not_opened = λ told was no_file. refl; made = makes; no_book = finds; kept_open = λ some sound. none_open (working book) _ none some; failed = λ is. refl }
  unopened_by fault.NotJournal finds makes refuses none counts = record { stands_open = λ told. tt; disk = counts; no_journal = λ told is. inl (refuses told); had_none = λ is. none; status = refl; not_opened = λ told was no_file. refl; made = makes; no_book = finds; kept_open = λ some sound. none_open (working book) _ none some; failed = λ is. refl }
  unopened_by (fault.BadRecord at) finds makes refuses none counts = record { stands_open = λ told. tt; disk = counts; no_journal = λ told is. inr (at, refuses told); had_none = λ is. none; status = refl; not_opened = λ told was no_file. refl; made = makes; no_book = finds; kept_open = λ some sound. none_open (working book) _ none some; failed = λ is. refl }
  unopened_by fault.Memory finds makes refuses none counts = record { stands_open = λ told. tt; disk = counts; no_journal = λ told is. never_true (507 == 500) _ refl (eq-eqb 507 500 is); had_none = λ is. none; status = refl; not_opened = λ told was no_file. refl; made = makes; no_book = finds; kept_open = λ some sound. none_open (working book) _ none some; failed = λ is. refl }

  pub unopened : (reply : ReplyParts) (at_hand : Option SettledBookState) (f : BookFault) → reply ≡ opening_reply f → at_hand ≡ None → FindsNone at_hand → KeepsMade → (IsTrue tells → BookRefuses (reads old) f) → working book ≡ None
      → Counts (faults old) (faults new) (book_opening_disk_failed {A = SettledBookState} (Err f)) → Answers at_hand reply
  unopened reply at_hand f is empty finds makes refuses none counts =
      subst (λ r. Answers at_hand r) (sym is)
      (subst (λ (o : Option SettledBookState). Answers o (opening_reply f)) (sym empty) (unopened_by f (subst (λ (o : Option SettledBookState). FindsNone o) empty finds) makes refuses none counts))

  -- a book was taken
  pub opened : (reply : ReplyParts) (settled : SettledBookState) → ((reply.status == 503) ≡ false → IsSome (working (Some settled))) → ((reply.status == 503) ≡ true → working (Some settled) ≡ None) → (IsTrue tells → StandsOpen (Some settled) (reads new) (images new)) → Counts (faults old) (faults new) (reply.status == 503) → (reply.status == 500) ≡ false
      → is_reply_status reply.status ≡ true → KeepsMade → (IsTrue tells → working book ≡ None → (journal : List Receipt) × StandsForJournal (reads old) journal) → Answers (Some settled) reply
  opened reply settled works failed stands counts other known makes journal = record {
    stands_open = stands;
    disk = counts;
    no_journal = λ told is. never_true (reply.status == 500) _ other (eq-eqb reply.status 500 is);
    had_none = λ is. never_true (reply.status == 500) _ other (eq-eqb reply.status 500 is);
    status = known;
    kept_open = λ some sound. works sound;
    failed = failed;
    made = makes;
    not_opened = λ told was no_file. let found = journal told was in absurd (no_file found.0 found.1);
    no_book = λ told was no_file. let found = journal told was in absurd (no_file found.0 found.1);
  }

-- ---- what failed

failure_fails : (failure : Failure) → is_failed (failure_reply failure) ≡ true
failure_fails DiskFailed = refl
failure_fails NoJournal = refl
failure_fails OutOfMemory = refl

-- the reply to what failed says so
pub failed_so : (reply : ReplyParts) (P : Type 0) → IsFailure reply → is_failed reply ≡ false → P
failed_so reply P failure sound = never_true (is_failed reply) P sound (ap is_failed failure.1 ∙ failure_fails failure.0)

pub no_disk_failed_in : (reply : ReplyParts) → is_failed reply ≡ false → (reply.status == 503) ≡ false
no_disk_failed_in reply sound = let parts = or_parts _ _ (or_parts _ _ sound).0 in parts.1

failure_answers : (failure : Failure) → is_text_status (failure_reply failure) ≡ true
failure_answers DiskFailed = refl
failure_answers NoJournal = refl
failure_answers OutOfMemory = refl

-- it is one to a request that reads a text
pub failure_to_text : (reply : ReplyParts) → IsFailure reply → is_text_status reply ≡ true
failure_to_text reply failure = ap is_text_status failure.1 ∙ failure_answers failure.0

-- ---- the disk was not called

-- the reply tells nothing of a disk
pub record IsApart (reply : ReplyParts) : Type 0 where
  pub no_disk : (reply.status == 503) ≡ false
  pub no_journal : (reply.status == 500) ≡ false
  pub known : is_reply_status reply.status ≡ true
  pub silent : tells_of_journal reply ≡ false

pub still : {D : Type 0} (tells : Bool) (reads : D → List ℕ) (images : D → List ℕ → Type 0) (moment : D → ℕ) (since : D → ℕ → List ℕ → Type 0) (faults : D → ℕ) (disk : D) (at_hand : Option SettledBookState) (reply : ReplyParts)
    → (IsTrue tells → (file : List ℕ) → since disk (moment disk) file → images disk file) → (IsTrue tells → StandsOpen at_hand (reads disk) (images disk)) → IsApart reply
    → Serves tells reads images moment since faults disk disk at_hand at_hand reply
still tells reads images moment since faults disk at_hand reply only_now stands apart = record {
  stands_open = stands;
  disk = subst (λ b. Counts (faults disk) (faults disk) b) (sym apart.no_disk) (counts_still (faults disk));
  no_journal = λ told is. never_true (reply.status == 500) _ apart.no_journal (eq-eqb reply.status 500 is);
  had_none = λ is. never_true (reply.status == 500) _ apart.no_journal (eq-eqb reply.status 500 is);
  status = apart.known;
  not_opened = λ told was no_file. apart.silent;
  kept_open = λ some sound. some;
  failed = λ is. never_true (reply.status == 503) _ apart.no_disk is;
  made = λ told was. was;
  no_book = λ told was no_file. none_still reads images moment since disk at_hand (only_now told) was;
}

-- ---- the status of a reply

-- the status is 503 where the disk failed, and not 500
pub record HasStatus (reply : ReplyParts) (failed : Bool) : Type 0 where
  pub disk : (reply.status == 503) ≡ failed
  pub no_journal : (reply.status == 500) ≡ false
  pub known : is_reply_status reply.status ≡ true

status_by : (answer : Received) → (answer ≡ answers.MustReopen → ⊥) → HasStatus (received_reply answer) (receiving_disk_failed answer)
status_by (answers.Accepted n) opened = record { disk = refl; no_journal = refl; known = refl }
status_by (answers.Repeated n) opened = record { disk = refl; no_journal = refl; known = refl }
status_by (answers.Differs n) opened = record { disk = refl; no_journal = refl; known = refl }
status_by answers.Full opened = record { disk = refl; no_journal = refl; known = refl }
status_by answers.Disk opened = record { disk = refl; no_journal = refl; known = refl }
status_by answers.MustReopen opened = absurd (opened refl)
status_by answers.Memory opened = record { disk = refl; no_journal = refl; known = refl }

no_disk : (answer : Received) → is_numbered (status_of answer) ≡ true → HasStatus out_of_memory (receiving_disk_failed answer)
no_disk (answers.Accepted n) number = record { disk = refl; no_journal = refl; known = refl }
no_disk (answers.Repeated n) number = record { disk = refl; no_journal = refl; known = refl }
no_disk (answers.Differs n) number = record { disk = refl; no_journal = refl; known = refl }
no_disk answers.Full number = absurd cc
no_disk answers.Disk number = absurd cc
no_disk answers.MustReopen number = absurd cc
no_disk answers.Memory number = absurd cc

pub status_of_item : (answer : Received) (reply : ReplyParts) → (answer ≡ answers.MustReopen → ⊥) → IsReplyTo answer reply → HasStatus reply (receiving_disk_failed answer)
status_of_item answer reply opened (inl is) = subst (λ r. HasStatus r (receiving_disk_failed answer)) (sym is) (status_by answer opened)
status_of_item answer reply opened (inr (number, is)) = subst (λ r. HasStatus r (receiving_disk_failed answer)) (sym is) (no_disk answer number)

-- the status of a reply to an item that the clock gave a stamp for
item_status_by : (answer : Received) → is_item_status (received_reply answer) ≡ true
item_status_by (answers.Accepted n) = refl
item_status_by (answers.Repeated n) = refl
item_status_by (answers.Differs n) = refl
item_status_by answers.Full = refl
item_status_by answers.Disk = refl
item_status_by answers.MustReopen = refl
item_status_by answers.Memory = refl

pub item_status : (answer : Received) (reply : ReplyParts) → IsReplyTo answer reply → is_item_status reply ≡ true
item_status answer reply (inl is) = ap is_item_status is ∙ item_status_by answer
item_status answer reply (inr (number, is)) = ap is_item_status is

-- the book that received stands on the disk unless it failed
pub stands_after : (settled : SettledBookState) (reads : List ℕ) (images : List ℕ → Type 0) (failed : Bool) → settled.book.log.failed ≡ failed → (failed ≡ false → Stands settled.book reads images) → StandsOpen (Some settled) reads images
stands_after settled reads images true is stands = subst (λ (o : Option SettledBookState). IfSome o (λ s. Stands s.book reads images)) (sym (failed_is settled is)) tt
stands_after settled reads images false is stands = to_working settled (λ s. Stands s.book reads images) (stands refl)

-- ---- an item that was not received

no_receipt : (answer : Received) → (status_of answer == 201) ≡ false → is_received answer ≡ false
no_receipt (answers.Accepted n) other = absurd cc
no_receipt (answers.Repeated n) other = refl
no_receipt (answers.Differs n) other = refl
no_receipt answers.Full other = refl
no_receipt answers.Disk other = refl
no_receipt answers.MustReopen other = refl
no_receipt answers.Memory other = refl

reply_status : (answer : Received) → (received_reply answer).status ≡ status_of answer
reply_status (answers.Accepted n) = refl
reply_status (answers.Repeated n) = refl
reply_status (answers.Differs n) = refl
reply_status answers.Full = refl
reply_status answers.Disk = refl
reply_status answers.MustReopen = refl
reply_status answers.Memory = refl

pub not_received : (answer : Received) (reply : ReplyParts) → IsReplyTo answer reply → (reply.status == 201) ≡ false → is_failed reply ≡ false → is_received answer ≡ false
not_received answer reply (inl is) other sound = no_receipt answer (ap (λ n. n == 201) (sym (reply_status answer)) ∙ sym (ap (λ (r : ReplyParts). r.status == 201) is) ∙ other)
not_received answer reply (inr (number, is)) other sound = failed_so reply _ (OutOfMemory, is) sound
