-- What taking the book finds, whether it is at hand or has to be opened.
use Rattle.std.proofs.Common.{◌+◌, ◌≡◌, inl, inr, ⊎_elim, ℕ, Bool, true, false, cond, List, [], Option, Some, None, Result, Ok, Err, IfErr, IfOk, IfSome, IsTrue, OnOk, refl, ap, sym, subst}
use Rattle.gb_outside.specs.Faults.{Counts}
use Rattle.gb_outside.specs.Images.{Torn}
use Rattle.gb_outside.proofs.Moments.{weakened}
use Rattle.act_model.specs.declared.receipts.Receipt.{Receipt}
use Rattle.journal_disk.specs.Layout.{the_heading, first_gate}
use Rattle.journal_disk.specs.Opening.{AnswersSynced, IsKept, MakesUnmade, SyncsFirst}
use Rattle.intake.specs.Grown.{IsDurable}
use Rattle.intake.proofs.Durable.{durable_stands}
use Rattle.receipt_journal.specs.Opening.{BookOpens, BookRefuses, book_opening_disk_failed}
use Rattle.receipt_journal.specs.Standing.{AreRecordsTo, StandsForJournal, records}
use Rattle.receipt_journal.specs.declared.faults.BookFault.{BookFault}
use Rattle.receipt_journal.specs.declared.faults.BookFault.TheVariants as fault
use Rattle.receipt_journal.proofs.Standings.{journal_once, kept_frames, not_both, stands_by_frames}
use Rattle.settled_book.specs.SettledBookState.{SettledBookState}
use Rattle.connections.specs.Answering.{OpensBook, WritesBy}
use Rattle.connections.specs.Holding.{IsOpenOn, register_in, working}
use Rattle.connections.specs.inner.Taking.{Finds, fate_so_far}
use Rattle.connections.proofs.EndsBy.{LeavesHeld, leaves_now}
use Rattle.connections.proofs.GrownWrites.{opened_made, writes_opened}
use Rattle.connections.proofs.MadeFiles.{journal_not_unmade}

-- a file that is kept stands for the journal that it stood for
kept_journal : (file c : List ℕ) (journal : List Receipt) → StandsForJournal file journal → IsKept file c → StandsForJournal c journal
kept_journal file c journal stands kept =
    let keeps = kept_frames file journal stands in stands_by_frames c journal keeps.0 (kept.frames _ keeps.1)

-- a book that was opened is open on the disk with the journal that the file stood for
opened_on : (file reads : List ℕ) (images : List ℕ → Type 0) (journal : List Receipt) (settled : SettledBookState) → StandsForJournal file journal
    → BookOpens file settled.book reads images → AreRecordsTo settled.book.journal settled.book.log.gate → IsOpenOn settled reads images journal
opened_on file reads images journal settled stands opens records =
    let same : settled.book.journal ≡ journal = journal_once file settled.book.journal journal opens.found stands in
    let durable : IsDurable settled.book reads images = record { keepable = records.keepable; stands = opens.stands } in record {
      journal_is = same;
      durable = durable;
      stands = λ c image. subst (StandsForJournal c) same (durable_stands settled.book reads images c durable image);
    }

-- what is written of the file
writes_opening : (journal : List Receipt) (file new : List ℕ) (opened : Result SettledBookState BookFault) → StandsForJournal file journal → IsKept file new → Torn 0 (first_gate the_heading + 1) file new
    → MakesUnmade (book_opening_disk_failed opened) file new → IfErr opened (BookRefuses file) → WritesBy true (fate_so_far opened) journal journal file new
writes_opening journal file new (Ok settled) stands kept torn makes refuses = writes_opened journal journal file new (record { made = makes refl; same = kept.same })
writes_opening journal file new (Err fault.Disk) stands kept torn makes refuses = record { made = λ unmade. record { stands = kept.frames [] (inl (unmade, refl)); torn = torn }; same = kept.same }
writes_opening journal file new (Err fault.NotJournal) stands kept torn makes refuses = kept.same refuses.not_unmade
writes_opening journal file new (Err (fault.BadRecord at)) stands kept torn makes refuses = absurd (not_both file journal refuses.0 stands refuses.1)
writes_opening journal file new (Err fault.Memory) stands kept torn makes refuses = inr (record { made = makes refl; same = kept.same })

module _ {D : Type 0} (reads : D → List ℕ) (images : D → List ℕ → Type 0) (moment : D → ℕ) (since : D → ℕ → List ℕ → Type 0) where
  synced_left : (old new : D) (journal : List Receipt) → StandsForJournal (reads old) journal → SyncsFirst reads images moment since old new → LeavesHeld reads images moment since old new journal
  synced_left old new journal stands first = inr (record {
    from = first.synced;
    until = first.until;
    then = weakened moment since first.synced new (IsKept (reads old)) (λ file. StandsForJournal file journal) (λ file kept. kept_journal (reads old) file journal stands kept) first.then;
  })

  opening_left : (old new : D) (journal : List Receipt) (failed : Bool) → StandsForJournal (reads old) journal → AnswersSynced reads images moment since old new failed → LeavesHeld reads images moment since old new journal
  opening_left old new journal true stands answers = ⊎_elim (λ none. inl none) (λ first. synced_left old new journal stands first) answers
  opening_left old new journal false stands answers = synced_left old new journal stands answers

  pub finds_by_opening : (old new : D) (journal : List Receipt) (opened : Result SettledBookState BookFault) → StandsForJournal (reads old) journal
      → IfOk opened (λ settled. BookOpens (reads old) settled.book (reads new) (images new)) → IfOk opened (λ settled. AreRecordsTo settled.book.journal settled.book.log.gate)
      → MakesUnmade (book_opening_disk_failed opened) (reads old) (reads new) → IsKept (reads old) (reads new) → Torn 0 (first_gate the_heading + 1) (reads old) (reads new) → IfErr opened (BookRefuses (reads old))
      → AnswersSynced reads images moment since old new (book_opening_disk_failed opened) → Finds reads images moment since old new journal opened
  finds_by_opening old new journal opened stands opens records makes kept torn refuses answers = record {
    file = kept_journal (reads old) (reads new) journal stands kept;
    left = opening_left old new journal (book_opening_disk_failed opened) stands answers;
    written = writes_opening journal (reads old) (reads new) opened stands kept torn makes refuses;
    there = there opened opens records;
  }
    where
      there : (opened : Result SettledBookState BookFault) → IfOk opened (λ settled. BookOpens (reads old) settled.book (reads new) (images new))
          → IfOk opened (λ settled. AreRecordsTo settled.book.journal settled.book.log.gate) → IfOk opened (λ settled. IsOpenOn settled (reads new) (images new) journal)
      there (Ok settled) opens records = opened_on (reads old) (reads new) (images new) journal settled stands opens records
      there (Err fault) opens records = tt

  pub finds_at_hand : (disk : D) (journal : List Receipt) (settled : SettledBookState) → ((file : List ℕ) → since disk (moment disk) file → images disk file) → StandsForJournal (reads disk) journal
      → IsOpenOn settled (reads disk) (images disk) journal → Finds reads images moment since disk disk journal (Ok settled)
  finds_at_hand disk journal settled only_now stands open_on = record { file = stands; left = leaves_now reads images moment since disk journal only_now; written = writes_opened journal journal (reads disk) (reads disk) (opened_made (reads disk) (journal_not_unmade (records settled.book.journal) (reads disk) open_on.durable.stands.journal)); there = open_on }

-- what was opened stood for a journal
pub opened_journal : (file reads : List ℕ) (images : List ℕ → Type 0) (opened : Result SettledBookState BookFault) → IfOk opened (λ settled. BookOpens file settled.book reads images)
    → OnOk opened ((journal : List Receipt) × StandsForJournal file journal)
opened_journal file reads images (Ok settled) opens = (settled.book.journal, opens.found)
opened_journal file reads images (Err fault) opens = tt

-- what was opened stood open on the disk, which had not failed
pub opens_book : {D : Type 0} (tells : Bool) (reads : D → List ℕ) (images : D → List ℕ → Type 0) (faults : D → ℕ) (old new : D) (opened : Result SettledBookState BookFault) → IfOk opened (λ settled. settled.book.log.failed ≡ false)
    → (IsTrue tells → IfOk opened (λ settled. BookOpens (reads old) settled.book (reads new) (images new))) → Counts (faults old) (faults new) (book_opening_disk_failed opened)
    → OnOk opened (OpensBook tells reads images faults old)
opens_book tells reads images faults old new (Ok settled) works opens counts = record { opened = new; book = settled.book; works = works; quiet = counts.else_same refl; opens = opens }
opens_book tells reads images faults old new (Err fault) works opens counts = tt

-- ---- the book that works

pub works_is : (settled : SettledBookState) → settled.book.log.failed ≡ false → working (Some settled) ≡ Some settled
works_is settled works = rw works refl

pub failed_is : (settled : SettledBookState) → settled.book.log.failed ≡ true → working (Some settled) ≡ None
failed_is settled failed = rw failed refl

-- the book that works is the one at hand
register_by : (failed : Bool) (before settled : SettledBookState) → cond failed None (Some before) ≡ Some settled → settled.register ≡ before.register
register_by true before settled is = absurd cc
register_by false before settled is = ap register_in (sym is)

pub working_register : (at_hand : Option SettledBookState) (settled : SettledBookState) → working at_hand ≡ Some settled → settled.register ≡ register_in at_hand
working_register None settled is = absurd cc
working_register (Some before) settled is = register_by before.book.log.failed before settled is

-- what is said of a working book is said of one that has not failed
pub of_working : (settled : SettledBookState) (P : SettledBookState → Type 0) → settled.book.log.failed ≡ false → IfSome (working (Some settled)) P → P settled
of_working settled P works has = let at : IfSome (Some settled) P = subst (λ (o : Option SettledBookState). IfSome o P) (works_is settled works) has in at

pub to_working : (settled : SettledBookState) (P : SettledBookState → Type 0) → P settled → IfSome (working (Some settled)) P
to_working settled P has = elim settled.book.log.failed as (λ b. IfSome (cond b None (Some settled)) P) [ true ↦ tt | false ↦ has ]
