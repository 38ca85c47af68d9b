-- How receiving an item ends, by its answer.
use Rattle.std.proofs.Common.{◌≡◌, ◌⊎◌, inl, inr, ℕ, ◌==◌, true, false, List, Option, Some, IsSome, IfSome, is_some, refl, sym, ◌∙◌, ap, subst}
use Rattle.gb_base.specs.DayMinute.{DayMinute}
use Rattle.act_model.specs.declared.items.Item.{Item}
use Rattle.intake.specs.Grown.{GrownFrom}
use Rattle.intake.specs.Requests.{Held, holding, is_fault}
use Rattle.intake_requests.specs.declared.requests.SenderReference.{SenderReference}
use Rattle.receipt_journal.specs.Receiving.{is_received, receiving_disk_failed}
use Rattle.receipt_journal.specs.Standing.{StandsForJournal}
use Rattle.receipt_journal.specs.declared.received.Received.{Received}
use Rattle.receipt_journal.specs.declared.received.Received.TheVariants as answers
use Rattle.settled_book.specs.SettledBookState.{SettledBookState}
use Rattle.connections.specs.Answering.{IsOpened, LeavesOldThen, WritesGrown, is_from_disk}
use Rattle.connections.specs.Answers.{item_answer, item_reply, received_by_clock, status_of}
use Rattle.connections.specs.Fates.{DiskFailed, OutOfMemory, Answered, Failed, Received as IsReceived, Stamped, is_numbered}
use Rattle.connections.specs.Holding.{Holds, IsOpenOn, working}
use Rattle.connections.specs.Replies.{ReplyParts}
use Rattle.connections.specs.inner.Ends as ends
use Rattle.connections.specs.inner.Taking.{IsReplyTo, Receives, received_reply}
use Rattle.connections.proofs.EndsBy.{LeavesHeld, leaves_grown, not_from_disk}
use Rattle.connections.proofs.GrownWrites.{opened_by, writes_then}
use Rattle.connections.proofs.Grows.{item_grows}
use Rattle.connections.proofs.LeftThen.{then_only}
use Rattle.connections.proofs.ReceivedItems.{no_disk_failed}
use Rattle.connections.proofs.TakenBooks.{failed_is, to_working, works_is}

-- a book that is open on the disk shows what is held
pub holds_open : (settled : SettledBookState) (reads : List ℕ) (images : List ℕ → Type 0) (known : Option (List DayMinute)) (held : Held)
    → images reads → known ≡ Some held.ticks → IsOpenOn settled reads images held.journal → Holds (Some settled) reads images known held
holds_open settled reads images known held image clock on = record {
  file = on.stands reads image;
  clock = clock;
  book = to_working settled (λ s. IsOpenOn s reads images held.journal) on;
}

holds_failed : (settled : SettledBookState) (reads : List ℕ) (images : List ℕ → Type 0) (known : Option (List DayMinute)) (held : Held)
    → settled.book.log.failed ≡ true → known ≡ Some held.ticks → StandsForJournal reads held.journal → Holds (Some settled) reads images known held
holds_failed settled reads images known held failed clock stands = record {
  file = stands;
  clock = clock;
  book = subst (λ (o : Option SettledBookState). IfSome o (λ s. IsOpenOn s reads images held.journal)) (sym (failed_is settled failed)) tt;
}

pub some_works : (settled : SettledBookState) → settled.book.log.failed ≡ false → IsSome (working (Some settled))
some_works settled works = ap is_some (works_is settled works)

-- ---- which answers may have no memory for their receipt

accepted_said : (answer : Received) → is_received answer ≡ true → (status_of answer == 201) ≡ true
accepted_said (answers.Accepted n) accepted = refl
accepted_said (answers.Repeated n) accepted = absurd cc
accepted_said (answers.Differs n) accepted = absurd cc
accepted_said answers.Full accepted = absurd cc
accepted_said answers.Disk accepted = absurd cc
accepted_said answers.MustReopen accepted = absurd cc
accepted_said answers.Memory accepted = absurd cc

module _ {D : Type 0} (reads : D → List ℕ) (images : D → List ℕ → Type 0) (moment : D → ℕ) (since : D → ℕ → List ℕ → Type 0) (old mid new : D) (image : images new (reads new))
    (held : Held) (from : SenderReference) (item : Item) (reply : ReplyParts) (settled : SettledBookState) (known : Option (List DayMinute)) (first : LeavesHeld reads images moment since old mid held.journal)
    (opened : WritesGrown held.journal held.journal (reads old) (reads mid)) where
  abbrev IsEnd : Type 0
  IsEnd = ends.EndsBy reads images moment since old new true held (item_answer held from item) reply (Some settled) known

  abbrev IsTaken : Received → Type 0
  IsTaken answer = Receives reads images moment since mid new held from item answer settled known

  left_by : (answer : Received) → IsTaken answer → LeavesOldThen images moment since old new (GrownFrom held.journal (item_answer held from item).held.journal)
  left_by answer takes = then_only images moment since old mid new (GrownFrom held.journal (item_answer held from item).held.journal)
      (leaves_grown reads images moment since old mid held.journal (item_answer held from item).held.journal (item_grows held from item) first) takes.left

  written_by : (answer : Received) → IsTaken answer → WritesGrown held.journal (item_answer held from item).held.journal (reads old) (reads new)
  written_by answer takes = writes_then held.journal (item_answer held from item).held.journal (reads old) (reads mid) (reads new) opened takes.written takes.same

  -- an answer that is no fault
  answered : (answer : Received) → IsTaken answer → is_fault answer ≡ false → received_reply answer ≡ item_reply answer → settled.book.log.failed ≡ receiving_disk_failed answer → IsReplyTo answer reply → IsEnd
  answered answer takes sound same failed (inl is) = record {
    fate = Answered;
    memory = refl;
    reply_is = is ∙ same ∙ ap item_reply (takes.expected sound);
    holds = holds_open settled (reads new) (images new) known (item_answer held from item).held image takes.clock (takes.answered sound);
    left = left_by answer takes;
    written = written_by answer takes;
    works = λ tells. some_works settled (failed ∙ no_disk_failed answer sound);
  }
  answered answer takes sound same failed (inr (number, is)) = record {
    fate = Failed OutOfMemory IsReceived;
    reply_is = is;
    memory = ap (λ (a : Received). is_numbered (status_of a)) (sym (takes.expected sound)) ∙ number;
    holds = holds_open settled (reads new) (images new) known (item_answer held from item).held image takes.clock (takes.answered sound);
    left = left_by answer takes;
    written = written_by answer takes;
    works = λ tells. some_works settled (failed ∙ no_disk_failed answer sound);
  }

  wants_memory : IsTaken answers.Memory → IsReplyTo answers.Memory reply → IsEnd
  wants_memory takes (inl is) = record {
    fate = Failed OutOfMemory Stamped;
    memory = accepted_said (received_by_clock held from item) (takes.lacked refl);
    reply_is = is;
    holds = holds_open settled (reads new) (images new) known (holding held.journal (item_answer held from item).held.ticks) image takes.clock (takes.unreceived refl);
    left = left_by answers.Memory takes;
    written = subst (IsOpened (reads old)) (sym (takes.unwritten refl)) (opened_by held.journal (reads old) (reads mid) opened);
    works = λ tells. not_from_disk reply _ (ap is_from_disk is) tells;
  }
  wants_memory takes (inr (number, is)) = let never : false ≡ true = number in absurd cc

  disk_failed_by : IsTaken answers.Disk → settled.book.log.failed ≡ true → reply ≡ received_reply answers.Disk
      → StandsForJournal (reads new) held.journal ⊎ StandsForJournal (reads new) (item_answer held from item).held.journal → IsEnd
  disk_failed_by takes failed is (inl without) = record {
    fate = Failed DiskFailed Stamped;
    memory = refl;
    reply_is = is;
    holds = holds_failed settled (reads new) (images new) known (holding held.journal (item_answer held from item).held.ticks) failed takes.clock without;
    left = left_by answers.Disk takes;
    written = written_by answers.Disk takes;
    works = λ tells. not_from_disk reply _ (ap is_from_disk is) tells;
  }
  disk_failed_by takes failed is (inr with_it) = record {
    fate = Failed DiskFailed IsReceived;
    memory = refl;
    reply_is = is;
    holds = holds_failed settled (reads new) (images new) known (item_answer held from item).held failed takes.clock with_it;
    left = left_by answers.Disk takes;
    written = written_by answers.Disk takes;
    works = λ tells. not_from_disk reply _ (ap is_from_disk is) tells;
  }

  fails : IsTaken answers.Disk → settled.book.log.failed ≡ true → IsReplyTo answers.Disk reply → IsEnd
  fails takes failed (inl is) = disk_failed_by takes failed is takes.file
  fails takes failed (inr (number, is)) = let never : false ≡ true = number in absurd cc

  pub item_ends : (answer : Received) → IsTaken answer → (answer ≡ answers.MustReopen → ⊥) → settled.book.log.failed ≡ receiving_disk_failed answer → IsReplyTo answer reply → IsEnd
  item_ends (answers.Accepted n) takes opened failed is = answered (answers.Accepted n) takes refl refl failed is
  item_ends (answers.Repeated n) takes opened failed is = answered (answers.Repeated n) takes refl refl failed is
  item_ends (answers.Differs n) takes opened failed is = answered (answers.Differs n) takes refl refl failed is
  item_ends answers.Full takes opened failed is = answered answers.Full takes refl refl failed is
  item_ends answers.Disk takes opened failed is = fails takes failed is
  item_ends answers.MustReopen takes opened failed is = absurd (opened refl)
  item_ends answers.Memory takes opened failed is = wants_memory takes is
