-- What receiving an item does to what is held.
use Rattle.std.proofs.Common.{◌≡◌, ◌+◌, ◌⊎◌, ◌≤◌, length, inl, inr, ℕ, Bool, true, false, cond, List, [], ◌∷◌, ◌++◌, Option, Some, refl, sym, ◌∙◌, ap, subst}
use Rattle.gb_base.specs.DayMinute.{DayMinute}
use Rattle.gb_outside.specs.Images.{LeavesOnly, Torn}
use Rattle.act_codec.specs.Spelling.{spelling}
use Rattle.gb_outside.specs.Ticks.{Ticks}
use Rattle.gb_outside.proofs.Moments.{started}
use Rattle.act_model.specs.Receiving.{next_receipt}
use Rattle.act_model.specs.declared.items.Item.{Item}
use Rattle.act_model.specs.declared.receipts.Receipt.{Receipt}
use Rattle.journal_disk.specs.Layout.{the_heading, StandsFor, appended}
use Rattle.intake.specs.Grown.{GrownFrom, IsDurable, WritesFrames}
use Rattle.intake.specs.Requests.{Held, holding, is_fault, reply_of}
use Rattle.intake.proofs.Durable.{durable_stands, grown_by, keepable_after, refused_on_disk}
use Rattle.intake.proofs.WrittenFrames.{frame_of_receipt}
use Rattle.intake_requests.specs.declared.requests.SenderReference.{SenderReference}
use Rattle.receipt_journal.specs.Receiving.{Answers, JournalWithOrWithout, answer_on, is_received, journal_after, receiving_disk_failed}
use Rattle.receipt_journal.specs.Standing.{IsKeepable, Stands, StandsForJournal, gate_after, records}
use Rattle.receipt_journal.proofs.Answering.{appended_to}
use Rattle.receipt_journal.specs.declared.received.Received.{Received}
use Rattle.receipt_journal.specs.declared.received.Received.TheVariants as answers
use Rattle.settled_book.specs.SettledBookState.{SettledBookState}
use Rattle.connections.specs.Answers.{item_answer, received_by_clock}
use Rattle.connections.specs.Holding.{IsOpenOn}
use Rattle.connections.specs.inner.Taking.{Receives}
use Rattle.connections.proofs.GrownWrites.{no_receipt_more}
use Rattle.connections.proofs.ServedReplies.{memory_not_expected}

-- ---- by the stamp that the clock gave

-- the answer to an item is that at this stamp, and what is held after it goes by that
record IsAnsweredAt (held : Held) (stamp : DayMinute) (from : SenderReference) (item : Item) (known : Option (List DayMinute)) : Type 0 where
  pub answer : received_by_clock held from item ≡ answer_on held.journal stamp from.sender from.reference item
  pub journal : (item_answer held from item).held.journal ≡ journal_after held.journal stamp from.sender from.reference item (answer_on held.journal stamp from.sender from.reference item)
  pub clock : known ≡ Some (item_answer held from item).held.ticks

answered_at : (journal : List Receipt) (ticks : List DayMinute) (stamp : DayMinute) (from : SenderReference) (item : Item) (known0 known1 : Option (List DayMinute))
    → known0 ≡ Some ticks → Ticks known0 known1 stamp → IsAnsweredAt (holding journal ticks) stamp from item known1
unfolding reply_of
answered_at journal [] stamp from item known0 known1 is tick = absurd (subst (λ known. Ticks known known1 stamp) is tick)
answered_at journal (t ∷ []) stamp from item known0 known1 is tick =
    let at : Ticks (Some (t ∷ [])) known1 stamp = subst (λ known. Ticks known known1 stamp) is tick in record {
      answer = ap (λ s. answer_on journal s from.sender from.reference item) (sym at.0);
      journal = ap (λ s. journal_after journal s from.sender from.reference item (answer_on journal s from.sender from.reference item)) (sym at.0);
      clock = at.1;
    }
answered_at journal (t ∷ u ∷ ticks) stamp from item known0 known1 is tick =
    let at : Ticks (Some (t ∷ u ∷ ticks)) known1 stamp = subst (λ known. Ticks known known1 stamp) is tick in record {
      answer = ap (λ s. answer_on journal s from.sender from.reference item) (sym at.0);
      journal = ap (λ s. journal_after journal s from.sender from.reference item (answer_on journal s from.sender from.reference item)) (sym at.0);
      clock = at.1;
    }

-- ---- by the answer

answer_expected : (expected answer : Received) → Answers expected answer → is_fault answer ≡ false → answer ≡ expected
answer_expected expected answer (inl same) sound = same
answer_expected expected answer (inr (accepts, inl memory)) sound = let never : true ≡ false = sym (ap is_fault memory) ∙ sound in absurd cc
answer_expected expected answer (inr (accepts, inr disk)) sound = let never : true ≡ false = sym (ap is_fault disk) ∙ sound in absurd cc

-- memory runs out for a receipt alone
lacked_by : (expected answer : Received) → Answers expected answer → answer ≡ answers.Memory → (expected ≡ answers.Memory → ⊥) → is_received expected ≡ true
lacked_by expected answer (inl same) memory never = absurd (never (sym same ∙ memory))
lacked_by expected answer (inr (accepts, why)) memory never = accepts

pub no_disk_failed : (answer : Received) → is_fault answer ≡ false → receiving_disk_failed answer ≡ false
no_disk_failed (answers.Accepted n) sound = refl
no_disk_failed (answers.Repeated n) sound = refl
no_disk_failed (answers.Differs n) sound = refl
no_disk_failed answers.Full sound = refl
no_disk_failed answers.Disk sound = absurd cc
no_disk_failed answers.MustReopen sound = absurd cc
no_disk_failed answers.Memory sound = refl

-- the file stands for the journal before, or for the one that the item is answered with
file_by : (journal : List Receipt) (next : Receipt) (file : List ℕ) (accepted : Bool) → (accepted ≡ false → StandsForJournal file journal) → JournalWithOrWithout journal next file
    → StandsForJournal file journal ⊎ StandsForJournal file (cond accepted (journal ++ next ∷ []) journal)
file_by journal next file true refused here = here
file_by journal next file false refused here = inl (refused refl)

-- ---- a call on a disk

module _ {D : Type 0} (reads : D → List ℕ) (images : D → List ℕ → Type 0) (moment : D → ℕ) (since : D → ℕ → List ℕ → Type 0) (old new : D)
    (stamp : DayMinute) (from : SenderReference) (item : Item) (answer : Received) (settled : SettledBookState)
    (image : images new (reads new)) (counts : (t : ℕ) (c : List ℕ) → t ≤ moment new → images new c → since new t c) (only_now : (c : List ℕ) → since old (moment old) c → images old c)
    (untouched : is_received answer ≡ false → receiving_disk_failed answer ≡ false → new ≡ old) (gate size : ℕ) (torn : Torn gate size (reads old) (reads new)) (stands : receiving_disk_failed answer ≡ false → Stands settled.book (reads new) (images new)) where
  abbrev next : List Receipt → Receipt
  next journal = next_receipt journal stamp from.sender from.reference item

  abbrev expected : List Receipt → Received
  expected journal = answer_on journal stamp from.sender from.reference item

  open_on : (journal journal1 : List Receipt) → IsKeepable journal → JournalWithOrWithout journal (next journal) (reads new)
      → settled.book.journal ≡ journal_after journal stamp from.sender from.reference item answer → settled.book.journal ≡ journal1 → receiving_disk_failed answer ≡ false
      → IsOpenOn settled (reads new) (images new) journal1
  open_on journal journal1 keepable here receipts same sound =
      let on = stands sound in
      let durable : IsDurable settled.book (reads new) (images new) = record {
        keepable = subst IsKeepable (sym receipts) (keepable_after journal stamp from.sender from.reference item answer (reads new) keepable here
            (subst (λ (j : List Receipt). StandsFor the_heading (reads new) (records j)) receipts (inr on.journal)));
        stands = on;
      } in record {
        journal_is = same;
        durable = durable;
        stands = λ c is. subst (StandsForJournal c) same (durable_stands settled.book (reads new) (images new) c durable is);
      }

  refused_same : (journal : List Receipt) → Answers (expected journal) answer → is_received (expected journal) ≡ false → new ≡ old
  refused_same journal answers_it refused = let none = refused_on_disk journal stamp from.sender from.reference item answer answers_it refused in untouched none.0 none.1

  receives_at : (journal : List Receipt) (ticks : List DayMinute) (known0 known1 : Option (List DayMinute)) → known0 ≡ Some ticks → Ticks known0 known1 stamp
      → IsKeepable journal → gate ≡ gate_after journal → gate_after journal + size ≡ gate_after (journal ++ next journal ∷ []) + 1 → ((file : List ℕ) → images old file → StandsForJournal file journal) → Answers (expected journal) answer
      → settled.book.journal ≡ journal_after journal stamp from.sender from.reference item answer
      → LeavesOnly moment since old new (JournalWithOrWithout journal (next journal))
      → Receives reads images moment since old new (holding journal ticks) from item answer settled known1
  receives_at journal ticks known0 known1 is tick keepable ends long were answers_it receipts run =
      let at = answered_at journal ticks stamp from item known0 known1 is tick in
      let here = run.each (reads new) (counts (moment old) (reads new) run.later image) in record {
        expected = λ sound. answer_expected (expected journal) answer answers_it sound ∙ sym at.answer;
        lacked = λ memory. ap is_received at.answer ∙ lacked_by (expected journal) answer answers_it memory (memory_not_expected journal stamp from.sender from.reference item);
        clock = at.clock;
        file = subst (λ (j : List Receipt). StandsForJournal (reads new) journal ⊎ StandsForJournal (reads new) j) (sym at.journal)
            (file_by journal (next journal) (reads new) (is_received (expected journal)) (λ refused. were (reads new) (subst (λ d. images d (reads new)) (refused_same journal answers_it refused) image)) here);
        left = subst (λ (j : List Receipt). LeavesOnly moment since old new (GrownFrom journal j)) (sym at.journal)
            (grown_by moment since old new (images old) journal (next journal) (is_received (expected journal)) run
            (λ refused. subst (λ d. LeavesOnly moment since old d (λ file. StandsForJournal file journal)) (sym (refused_same journal answers_it refused))
            (started moment since old (λ file. StandsForJournal file journal) (λ file left. were file (only_now file left)))));
        written = subst (λ (j : List Receipt). WritesFrames journal j (reads old) (reads new)) (sym at.journal)
            (frame_of_receipt journal (next journal) (is_received (expected journal)) gate size (reads old) (reads new) ends long torn (λ refused. ap reads (refused_same journal answers_it refused)));
        same = λ none. ap reads (refused_same journal answers_it (no_receipt_more journal (next journal) (is_received (expected journal)) (sym at.journal ∙ none)));
        answered = λ sound. open_on journal _ keepable here receipts
            (receipts ∙ ap (journal_after journal stamp from.sender from.reference item) (answer_expected (expected journal) answer answers_it sound) ∙ sym at.journal) (no_disk_failed answer sound);
        unreceived = λ memory. open_on journal journal keepable here receipts (receipts ∙ ap (journal_after journal stamp from.sender from.reference item) memory) (ap receiving_disk_failed memory);
        unwritten = λ memory. ap reads (untouched (ap is_received memory) (ap receiving_disk_failed memory));
      }

  pub receives : (before : SettledBookState) (held : Held) (known0 known1 : Option (List DayMinute)) → known0 ≡ Some held.ticks → Ticks known0 known1 stamp
      → IsOpenOn before (reads old) (images old) held.journal → gate ≡ before.book.log.gate → size ≡ length (appended (spelling (next before.book.journal))) → Answers (expected before.book.journal) answer
      → settled.book.journal ≡ journal_after before.book.journal stamp from.sender from.reference item answer
      → LeavesOnly moment since old new (JournalWithOrWithout before.book.journal (next before.book.journal))
      → Receives reads images moment since old new held from item answer settled known1
  receives before held known0 known1 is tick on at_gate whole answers_it receipts run =
      subst (λ (j : List Receipt). Receives reads images moment since old new (holding j held.ticks) from item answer settled known1) on.journal_is
      (receives_at before.book.journal held.ticks known0 known1 is tick on.durable.keepable
      (at_gate ∙ on.durable.stands.ends) (ap (λ (n : ℕ). gate_after before.book.journal + n) whole ∙ appended_to before.book.journal (next before.book.journal)) (λ file image. subst (StandsForJournal file) (sym on.journal_is) (on.stands file image)) answers_it receipts run)
