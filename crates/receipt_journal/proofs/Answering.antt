-- What a book answers to an item, and what the file stands for then.
use Rattle.std.proofs.Common.{◌≡◌, ◌⊎◌, inl, inr, ℕ, ◌+◌, ◌≤◌, Bool, true, false, ltb, List, [], ◌∷◌, ◌++◌, length, length-append, Result, Ok, Err, OnOk, is_err, refl, sym, ◌∙◌, ap, subst, arith}
use Rattle.std.proofs.lemmas.Bool.{cond-true, cond-false, le-ltb}
use Rattle.std.proofs.lemmas.List.{map-append}
use Rattle.std.proofs.lemmas.List.Elements.{All-push}
use Rattle.std.proofs.lemmas.List.Sums.{sum_by_push}
use Rattle.gb_base.specs.DayMinute.{DayMinute}
use Rattle.act_model.specs.declared.receipts.Receipt.{Receipt}
use Rattle.act_model.specs.declared.items.Item.{Item}
use Rattle.act_model.specs.declared.added.Added.{Added}
use Rattle.act_model.specs.declared.added.Added.TheVariants as added
use Rattle.act_model.specs.Receiving.{number_of, answer_to, journal_with}
use Rattle.act_model.specs.Receiving as journals
use Rattle.act_model.proofs.JournalLemmas.{IsJournal-push, stamp_after-last}
use Rattle.act_codec.specs.Spelling.{longest_spelling, spelling}
use Rattle.act_codec.specs.Values.{IsReceipt}
use Rattle.act_codec.proofs.Lengths.{spelling_len, spelling_some}
use Rattle.journal_disk.specs.Layout.{the_heading, file_limit, IsBody, StandsFor, measured, appended}
use Rattle.journal_disk.specs.Layout.{frames as frames_of}
use Rattle.journal_disk.proofs.FrameBytes.{frames-append, length-measured, length-frames-push}
use Rattle.journal_disk.specs.Appending as frames
use Rattle.receipt_journal.specs.Standing.{records, gate_after, IsKeepable}
use Rattle.receipt_journal.specs.Receiving.{file_size, next_receipt, in_journal, on_disk, is_received, answer_on, Answers, JournalWithOrWithout}
use Rattle.receipt_journal.specs.declared.received.Received.TheVariants as received
use Rattle.receipt_journal.proofs.Sizes.{has_room_next, records_size}
use Rattle.receipt_journal.proofs.Standings.{stands_by_frames}
use Rattle.receipt_journal.proofs.Taking.{accepted_new}

pub spelling_body : (r : Receipt) → IsReceipt r → IsBody (spelling r)
spelling_body r is = record { not_empty = spelling_some r; not_long = omega (arith, spelling_len r is) }

-- frames can keep the journal with an accepted item's receipt at its end
pub keepable_next : (journal : List Receipt) (stamp : DayMinute) (sender reference : ℕ) (item : Item) → IsKeepable journal → IsReceipt (next_receipt journal stamp sender reference item)
    → journals.is_accepted (answer_to journal sender reference item) ≡ true → IsKeepable (journal ++ next_receipt journal stamp sender reference item ∷ [])
keepable_next journal stamp sender reference item is is_next accepts =
    let is_new = accepted_new journal item (number_of sender reference journal) accepts in
    let next = next_receipt journal stamp sender reference item in
    record {
      journal = IsJournal-push journal next is.journal is_new.1 is_next.1 is_new.0 (stamp_after-last journal stamp is.journal.stamps);
      spelled = All-push IsReceipt journal next is.spelled is_next;
    }

pub accepted_added : (old new : List Receipt) (stamp : DayMinute) (sender reference : ℕ) (item : Item) (answer : Added) → journals.is_accepted answer ≡ true → new ≡ journal_with old stamp sender reference item answer
    → new ≡ old ++ next_receipt old stamp sender reference item ∷ []
accepted_added old new stamp sender reference item answer accepts added =
    added ∙ cond-true (journals.is_accepted answer) (old ++ next_receipt old stamp sender reference item ∷ []) old accepts

-- the frames of a journal with one receipt more
pub records_push : (journal : List Receipt) (r : Receipt) → records (journal ++ r ∷ []) ≡ records journal ++ spelling r ∷ []
records_push journal r = map-append spelling journal (r ∷ [])

pub with_or_without : (journal : List Receipt) (r : Receipt) (body c : List ℕ) → IsKeepable journal → IsKeepable (journal ++ r ∷ []) → body ≡ spelling r → frames.FramesWithOrWithout the_heading (records journal) body c → JournalWithOrWithout journal r c
with_or_without journal r body c is is_next spelled (inl without) = inl (stands_by_frames c journal is without)
with_or_without journal r body c is is_next spelled (inr with_it) =
    inr (stands_by_frames c (journal ++ r ∷ []) is_next (subst (StandsFor the_heading c) (ap (λ (b : List ℕ). records journal ++ b ∷ []) spelled ∙ sym (records_push journal r)) with_it))

-- the gate after the frames of a journal with one receipt more
pub gate_next : (journal : List Receipt) (r : Receipt) (gate : ℕ) (body : List ℕ) → gate ≡ gate_after journal → body ≡ spelling r → gate + 5 + length body ≡ gate_after (journal ++ r ∷ [])
gate_next journal r gate body ends spelled =
    omega (arith, ends, ap length spelled, ap (λ (l : List (List ℕ)). length (frames_of l)) (records_push journal r), length-frames-push (records journal) (spelling r))

-- the file ends after the last gate of the frame that is appended
pub appended_to : (journal : List Receipt) (r : Receipt) → gate_after journal + length (appended (spelling r)) ≡ gate_after (journal ++ r ∷ []) + 1
appended_to journal r =
    omega (arith, length-append (measured (spelling r)) (0 ∷ []), length-measured (spelling r), gate_next journal r (gate_after journal) (spelling r) refl refl)

-- the gate of a journal with more receipts stands no earlier in the file
pub gate_further : (journal more : List Receipt) → gate_after journal ≤ gate_after (journal ++ more)
gate_further journal more =
    omega (
      arith,
      ap (λ (l : List (List ℕ)). length (frames_of l)) (map-append spelling journal more),
      ap length (frames-append (records journal) (records more)),
      length-append (frames_of (records journal)) (frames_of (records more)),
    )

-- the disk has room for what the journal accepts
accepted_on_disk : (size : ℕ) (expected : Added) → size ≤ file_limit → on_disk size expected ≡ in_journal expected
accepted_on_disk size (added.Accepted n) fits = cond-false (ltb file_limit size) received.Full (received.Accepted n) (le-ltb file_limit size fits)
accepted_on_disk size (added.Repeated n) fits = refl
accepted_on_disk size (added.Differs n) fits = refl
accepted_on_disk size added.Full fits = refl
accepted_on_disk size added.Memory fits = refl

as_accepted : (answer : Added) → is_received (in_journal answer) ≡ journals.is_accepted answer
as_accepted (added.Accepted n) = refl
as_accepted (added.Repeated n) = refl
as_accepted (added.Differs n) = refl
as_accepted added.Full = refl
as_accepted added.Memory = refl

-- what a book accepts fits into the file, since its spelling is short
pub next_fits : (journal : List Receipt) (stamp : DayMinute) (sender reference : ℕ) (item : Item) → IsKeepable journal → journals.is_accepted (answer_to journal sender reference item) ≡ true
    → length (spelling (next_receipt journal stamp sender reference item)) ≤ longest_spelling → file_size the_heading (journal ++ next_receipt journal stamp sender reference item ∷ []) ≤ file_limit
next_fits journal stamp sender reference item is accepts short =
    has_room_next journal (next_receipt journal stamp sender reference item) is (accepted_new journal item (number_of sender reference journal) accepts).1 short

module _ (journal : List Receipt) (stamp : DayMinute) (sender reference : ℕ) (item : Item) (fits : file_size the_heading (journal ++ next_receipt journal stamp sender reference item ∷ []) ≤ file_limit) where
  as_in_journal : answer_on journal stamp sender reference item ≡ in_journal (answer_to journal sender reference item)
  unfolding answer_on
  as_in_journal = accepted_on_disk (file_size the_heading (journal ++ next_receipt journal stamp sender reference item ∷ [])) (answer_to journal sender reference item) fits

  pub answers_kept : (answer : Added) → answer ≡ answer_to journal sender reference item → Answers (answer_on journal stamp sender reference item) (in_journal answer)
  answers_kept answer same = inl (ap in_journal same ∙ sym as_in_journal)

  accepted_on : journals.is_accepted (answer_to journal sender reference item) ≡ true → is_received (answer_on journal stamp sender reference item) ≡ true
  accepted_on accepts = ap is_received as_in_journal ∙ as_accepted (answer_to journal sender reference item) ∙ accepts

  pub answers_memory : journals.is_accepted (answer_to journal sender reference item) ≡ true → Answers (answer_on journal stamp sender reference item) received.Memory
  answers_memory accepts = inr (accepted_on accepts, inl refl)

  pub answers_disk : journals.is_accepted (answer_to journal sender reference item) ≡ true → Answers (answer_on journal stamp sender reference item) received.Disk
  answers_disk accepts = inr (accepted_on accepts, inr refl)

  -- so no append is refused because the file is full
  pub never_full : (gate : ℕ) (body : List ℕ) → gate ≡ gate_after journal → body ≡ spelling (next_receipt journal stamp sender reference item) → 134217728 ≤ gate + 5 + length body → ⊥
  never_full gate body ends spelled full =
      let next = next_receipt journal stamp sender reference item in
      omega (arith, fits, sum_by_push (λ r. 5 + length (spelling r)) journal next, records_size journal, ap length spelled)

not_on_disk : (size : ℕ) (expected : Added) → journals.is_accepted expected ≡ false → on_disk size expected ≡ in_journal expected
not_on_disk size (added.Accepted n) refuses = absurd cc
not_on_disk size (added.Repeated n) refuses = refl
not_on_disk size (added.Differs n) refuses = refl
not_on_disk size added.Full refuses = refl
not_on_disk size added.Memory refuses = refl

-- what the journal does not accept the book answers as the journal does
pub answers_refused : (journal : List Receipt) (stamp : DayMinute) (sender reference : ℕ) (item : Item) (answer : Added) → journals.is_accepted (answer_to journal sender reference item) ≡ false
    → (answer ≡ answer_to journal sender reference item) ⊎ ((answer ≡ added.Memory) × (journals.is_accepted (answer_to journal sender reference item) ≡ true))
    → Answers (answer_on journal stamp sender reference item) (in_journal answer)
unfolding answer_on
answers_refused journal stamp sender reference item answer refuses (inl same) =
    inl (ap in_journal same ∙ sym (not_on_disk (file_size the_heading (journal ++ next_receipt journal stamp sender reference item ∷ [])) (answer_to journal sender reference item) refuses))
answers_refused journal stamp sender reference item answer refuses (inr memory) = let no = memory.1 in absurd cc

-- what holds on Ok holds where the test for an error fails
pub no_error : {T E : Type 0} (r : Result T E) (P : Type 0) (failed : Bool) → failed ≡ is_err r → failed ≡ false → OnOk r P → P
no_error (Ok x) P failed test no_failure holds = holds
no_error (Err e) P failed test no_failure holds = let error : true ≡ false = sym test ∙ no_failure in absurd cc
