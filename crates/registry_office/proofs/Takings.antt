-- What a session over a disk did with a whole input, however it ended.
use Rattle.std.proofs.Common.{◌≡◌, ◌⊎◌, inl, inr, ⊎_elim, ℕ, ◌≤◌, Bool, true, false, List, ◌++◌, length, take, refl, sym, ap, ◌∙◌, subst, append_assoc, Option, Some, None, Result, Ok, Err, OnOk, OnErr, IsTrue}
use Rattle.std.specs.Io.KnownBytes.{IsAtEnd}
use Rattle.std.proofs.lemmas.List.{append_cancel_left}
use Rattle.gb_base.specs.DayMinute.{DayMinute}
use Rattle.gb_outside.specs.Bytes.{AppendsFront}
use Rattle.act_model.specs.declared.receipts.Receipt.{Receipt}
use Rattle.receipt_journal.specs.BookState.{BookState}
use Rattle.intake_requests.specs.declared.requests.Request.{Request}
use Rattle.opening_lists.specs.OpeningLists.{row_requests}
use Rattle.intake.specs.Answered.{Answered}
use Rattle.intake.specs.EarlyEnds.{AreOf, EndsEarly}
use Rattle.intake.specs.Faults.{session_input_failed, session_output_failed, session_disk_failed}
use Rattle.intake.specs.Grown.{IsFront, GrownFrom, DiskGrows}
use Rattle.intake.specs.Intakes.{whole_of, cut_of}
use Rattle.intake.specs.Receivers.{held_by, IsReady}
use Rattle.intake.specs.Requests.{Medium, OnDisk, Held, replies, held_after}
use Rattle.intake.specs.Sessions.{Took}
use Rattle.intake.specs.inner.Shown.{book_shows}
use Rattle.intake.specs.declared.faults.SessionFault.{SessionFault}
use Rattle.intake.specs.declared.faults.SessionFault.TheVariants as session
use Rattle.intake.specs.declared.intakes.Intake.{Intake}
use Rattle.intake.specs.declared.intakes.Intake.TheVariants.{Lines, OpeningList}
use Rattle.intake.specs.declared.lines.LineKind.TheVariants.{Unstamped}
use Rattle.intake.proofs.Acknowledged.{front_by_replies}
use Rattle.intake.proofs.EarlyEnds.{front_of_early, part_of_early, early_longer, early_all}
use Rattle.intake.proofs.Replies.{replies-append, grown_wider, grows_longer, disk_by_first, front_of_longer}
use Rattle.intake.proofs.SessionInputs.{BeginsWith, lines_begin, of_whole, of_part, FirstOf, if_some_at}
use Rattle.intake.proofs.TakenItems.{told_by}
use Rattle.registry_office.specs.Receivings.{SessionReceives, HasWritten}
use Rattle.registry_office.specs.Statuses.{read_fault, write_fault, disk_fault, is_of_session}
use Rattle.registry_office.specs.inner.Ends.{status_of}
use Rattle.registry_office.specs.declared.statuses.Status.{Status}
use Rattle.registry_office.specs.declared.statuses.Status.TheVariants as status

-- what was begun, and what was received beyond it, are the first of all
received_first : (medium : Medium) (held : Held) (replied last next rest requests : List Request) → requests ≡ replied ++ (last ++ (next ++ rest))
    → IsFront (held_after medium held (replied ++ (last ++ next))).journal (held_after medium held requests).journal
received_first medium held replied last next rest requests whole =
    subst (λ rs. IsFront (held_after medium held (replied ++ (last ++ next))).journal (held_after medium held rs).journal)
    (append_assoc replied (last ++ next) rest ∙ ap (λ l. replied ++ l) (append_assoc last next rest) ∙ sym whole)
    (grows_longer medium held (replied ++ (last ++ next)) rest)

-- what was replied to whole stands in every image
pub acknowledged : (held : Held) (known : Option (List DayMinute)) (w0 w1 : Option (List ℕ)) (images : List ℕ → Type 0) (requests front back : List Request) (file : List ℕ)
    → EndsEarly OnDisk held known w0 w1 images requests → requests ≡ front ++ back → HasWritten w0 w1 (replies OnDisk held front) → images file
    → GrownFrom (held_after OnDisk held front).journal (held_after OnDisk held requests).journal file
acknowledged held known None w1 images requests front back file early split wrote image = absurd wrote
acknowledged held known (Some a) None images requests front back file early split wrote image = absurd wrote
acknowledged held known (Some a) (Some b) images requests front back file early split wrote image =
    let text = replies OnDisk held front in
    let begun = early.replied ++ early.last in
    let part = front_of_early OnDisk held known (Some a) (Some b) images requests early in
    let same : part.front ≡ text ++ wrote.0 = append_cancel_left a part.front (text ++ wrote.0) (sym part.added ∙ wrote.1) in
    let longer : replies OnDisk held begun ≡ text ++ (wrote.0 ++ part.rest) =
    part.whole ∙ ap (λ (t : List ℕ). t ++ part.rest) same ∙ append_assoc text wrote.0 part.rest in
    let all : requests ≡ begun ++ (early.next ++ early.rest) = early.whole ∙ sym (append_assoc early.replied early.last (early.next ++ early.rest)) in
    grown_wider (held_after OnDisk held front).journal (held_after OnDisk held requests).journal (held_after OnDisk held begun).journal (held_after OnDisk held (early.replied ++ (early.last ++ early.next))).journal file
    (front_by_replies OnDisk held front back begun (early.next ++ early.rest) (wrote.0 ++ part.rest) (sym split ∙ all) longer)
    (received_first OnDisk held early.replied early.last early.next early.rest requests early.whole) (early.received file image)

-- ---- a session's end by its status

pub err_by_status : (r : Result (Unit {0}) SessionFault) (s : Status) (P : Type 0) → s ≡ status_of r → (s ≡ status.Ok → ⊥) → OnErr r P → P
err_by_status (Ok done) s P is other holds = absurd (other is)
err_by_status (Err fault) s P is other holds = holds

pub ok_by_status : (r : Result (Unit {0}) SessionFault) (s : Status) (P : Type 0) → s ≡ status_of r → s ≡ status.Ok → OnOk r P → P
ok_by_status (Ok done) s P is ok holds = holds
ok_by_status (Err session.Read) s P is ok holds = let never : status.Ok ≡ status.ReadFault = sym ok ∙ is in absurd cc
ok_by_status (Err session.Write) s P is ok holds = let never : status.Ok ≡ status.WriteFault = sym ok ∙ is in absurd cc
ok_by_status (Err session.Disk) s P is ok holds = let never : status.Ok ≡ status.DiskFault = sym ok ∙ is in absurd cc
ok_by_status (Err session.Memory) s P is ok holds = let never : status.Ok ≡ status.Memory = sym ok ∙ is in absurd cc
ok_by_status (Err session.TooLong) s P is ok holds = let never : status.Ok ≡ status.InputTooLong = sym ok ∙ is in absurd cc

read_by_status : (r : Result (Unit {0}) SessionFault) → status_of r ≡ status.ReadFault → r ≡ Err session.Read
read_by_status (Ok done) is = absurd cc
read_by_status (Err session.Read) is = refl
read_by_status (Err session.Write) is = absurd cc
read_by_status (Err session.Disk) is = absurd cc
read_by_status (Err session.Memory) is = absurd cc
read_by_status (Err session.TooLong) is = absurd cc

pub long_by_status : (r : Result (Unit {0}) SessionFault) → status_of r ≡ status.InputTooLong → r ≡ Err session.TooLong
long_by_status (Ok done) is = absurd cc
long_by_status (Err session.Read) is = absurd cc
long_by_status (Err session.Write) is = absurd cc
long_by_status (Err session.Disk) is = absurd cc
long_by_status (Err session.Memory) is = absurd cc
long_by_status (Err session.TooLong) is = refl

pub cut_by_status : (r : Result (Unit {0}) SessionFault) (s : Status) → s ≡ status_of r → (s ≡ status.ReadFault) ⊎ (s ≡ status.InputTooLong)
    → (r ≡ Err session.Read) ⊎ (r ≡ Err session.TooLong)
cut_by_status r s is (inl read) = inl (read_by_status r (sym is ∙ read))
cut_by_status r s is (inr long) = inr (long_by_status r (sym is ∙ long))

pub short_by_status : (r : Result (Unit {0}) SessionFault) (s : Status) → s ≡ status_of r → (s ≡ status.InputTooLong → ⊥) → r ≡ Err session.TooLong → ⊥
short_by_status r s is other long = other (is ∙ ap status_of long)

pub of_session : (r : Result (Unit {0}) SessionFault) (s : Status) → s ≡ status_of r
    → (is_of_session s ≡ true) × (read_fault s ≡ session_input_failed r) × (write_fault s ≡ session_output_failed r) × (disk_fault s ≡ session_disk_failed r)
of_session (Ok done) s is = rw is (refl, refl, refl, refl)
of_session (Err session.Read) s is = rw is (refl, refl, refl, refl)
of_session (Err session.Write) s is = rw is (refl, refl, refl, refl)
of_session (Err session.Disk) s is = rw is (refl, refl, refl, refl)
of_session (Err session.Memory) s is = rw is (refl, refl, refl, refl)
of_session (Err session.TooLong) s is = rw is (refl, refl, refl, refl)

-- ---- a session over a disk, however it ended

module _ (whole cut : List ℕ → List Request) (begins : BeginsWith whole cut)
    (tells : Bool) (known1 : Option (List DayMinute)) (book1 : BookState) (left0 left1 w0 w1 : Option (List ℕ))
    {D R : Type 0} (reads : D → List ℕ) (images : D → List ℕ → Type 0) (moment : D → ℕ) (since : D → ℕ → List ℕ → Type 0) (disk : R → D) (old new : R)
    (held : Held) (input : List ℕ) (known_input : left0 ≡ Some input)
    (only_now : (file : List ℕ) → IsTrue tells → since (disk new) (moment (disk new)) file → images (disk new) file) where
  abbrev Did : List Request → Type 0
  Did requests = Answered OnDisk held (held_by tells known1 book1.journal) w0 w1 requests

  abbrev Early : List Request → Type 0
  Early requests = EndsEarly OnDisk held known1 w0 w1 (images (disk new)) requests

  -- as the receiver tells it, and as the disk does
  abbrev Grew : List Request → Type 0
  Grew requests = DiskGrows (λ r. reads (disk r)) (λ r. moment (disk r)) (λ r. since (disk r)) old new held.journal (held_after OnDisk held requests).journal

  abbrev DiskGrew : List Request → Type 0
  DiskGrew requests = DiskGrows reads moment since (disk old) (disk new) held.journal (held_after OnDisk held requests).journal

  abbrev AllTaken : Type 0
  AllTaken = Took left0 left1 (λ read. IsAtEnd left1 × (length read ≤ 67108864) × Did (whole read) × Grew (whole read))

  abbrev CutTaken : Type 0
  CutTaken = Took left0 left1 (λ read. Did (cut (take 67108864 read)))

  abbrev PartTaken : Type 0
  PartTaken = Took left0 left1 (λ read. (requests : List Request) × AreOf whole cut left1 read requests × Early requests × Grew requests)

  on_disk : (requests : List Request) → Grew requests → DiskGrew requests
  on_disk requests grew = record { left = record { later = grew.left.later; each = grew.left.each; before = grew.left.before }; written = grew.written }

  journal_of : (requests : List Request) → Did requests → book1.journal ≡ (held_after OnDisk held requests).journal
  journal_of requests did = ap (λ (h : Held). h.journal) (told_by tells known1 book1.journal (held_after OnDisk held requests) did.holds).same

  ticks_of : (requests : List Request) → Did requests → known1 ≡ Some (held_after OnDisk held requests).ticks
  ticks_of requests did = (told_by tells known1 book1.journal (held_after OnDisk held requests) did.holds).clock

  all_input : AllTaken → Did (whole input) × Grew (whole input)
  all_input took = if_some_at left0 input (λ i. Did (whole i) × Grew (whole i)) known_input
      (of_whole whole left0 left1 (λ requests. Did requests × Grew requests) (record { read = took.read; consumed = took.consumed; did = (took.did.0, took.did.1, (took.did.2, took.did.3)) }))

  first_input : PartTaken → FirstOf whole input (λ requests. Early requests × Grew requests)
  first_input took = if_some_at left0 input (λ i. FirstOf whole i (λ requests. Early requests × Grew requests)) known_input
      (of_part whole cut left0 left1 (λ requests. Early requests × Grew requests) begins (record { read = took.read; consumed = took.consumed; did = (took.did.0, took.did.1, (took.did.2, took.did.3)) }))

  early_input : (r : Result (Unit {0}) SessionFault) → OnOk r AllTaken → (session_disk_failed r ≡ false → IsReady tells book1 (reads (disk new)) (images (disk new))) → OnErr r PartTaken → Early (whole input)
  early_input (Ok done) all ready part =
      let did = (all_input all).0 in
      early_all OnDisk held (held_by tells known1 book1.journal) known1 w0 w1 (images (disk new)) (since (disk new) (moment (disk new))) (whole input) did
      (book_shows tells known1 book1 (reads (disk new)) (images (disk new)) (since (disk new) (moment (disk new))) (held_after OnDisk held (whole input)) only_now (ready refl) did.holds)
  early_input (Err fault) all ready part =
      let first = first_input part in
      subst (EndsEarly OnDisk held known1 w0 w1 (images (disk new))) (sym first.all) (early_longer OnDisk held known1 w0 w1 (images (disk new)) first.requests first.others first.did.0)

  grown_input : (r : Result (Unit {0}) SessionFault) → OnOk r AllTaken → OnErr r PartTaken → DiskGrew (whole input)
  grown_input (Ok done) all part = on_disk (whole input) (all_input all).1
  grown_input (Err fault) all part =
      let first = first_input part in disk_by_first reads moment since (disk old) (disk new) OnDisk held (whole input) first.requests first.others first.all (on_disk first.requests first.did.1)

  pub session_of_input : (r : Result (Unit {0}) SessionFault) (s : Status) → s ≡ status_of r → OnOk r AllTaken → ((r ≡ Err session.Read) ⊎ (r ≡ Err session.TooLong) → CutTaken) → OnErr r PartTaken
      → (session_disk_failed r ≡ false → IsReady tells book1 (reads (disk new)) (images (disk new))) → SessionReceives whole cut held input left0 left1 known1 w0 w1 book1.journal reads images moment since (disk old) (disk new) s
  session_of_input r s is all cut_off part ready = record {
    written = λ ok. (all_input (ok_by_status r s AllTaken is ok all)).0.wrote;
    received = λ ok. journal_of (whole input) (all_input (ok_by_status r s AllTaken is ok all)).0;
    ticks = λ ok. ticks_of (whole input) (all_input (ok_by_status r s AllTaken is ok all)).0;
    early = λ other.
        let took = err_by_status r s PartTaken is other part in
        record { read = took.read; consumed = took.consumed; did = (took.did.0, took.did.1, took.did.2, on_disk took.did.0 took.did.3) };
    cut_replies = λ which.
        let took = cut_off (cut_by_status r s is which) in record { read = took.read; consumed = took.consumed; did = took.did.wrote };
    cut_journal = λ which.
        let took = cut_off (cut_by_status r s is which) in record { read = took.read; consumed = took.consumed; did = journal_of (cut (take 67108864 took.read)) took.did };
    cut_ticks = λ which.
        let took = cut_off (cut_by_status r s is which) in record { read = took.read; consumed = took.consumed; did = ticks_of (cut (take 67108864 took.read)) took.did };
    grows = grown_input r all part;
    acknowledged = λ front back file split wrote image. acknowledged held known1 w0 w1 (images (disk new)) (whole input) front back file (early_input r all ready part) split wrote image;
  }

-- what an input asks that is received onto the disk
pub begins_of : (intake : Intake) → BeginsWith (whole_of intake) (cut_of intake)
begins_of Lines = lines_begin Unstamped
begins_of (OpeningList sender) = λ front behind. (row_requests sender (front ++ behind), refl)

-- while the source was not at its end, replies to the lines of the bytes read alone were written
pub read_part_of_early : (medium : Medium) (whole cut : List ℕ → List Request) (held : Held) (left0 left1 : Option (List ℕ)) (known1 : Option (List DayMinute)) (w0 w1 : Option (List ℕ)) (images : List ℕ → Type 0)
    → Took left0 left1 (λ read. (requests : List Request) × AreOf whole cut left1 read requests × EndsEarly medium held known1 w0 w1 images requests) → (IsAtEnd left1 → ⊥)
    → Took left0 left1 (λ read. AppendsFront w0 w1 (replies medium held (cut (take 67108864 read))))
read_part_of_early medium whole cut held left0 left1 known1 w0 w1 images took unended = record {
  read = took.read;
  consumed = took.consumed;
  did = ⊎_elim
      (λ of_cut. subst (λ (rs : List Request). AppendsFront w0 w1 (replies medium held rs)) of_cut (part_of_early medium held known1 w0 w1 images took.did.0 took.did.2))
      (λ at_end. absurd (unended at_end.0)) took.did.1;
}

-- what was written by a session that ended early is a front of all replies
pub part_of_session : (whole cut : List ℕ → List Request) (begins : BeginsWith whole cut) (held : Held) (input : List ℕ) (left0 left1 : Option (List ℕ)) (known1 : Option (List DayMinute)) (w0 w1 : Option (List ℕ)) (journal1 : List Receipt)
    {D : Type 0} (reads : D → List ℕ) (images : D → List ℕ → Type 0) (moment : D → ℕ) (since : D → ℕ → List ℕ → Type 0) (old new : D) (result : Status)
    → left0 ≡ Some input → SessionReceives whole cut held input left0 left1 known1 w0 w1 journal1 reads images moment since old new result → (result ≡ status.Ok → ⊥) → AppendsFront w0 w1 (replies OnDisk held (whole input))
part_of_session whole cut begins held input left0 left1 known1 w0 w1 journal1 reads images moment since old new result is session other =
    let took = session.early other in
    let first = if_some_at left0 input (λ i. FirstOf whole i (λ requests. EndsEarly OnDisk held known1 w0 w1 (images new) requests)) is
    (of_part whole cut left0 left1 (λ requests. EndsEarly OnDisk held known1 w0 w1 (images new) requests) begins (record { read = took.read; consumed = took.consumed; did = (took.did.0, took.did.1, took.did.2) })) in
    subst (AppendsFront w0 w1) (sym (ap (replies OnDisk held) first.all ∙ replies-append OnDisk held first.requests first.others))
    (front_of_longer w0 w1 (replies OnDisk held first.requests) _ (part_of_early OnDisk held known1 w0 w1 (images new) first.requests first.did))

-- a book has failed just where the disk did
pub failed_as : (failed fault : Bool) → (fault ≡ false → failed ≡ false) → (fault ≡ true → failed ≡ true) → failed ≡ fault
failed_as failed true not_failed has_failed = has_failed refl
failed_as failed false not_failed has_failed = not_failed refl
