-- A book receives an item: the frame is appended, and then the journal takes the receipt.
use Rattle.std.proofs.Common.{◌≡◌, ◌⊎◌, inl, ◌++◌, ◌∷◌, [], ℕ, List, Err, IsTrue, true, false, sym, ◌∙◌, ap, subst}
use Rattle.gb_outside.proofs.Moments.{started, weakened}
use Rattle.act_model.specs.JournalState.{has_room}
use Rattle.act_model.specs.declared.receipts.Receipt.{Receipt}
use Rattle.act_model.specs.declared.added.Added.TheVariants as variants
use Rattle.act_model.specs.Receiving.{answer_to}
use Rattle.act_model.specs.Receiving as journals
use Rattle.act_codec.specs.Spelling.{spelling}
use Rattle.journal_disk.specs.Layout.{the_heading}
use Rattle.journal_disk.specs.Appending as frames
use Rattle.journal_disk.specs.Appending.{StandsOn}
use Rattle.receipt_journal.specs.Standing.{records, gate_after, IsKeepable}
use Rattle.receipt_journal.specs.Receiving.{next_receipt, answer_on, Answers, JournalWithOrWithout}
use Rattle.receipt_journal.proofs.Answering.{next_fits, answers_memory, answers_refused, keepable_next, records_push, gate_next, with_or_without, answers_kept, answers_disk, never_full, accepted_added, no_error}
use Rattle.receipt_journal.proofs.Standings.{stands_by_frames}
use Rattle.receipt_journal.proofs.books.Book.receive.Goals as goal

-- room was kept, so the journal gives the answer expected
added : (g : _) (c : goal.After-drop-spelling-in-Ok-append g) → c.add-in-Ok-append.result ≡ answer_to c.args.self.now.journal c.args.sender c.args.reference c.args.item.now
added g c =
    let kept : c.reserve_one.new.self.receipts ≡ c.args.self.now.journal = c.reserve_one.ensures.receipts ∙ ap (λ b. b.journal) c.self.view_is in
    let room : IsTrue (has_room c.reserve_one.new.self c.args.item.now) =
    no_error c.reserve_one.result (IsTrue (has_room c.reserve_one.new.self c.args.item.now)) c.is_err.result c.is_err.ensures.value c.if-is_err.false c.reserve_one.ensures.room in
    subst (λ (j : List Receipt). c.add-in-Ok-append.result ≡ answer_to j c.args.sender c.args.reference c.args.item.now) kept (c.add-in-Ok-append.ensures.room room)

-- the journal takes the receipt
whole : (g : _) (c : goal.After-drop-spelling-in-Ok-append g)
    → c.add-in-Ok-append.new.self.receipts ≡ c.args.self.now.journal ++ next_receipt c.args.self.now.journal c.args.stamp c.args.sender c.args.reference c.args.item.now ∷ []
whole g c =
    let kept : c.reserve_one.new.self.receipts ≡ c.args.self.now.journal = c.reserve_one.ensures.receipts ∙ ap (λ b. b.journal) c.self.view_is in
    subst (λ (j : List Receipt). c.add-in-Ok-append.new.self.receipts ≡ j ++ next_receipt j c.args.stamp c.args.sender c.args.reference c.args.item.now ∷ []) kept
    (accepted_added c.reserve_one.new.self.receipts c.add-in-Ok-append.new.self.receipts c.args.stamp c.args.sender c.args.reference c.args.item.now c.add-in-Ok-append.result
    (ap journals.is_accepted (added g c) ∙ c.accepts.ensures c.args.item.now ∙ c.if-not-accepts.false) c.add-in-Ok-append.ensures.journal)

pub invariant_of-self-in-Ok-append : goal.invariant_of-self-in-Ok-append
invariant_of-self-in-Ok-append g c =
    let journal = c.args.self.now.journal in
    let next = next_receipt journal c.args.stamp c.args.sender c.args.reference c.args.item.now in
    let accepted : journals.is_accepted (answer_to journal c.args.sender c.args.reference c.args.item.now) ≡ true = c.accepts.ensures c.args.item.now ∙ c.if-not-accepts.false in
    let is : IsKeepable journal = subst IsKeepable (ap (λ b. b.journal) c.self.view_is) c.self.invariant.keepable in
    let is_next : IsKeepable (journal ++ next ∷ []) = keepable_next journal c.args.stamp c.args.sender c.args.reference c.args.item.now is c.in-Ok.ensures.is_receipt accepted in
    let spelled : c.deref.result.now ≡ spelling next = c.deref.ensures.value ∙ c.in-Ok.ensures.spelled in
    let ends : c.self.inside.log.gate ≡ gate_after journal = c.self.invariant.ends ∙ ap gate_after (ap (λ b. b.journal) c.self.view_is) in
    record {
      keepable = subst IsKeepable (sym (whole g c)) is_next;
      ends = ap (λ l. l.gate) c.in-Ok-append.ensures.log ∙ gate_next journal next c.self.inside.log.gate c.deref.result.now ends spelled ∙ ap gate_after (sym (whole g c));
    }

pub returns-in-Ok-append-clause-answer : goal.returns-in-Ok-append-clause-answer
returns-in-Ok-append-clause-answer g c = λ works.
    let journal = c.args.self.now.journal in
    let accepted : journals.is_accepted (answer_to journal c.args.sender c.args.reference c.args.item.now) ≡ true = c.accepts.ensures c.args.item.now ∙ c.if-not-accepts.false in
    let is : IsKeepable journal = subst IsKeepable (ap (λ b. b.journal) c.self.view_is) c.self.invariant.keepable in
    let fits = next_fits journal c.args.stamp c.args.sender c.args.reference c.args.item.now is accepted c.spell.ensures.short in
    subst (Answers (answer_on journal c.args.stamp c.args.sender c.args.reference c.args.item.now)) (sym c.answered-in-Ok-append.ensures)
    (answers_kept journal c.args.stamp c.args.sender c.args.reference c.args.item.now fits c.add-in-Ok-append.result (added g c))

pub returns-in-Ok-append-clause-stands : goal.returns-in-Ok-append-clause-stands
returns-in-Ok-append-clause-stands g c = λ tells works_now.
    let journal = c.args.self.now.journal in
    let next = next_receipt journal c.args.stamp c.args.sender c.args.reference c.args.item.now in
    let works : c.self.inside.log.failed ≡ false = sym c.failed.ensures ∙ c.if-failed.false in
    let stands : StandsOn the_heading c.self.inside.log.gate (records journal) (g.D.Disk.reads c.args.disk.now) (g.D.Disk.images c.args.disk.now) =
    subst (λ (n : ℕ). StandsOn the_heading n (records journal) (g.D.Disk.reads c.args.disk.now) (g.D.Disk.images c.args.disk.now)) (sym (ap (λ b. b.log.gate) c.self.view_is))
    (c.requires.stands tells (sym (ap (λ b. b.log.failed) c.self.view_is) ∙ works)) in
    let spelled : c.deref.result.now ≡ spelling next = c.deref.ensures.value ∙ c.in-Ok.ensures.spelled in
    let bodies : records c.add-in-Ok-append.new.self.receipts ≡ records journal ++ c.deref.result.now ∷ [] =
    ap records (whole g c) ∙ records_push journal next ∙ ap (λ (b : List ℕ). records journal ++ b ∷ []) (sym spelled) in
    subst (λ (l : List (List ℕ)). StandsOn the_heading c.append.new.self.gate l (g.D.Disk.reads c.append.new.disk) (g.D.Disk.images c.append.new.disk)) (sym bodies)
    (c.in-Ok-append.ensures.appended tells (records journal) stands)

pub returns-in-Ok-append-clause-any_moment : goal.returns-in-Ok-append-clause-any_moment
returns-in-Ok-append-clause-any_moment g c = λ tells works_before.
    let journal = c.args.self.now.journal in
    let next = next_receipt journal c.args.stamp c.args.sender c.args.reference c.args.item.now in
    let accepted : journals.is_accepted (answer_to journal c.args.sender c.args.reference c.args.item.now) ≡ true = c.accepts.ensures c.args.item.now ∙ c.if-not-accepts.false in
    let is : IsKeepable journal = subst IsKeepable (ap (λ b. b.journal) c.self.view_is) c.self.invariant.keepable in
    let is_next : IsKeepable (journal ++ next ∷ []) = keepable_next journal c.args.stamp c.args.sender c.args.reference c.args.item.now is c.in-Ok.ensures.is_receipt accepted in
    let works : c.self.inside.log.failed ≡ false = sym c.failed.ensures ∙ c.if-failed.false in
    let stands : StandsOn the_heading c.self.inside.log.gate (records journal) (g.D.Disk.reads c.args.disk.now) (g.D.Disk.images c.args.disk.now) =
    subst (λ (n : ℕ). StandsOn the_heading n (records journal) (g.D.Disk.reads c.args.disk.now) (g.D.Disk.images c.args.disk.now)) (sym (ap (λ b. b.log.gate) c.self.view_is))
    (c.requires.stands tells (sym (ap (λ b. b.log.failed) c.self.view_is) ∙ works)) in
    let spelled : c.deref.result.now ≡ spelling next = c.deref.ensures.value ∙ c.in-Ok.ensures.spelled in
    weakened g.D.Disk.moment g.D.Disk.since c.args.disk.now c.append.new.disk (frames.FramesWithOrWithout the_heading (records journal) c.deref.result.now) (JournalWithOrWithout journal next)
    (λ file has. with_or_without journal next c.deref.result.now file is is_next spelled has)
    (c.in-Ok-append.ensures.any_moment tells (records journal) works stands)

pub returns-in-Err-Full-clause-answer : goal.returns-in-Err-Full-clause-answer
returns-in-Err-Full-clause-answer g c = λ works.
    let journal = c.args.self.now.journal in
    let next = next_receipt journal c.args.stamp c.args.sender c.args.reference c.args.item.now in
    let accepted : journals.is_accepted (answer_to journal c.args.sender c.args.reference c.args.item.now) ≡ true = c.accepts.ensures c.args.item.now ∙ c.if-not-accepts.false in
    let is : IsKeepable journal = subst IsKeepable (ap (λ b. b.journal) c.self.view_is) c.self.invariant.keepable in
    let fits = next_fits journal c.args.stamp c.args.sender c.args.reference c.args.item.now is accepted c.spell.ensures.short in
    let spelled : c.deref.result.now ≡ spelling next = c.deref.ensures.value ∙ c.in-Ok.ensures.spelled in
    let ends : c.self.inside.log.gate ≡ gate_after journal = c.self.invariant.ends ∙ ap gate_after (ap (λ b. b.journal) c.self.view_is) in
    absurd (never_full journal c.args.stamp c.args.sender c.args.reference c.args.item.now fits c.self.inside.log.gate c.deref.result.now ends spelled
    (c.append.ensures.full.0 (c.in-Err-Full.is ∙ ap (λ fault. Err fault) c.in-Err-Full.field-0-is)).1)

pub returns-in-Err-Disk-clause-answer : goal.returns-in-Err-Disk-clause-answer
returns-in-Err-Disk-clause-answer g c = λ works.
    let journal = c.args.self.now.journal in
    let accepted : journals.is_accepted (answer_to journal c.args.sender c.args.reference c.args.item.now) ≡ true = c.accepts.ensures c.args.item.now ∙ c.if-not-accepts.false in
    let is : IsKeepable journal = subst IsKeepable (ap (λ b. b.journal) c.self.view_is) c.self.invariant.keepable in
    let fits = next_fits journal c.args.stamp c.args.sender c.args.reference c.args.item.now is accepted c.spell.ensures.short in
    answers_disk journal c.args.stamp c.args.sender c.args.reference c.args.item.now fits accepted

pub returns-in-Err-Disk-clause-any_moment : goal.returns-in-Err-Disk-clause-any_moment
returns-in-Err-Disk-clause-any_moment g c = λ tells works_before.
    let journal = c.args.self.now.journal in
    let next = next_receipt journal c.args.stamp c.args.sender c.args.reference c.args.item.now in
    let accepted : journals.is_accepted (answer_to journal c.args.sender c.args.reference c.args.item.now) ≡ true = c.accepts.ensures c.args.item.now ∙ c.if-not-accepts.false in
    let is : IsKeepable journal = subst IsKeepable (ap (λ b. b.journal) c.self.view_is) c.self.invariant.keepable in
    let is_next : IsKeepable (journal ++ next ∷ []) = keepable_next journal c.args.stamp c.args.sender c.args.reference c.args.item.now is c.in-Ok.ensures.is_receipt accepted in
    let works : c.self.inside.log.failed ≡ false = sym c.failed.ensures ∙ c.if-failed.false in
    let stands : StandsOn the_heading c.self.inside.log.gate (records journal) (g.D.Disk.reads c.args.disk.now) (g.D.Disk.images c.args.disk.now) =
    subst (λ (n : ℕ). StandsOn the_heading n (records journal) (g.D.Disk.reads c.args.disk.now) (g.D.Disk.images c.args.disk.now)) (sym (ap (λ b. b.log.gate) c.self.view_is))
    (c.requires.stands tells (sym (ap (λ b. b.log.failed) c.self.view_is) ∙ works)) in
    let spelled : c.deref.result.now ≡ spelling next = c.deref.ensures.value ∙ c.in-Ok.ensures.spelled in
    weakened g.D.Disk.moment g.D.Disk.since c.args.disk.now c.append.new.disk (frames.FramesWithOrWithout the_heading (records journal) c.deref.result.now) (JournalWithOrWithout journal next)
    (λ file has. with_or_without journal next c.deref.result.now file is is_next spelled has)
    (c.in-Err-Disk.ensures.any_moment tells (records journal) works stands)

pub returns-in_default-clause-answer : goal.returns-in_default-clause-answer
returns-in_default-clause-answer g c = λ works.
    let journal = c.args.self.now.journal in
    let accepted : journals.is_accepted (answer_to journal c.args.sender c.args.reference c.args.item.now) ≡ true = c.accepts.ensures c.args.item.now ∙ c.if-not-accepts.false in
    let is : IsKeepable journal = subst IsKeepable (ap (λ b. b.journal) c.self.view_is) c.self.invariant.keepable in
    let fits = next_fits journal c.args.stamp c.args.sender c.args.reference c.args.item.now is accepted c.spell.ensures.short in
    answers_memory journal c.args.stamp c.args.sender c.args.reference c.args.item.now fits accepted

pub returns-then-is_err-clause-answer : goal.returns-then-is_err-clause-answer
returns-then-is_err-clause-answer g c = λ works.
    let journal = c.args.self.now.journal in
    let accepted : journals.is_accepted (answer_to journal c.args.sender c.args.reference c.args.item.now) ≡ true = c.accepts.ensures c.args.item.now ∙ c.if-not-accepts.false in
    let is : IsKeepable journal = subst IsKeepable (ap (λ b. b.journal) c.self.view_is) c.self.invariant.keepable in
    let fits = next_fits journal c.args.stamp c.args.sender c.args.reference c.args.item.now is accepted c.spell.ensures.short in
    answers_memory journal c.args.stamp c.args.sender c.args.reference c.args.item.now fits accepted

pub returns-in_default-clause-any_moment : goal.returns-in_default-clause-any_moment
returns-in_default-clause-any_moment g c = λ tells works.
    let journal = c.args.self.now.journal in
    let next = next_receipt journal c.args.stamp c.args.sender c.args.reference c.args.item.now in
    let is : IsKeepable journal = subst IsKeepable (ap (λ b. b.journal) c.self.view_is) c.self.invariant.keepable in
    started g.D.Disk.moment g.D.Disk.since c.args.disk.now (JournalWithOrWithout journal next)
    (λ file left. inl (stands_by_frames file journal is ((c.requires.stands tells works).durable file (g.met.D.Disk.only_now c.args.disk.now file tells left))))

pub returns-then-is_err-clause-any_moment : goal.returns-then-is_err-clause-any_moment
returns-then-is_err-clause-any_moment g c = λ tells works.
    let journal = c.args.self.now.journal in
    let next = next_receipt journal c.args.stamp c.args.sender c.args.reference c.args.item.now in
    let is : IsKeepable journal = subst IsKeepable (ap (λ b. b.journal) c.self.view_is) c.self.invariant.keepable in
    started g.D.Disk.moment g.D.Disk.since c.args.disk.now (JournalWithOrWithout journal next)
    (λ file left. inl (stands_by_frames file journal is ((c.requires.stands tells works).durable file (g.met.D.Disk.only_now c.args.disk.now file tells left))))

-- the answer to an item that the journal does not accept
pub returns-then-not-accepts-clause-answer : goal.returns-then-not-accepts-clause-answer
returns-then-not-accepts-clause-answer g c = λ works.
    let journal = c.args.self.now.journal in
    let refuses : journals.is_accepted (answer_to journal c.args.sender c.args.reference c.args.item.now) ≡ false = c.accepts.ensures c.args.item.now ∙ c.if-not-accepts.true in
    let said = subst (λ (j : List Receipt). (c.add.result ≡ answer_to j c.args.sender c.args.reference c.args.item.now) ⊎ ((c.add.result ≡ variants.Memory) × (journals.is_accepted (answer_to j c.args.sender c.args.reference c.args.item.now) ≡ true)))
    (ap (λ b. b.journal) c.self.view_is) c.add.ensures.answer in
    subst (Answers (answer_on journal c.args.stamp c.args.sender c.args.reference c.args.item.now)) (sym c.answered.ensures)
    (answers_refused journal c.args.stamp c.args.sender c.args.reference c.args.item.now c.add.result refuses said)
