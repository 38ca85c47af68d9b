-- What a book that received an item says of the disk that it is on.
use Rattle.std.proofs.Common.{◌≡◌, inl, inr, ⊎_elim, ℕ, Bool, true, false, cond, List, [], ◌∷◌, ◌++◌, length, refl, sym, ◌∙◌, ap, arith, length-append, append-nil}
use Rattle.std.proofs.lemmas.List.{length-map}
use Rattle.gb_outside.specs.Images.{LeavesOnly}
use Rattle.gb_outside.proofs.Moments.{weakened}
use Rattle.gb_base.specs.DayMinute.{DayMinute}
use Rattle.act_model.specs.declared.items.Item.{Item}
use Rattle.act_model.specs.declared.receipts.Receipt.{Receipt}
use Rattle.act_model.specs.declared.added.Added.{Added}
use Rattle.act_model.specs.declared.added.Added.TheVariants as added
use Rattle.std.specs.Prelude.{nat_lt, ◌&&◌}
use Rattle.journal_disk.specs.Layout.{StandsFor}
use Rattle.journal_disk.proofs.Standings.{stands_once}
use Rattle.receipt_journal.specs.BookState.{BookState}
use Rattle.receipt_journal.specs.Standing.{records, IsKeepable, StandsForJournal}
use Rattle.act_model.specs.Receiving.{next_receipt}
use Rattle.receipt_journal.specs.Receiving.{file_size, answer_on, is_received, receiving_disk_failed, journal_after, JournalWithOrWithout, in_journal, on_disk, Answers}
use Rattle.act_model.specs.Receiving as journals
use Rattle.journal_disk.specs.Layout.{file_limit, the_heading}
use Rattle.receipt_journal.specs.declared.received.Received.TheVariants as answers
use Rattle.receipt_journal.specs.declared.received.Received.{Received}
use Rattle.receipt_journal.proofs.Standings.{stands_by_frames, kept_frames}
use Rattle.intake.specs.Grown.{GrownFrom, IsFront, IsDurable}
use Rattle.intake.specs.Requests.{Medium, InMemory, OnDisk, received}
use Rattle.act_model.specs.Receiving.{answer_to}

pub front_refl : {A : Type 0} (xs : List A) → IsFront xs xs
front_refl xs = ([], sym (append-nil xs))

-- frames can keep the journal with the new receipt, where a file has its frames
keepable_with : (journal : List Receipt) (r : Receipt) (file : List ℕ) → JournalWithOrWithout journal r file → StandsFor the_heading file (records (journal ++ r ∷ [])) → IsKeepable (journal ++ r ∷ [])
keepable_with journal r file (inr with_it) stands = (kept_frames file (journal ++ r ∷ []) with_it).0
keepable_with journal r file (inl without) stands =
    let same : records journal ≡ records (journal ++ r ∷ []) = stands_once file (records journal) (records (journal ++ r ∷ [])) (kept_frames file journal without).1 stands in
    let lengths : length journal ≡ length (journal ++ r ∷ []) = sym (length-map journal _) ∙ ap length same ∙ length-map (journal ++ r ∷ []) _ in
    absurd (omega (arith, length-append journal (r ∷ [])))

pub keepable_after : (journal : List Receipt) (stamp : DayMinute) (sender reference : ℕ) (item : Item) (answer : Received) (file : List ℕ) → IsKeepable journal
    → JournalWithOrWithout journal (next_receipt journal stamp sender reference item) file
    → StandsFor the_heading file (records (journal_after journal stamp sender reference item answer))
    → IsKeepable (journal_after journal stamp sender reference item answer)
keepable_after journal stamp sender reference item answer file keepable here =
    let next = next_receipt journal stamp sender reference item in
    elim (is_received answer) as (λ b. StandsFor the_heading file (records (cond b (journal ++ next ∷ []) journal)) → IsKeepable (cond b (journal ++ next ∷ []) journal))
    [ true ↦ λ stands. keepable_with journal next file here stands | false ↦ λ stands. keepable ]

no_disk_in_journal : (answer : Added) → receiving_disk_failed (in_journal answer) ≡ false
no_disk_in_journal (added.Accepted n) = refl
no_disk_in_journal (added.Repeated n) = refl
no_disk_in_journal (added.Differs n) = refl
no_disk_in_journal added.Full = refl
no_disk_in_journal added.Memory = refl

no_disk : (size : ℕ) (answer : Added) → receiving_disk_failed (on_disk size answer) ≡ false
no_disk size answer = elim (journals.is_accepted answer && nat_lt file_limit size) as (λ b. receiving_disk_failed (cond b answers.Full (in_journal answer)) ≡ false)
    [ true ↦ refl | false ↦ no_disk_in_journal answer ]

-- an item that is refused is answered so, whatever the size of the disk, and not with a failure of the disk
pub refused_by_none : (size : ℕ) (answer : Added) (result : Received) → Answers (on_disk size answer) result → is_received (on_disk size answer) ≡ false
    → (is_received result ≡ false) × (receiving_disk_failed result ≡ false)
refused_by_none size answer result (inl same) refused = (ap is_received same ∙ refused, ap receiving_disk_failed same ∙ no_disk size answer)
refused_by_none size answer result (inr (accepts, fault)) refused = let never : true ≡ false = sym accepts ∙ refused in absurd cc

-- a stop leaves the journal before, or the journal after the answer; where the item is refused nothing was written
pub grown_by : {D : Type 0} (moment : D → ℕ) (since : D → ℕ → List ℕ → Type 0) (old new : D) (images : List ℕ → Type 0) (journal : List Receipt) (r : Receipt) (accepted : Bool)
    → LeavesOnly moment since old new (JournalWithOrWithout journal r)
    → (accepted ≡ false → LeavesOnly moment since old new (λ file. StandsForJournal file journal))
    → LeavesOnly moment since old new (GrownFrom journal (cond accepted (journal ++ r ∷ []) journal))
grown_by moment since old new images journal r true run kept =
    weakened moment since old new (JournalWithOrWithout journal r) (GrownFrom journal (journal ++ r ∷ [])) (λ file has. ⊎_elim
    (λ without. record { journal = journal; stands = without; begins = front_refl journal; ends = (r ∷ [], refl) })
    (λ with_it. record { journal = journal ++ r ∷ []; stands = with_it; begins = (r ∷ [], refl); ends = front_refl (journal ++ r ∷ []) }) has) run
grown_by moment since old new images journal r false run kept =
    weakened moment since old new (λ file. StandsForJournal file journal) (GrownFrom journal journal)
    (λ file stands. record { journal = journal; stands = stands; begins = front_refl journal; ends = front_refl journal }) (kept refl)

pub durable_stands : (book : BookState) (reads : List ℕ) (images : List ℕ → Type 0) (file : List ℕ) → IsDurable book reads images → images file → StandsForJournal file book.journal
durable_stands book reads images file is image = stands_by_frames file book.journal is.keepable (is.stands.durable file image)

-- no answer that is expected is a failure of the disk
pub none_failed : (medium : Medium) (journal : List Receipt) (stamp : DayMinute) (sender reference : ℕ) (item : Item) → receiving_disk_failed (received medium journal stamp sender reference item) ≡ false
unfolding answer_on
none_failed InMemory journal stamp sender reference item = no_disk_in_journal (answer_to journal sender reference item)
none_failed OnDisk journal stamp sender reference item = no_disk (file_size the_heading (journal ++ next_receipt journal stamp sender reference item ∷ [])) (answer_to journal sender reference item)

-- an item that the answer on a disk refuses is answered so, and not with a failure of the disk
pub refused_on_disk : (journal : List Receipt) (stamp : DayMinute) (sender reference : ℕ) (item : Item) (result : Received) → Answers (answer_on journal stamp sender reference item) result
    → is_received (answer_on journal stamp sender reference item) ≡ false → (is_received result ≡ false) × (receiving_disk_failed result ≡ false)
unfolding answer_on
refused_on_disk journal stamp sender reference item result answers refused =
    refused_by_none (file_size the_heading (journal ++ next_receipt journal stamp sender reference item ∷ [])) (answer_to journal sender reference item) result answers refused
