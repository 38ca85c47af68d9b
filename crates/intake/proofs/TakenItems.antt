-- What receives an item gives the reply that is defined for it.
use Rattle.std.specs.Prelude.{◌+◌, ◌&&◌, nat_lt, nat_le}
use Rattle.std.proofs.Common.{◌≡◌, inl, inr, ℕ, Bool, true, false, cond, List, [], ◌∷◌, ◌++◌, length, refl, sym, ap, ◌∙◌, subst, arith, length-append, Option, Some, None, IsTrue}
use Rattle.std.proofs.lemmas.Option.{same_Some}
use Rattle.gb_base.specs.DayMinute.{DayMinute}
use Rattle.gb_outside.specs.Ticks.{Ticks}
use Rattle.act_model.specs.Limits.{most_receipts}
use Rattle.act_model.specs.Receiving.{answer_again, answer_by, answer_to, next_receipt, number_of, receipt_at, is_accepted}
use Rattle.act_model.specs.Same.{same_item}
use Rattle.act_model.specs.declared.added.Added.{Added}
use Rattle.act_model.specs.declared.added.Added.TheVariants as added
use Rattle.act_model.specs.declared.items.Item.{Item}
use Rattle.act_model.specs.declared.receipts.Receipt.{Receipt}
use Rattle.journal_disk.specs.Layout.{file_limit, the_heading}
use Rattle.receipt_journal.specs.Receiving.{Answers, answer_on, file_size, in_journal, is_received, journal_after, on_disk}
use Rattle.receipt_journal.specs.declared.received.Received.{Received}
use Rattle.receipt_journal.specs.declared.received.Received.TheVariants as variants
use Rattle.intake.specs.Grown.{GrownFrom, DiskGrows}
use Rattle.intake.specs.Receivers.{held_by, TakesItem}
use Rattle.intake.specs.Requests.{Medium, InMemory, OnDisk, Held, Replied, holding, received, received_text, replied, reply_of, is_fault}
use Rattle.intake_requests.specs.declared.requests.SenderReference.{SenderReference}
use Rattle.intake_requests.specs.declared.requests.Request.TheVariants.{Receive}
use Rattle.intake.specs.inner.Shown.{held_or}
use Rattle.intake.proofs.WrittenFrames.{frames_none}

-- an answer that is no fault is the answer expected
answer_expected : (expected : Received) (answer : Received) → Answers expected answer → is_fault answer ≡ false → answer ≡ expected
answer_expected expected answer (inl same) sound = same
answer_expected expected answer (inr (accepts, inl memory)) sound = let never : true ≡ false = sym (ap is_fault memory) ∙ sound in absurd cc
answer_expected expected answer (inr (accepts, inr disk)) sound = let never : true ≡ false = sym (ap is_fault disk) ∙ sound in absurd cc

-- ---- no answer expected is a fault, and a fault takes the place of an answer that accepts the item

sound_again : (item : Item) (n : ℕ) (found : Option Receipt) → is_fault (in_journal (answer_again item n found)) ≡ false
sound_again item n (Some r) = elim (same_item r.item item) as (λ b. is_fault (in_journal (cond b (added.Repeated n) (added.Differs n))) ≡ false)
    [ true ↦ refl | false ↦ refl ]
sound_again item n None = refl

sound_by : (journal : List Receipt) (item : Item) (number : Option ℕ) → is_fault (in_journal (answer_by journal item number)) ≡ false
sound_by journal item (Some n) = sound_again item n (receipt_at journal n)
sound_by journal item None = elim (nat_le most_receipts (length journal)) as (λ b. is_fault (in_journal (cond b added.Full (added.Accepted (length journal + 1)))) ≡ false)
    [ true ↦ refl | false ↦ refl ]

sound_on_disk : (size : ℕ) (answer : Added) → is_fault (in_journal answer) ≡ false → is_fault (on_disk size answer) ≡ false
sound_on_disk size answer sound = elim (is_accepted answer && nat_lt file_limit size) as (λ b. is_fault (cond b variants.Full (in_journal answer)) ≡ false)
    [ true ↦ refl | false ↦ sound ]

sound_expected : (medium : Medium) (journal : List Receipt) (stamp : DayMinute) (sender reference : ℕ) (item : Item) → is_fault (received medium journal stamp sender reference item) ≡ false
unfolding answer_on
sound_expected InMemory journal stamp sender reference item = sound_by journal item (number_of sender reference journal)
sound_expected OnDisk journal stamp sender reference item =
    sound_on_disk (file_size the_heading (journal ++ next_receipt journal stamp sender reference item ∷ [])) (answer_to journal sender reference item) (sound_by journal item (number_of sender reference journal))

accepts_at_fault : (expected : Received) (answer : Received) → Answers expected answer → is_fault expected ≡ false → is_fault answer ≡ true → is_received expected ≡ true
accepts_at_fault expected answer (inl same) sound fault = let never : true ≡ false = sym fault ∙ ap is_fault same ∙ sound in absurd cc
accepts_at_fault expected answer (inr (accepts, fails)) sound fault = accepts

-- a journal with one receipt more is another journal
longer : (journal : List Receipt) (r : Receipt) (accepted : Bool) → accepted ≡ true → journal ≡ cond accepted (journal ++ r ∷ []) journal → ⊥
longer journal r true is same =
    let lengths : length journal ≡ length (journal ++ r ∷ []) = ap length same in
    omega (arith, length-append journal (r ∷ []))
longer journal r false is same = absurd cc

not_received : (answer : Received) → is_fault answer ≡ true → is_received answer ≡ false
not_received (variants.Accepted n) fault = absurd cc
not_received (variants.Repeated n) fault = refl
not_received (variants.Differs n) fault = refl
not_received variants.Full fault = refl
not_received variants.Disk fault = refl
not_received variants.MustReopen fault = refl
not_received variants.Memory fault = refl

-- ---- the stamp of an item, and what the clock will give then

pub record IsStamped (medium : Medium) (journal : List Receipt) (ticks : List DayMinute) (stamp : DayMinute) (own : Option DayMinute) (from : SenderReference) (item : Item) (known : Option (List DayMinute)) : Type 0 where
  pub later : List DayMinute
  pub reply : reply_of medium (holding journal ticks) (Receive own from item) ≡ replied journal later stamp from.sender from.reference item (received medium journal stamp from.sender from.reference item)
  pub clock : known ≡ Some later

stamped_by_clock : (medium : Medium) (journal : List Receipt) (ticks : List DayMinute) (stamp : DayMinute) (from : SenderReference) (item : Item) (known0 known1 : Option (List DayMinute))
    → known0 ≡ Some ticks → Ticks known0 known1 stamp → IsStamped medium journal ticks stamp None from item known1
unfolding reply_of
stamped_by_clock medium journal [] stamp from item known0 known1 is tick = absurd (subst (λ known. Ticks known known1 stamp) is tick)
stamped_by_clock medium journal (t ∷ []) stamp from item known0 known1 is tick =
    let at : Ticks (Some (t ∷ [])) known1 stamp = subst (λ known. Ticks known known1 stamp) is tick in
    record { later = t ∷ []; reply = ap (λ s. replied journal (t ∷ []) s from.sender from.reference item (received medium journal s from.sender from.reference item)) (sym at.0); clock = at.1 }
stamped_by_clock medium journal (t ∷ u ∷ ticks) stamp from item known0 known1 is tick =
    let at : Ticks (Some (t ∷ u ∷ ticks)) known1 stamp = subst (λ known. Ticks known known1 stamp) is tick in
    record { later = u ∷ ticks; reply = ap (λ s. replied journal (u ∷ ticks) s from.sender from.reference item (received medium journal s from.sender from.reference item)) (sym at.0); clock = at.1 }

pub is_stamped : (medium : Medium) (journal : List Receipt) (ticks : List DayMinute) (stamp : DayMinute) (own : Option DayMinute) (from : SenderReference) (item : Item) (known0 known1 : Option (List DayMinute))
    → known0 ≡ Some ticks → ((t : DayMinute) → own ≡ Some t → (stamp ≡ t) × (known1 ≡ known0)) → (own ≡ None → Ticks known0 known1 stamp)
    → IsStamped medium journal ticks stamp own from item known1
unfolding reply_of
is_stamped medium journal ticks stamp (Some t) from item known0 known1 clock own tick = record {
  later = ticks;
  reply = ap (λ s. replied journal ticks s from.sender from.reference item (received medium journal s from.sender from.reference item)) (sym (own t refl).0);
  clock = (own t refl).1 ∙ clock;
}
is_stamped medium journal ticks stamp None from item known0 known1 clock own tick = stamped_by_clock medium journal ticks stamp from item known0 known1 clock (tick refl)

-- ---- what is held

pub record Tells (tells : Bool) (known : Option (List DayMinute)) (journal : List Receipt) (held : Held) : Type 0 where
  pub disk : IsTrue tells
  pub clock : known ≡ Some held.ticks
  pub same : holding journal held.ticks ≡ held

pub told_by : (tells : Bool) (known : Option (List DayMinute)) (journal : List Receipt) (held : Held) → held_by tells known journal ≡ Some held → Tells tells known journal held
told_by true (Some ticks) journal held is =
    let same : holding journal ticks ≡ held = ap (held_or held) is in record {
      disk = refl;
      clock = ap (λ (h : Held). Some h.ticks) same;
      same = ap (λ (h : Held). holding journal h.ticks) (sym same) ∙ same;
    }
told_by true None journal held is = absurd cc
told_by false known journal held is = absurd cc

pub holds_by : (tells : Bool) (known : Option (List DayMinute)) (journal : List Receipt) (ticks : List DayMinute) → IsTrue tells → known ≡ Some ticks → held_by tells known journal ≡ Some (holding journal ticks)
holds_by tells known journal ticks told is = rw (told, is) refl

-- ---- what was done with an item

module _ {R : Type 0} (reads : R → List ℕ) (images : R → List ℕ → Type 0) (moment : R → ℕ) (since : R → ℕ → List ℕ → Type 0) (old new : R) (medium : Medium)
    (journal0 journal1 : List Receipt) (ticks : List DayMinute) (stamp : DayMinute) (own : Option DayMinute) (from : SenderReference) (item : Item) (answer : Received) (known : Option (List DayMinute)) where
  abbrev expected : Received
  expected = received medium journal0 stamp from.sender from.reference item

  abbrev Grew : Type 0
  Grew = DiskGrows reads moment since old new journal0 (journal_after journal0 stamp from.sender from.reference item expected)

  pub takes_item : (holds : Option Held) → IsStamped medium journal0 ticks stamp own from item known → Answers expected answer
      → journal1 ≡ journal_after journal0 stamp from.sender from.reference item answer → ((later : List DayMinute) → known ≡ Some later → holds ≡ Some (holding journal1 later)) → Grew
      → ((file : List ℕ) → images new file → GrownFrom journal0 (journal_after journal0 stamp from.sender from.reference item expected) file)
      → TakesItem reads images moment since old new (holding journal0 ticks) (reply_of medium (holding journal0 ticks) (Receive own from item)) answer holds known
  takes_item holds s answers receipts is grew left =
      subst (λ (r : Replied). TakesItem reads images moment since old new (holding journal0 ticks) r answer holds known) (sym s.reply) (record {
        text = λ sound. ap (λ a. received_text a ++ 10 ∷ []) (answer_expected expected answer answers sound);
        holds = λ sound. is s.later s.clock ∙ ap (λ (j : List Receipt). Some (holding j s.later)) (receipts ∙ ap (journal_after journal0 stamp from.sender from.reference item) (answer_expected expected answer answers sound));
        fault = λ fault same. longer journal0 (next_receipt journal0 stamp from.sender from.reference item) (is_received expected)
            (accepts_at_fault expected answer answers (sound_expected medium journal0 stamp from.sender from.reference item) fault) same;
        kept = λ fault. is s.later s.clock ∙ ap (λ (j : List Receipt). Some (holding j s.later))
            (receipts ∙ ap (λ b. cond b (journal0 ++ next_receipt journal0 stamp from.sender from.reference item ∷ []) journal0) (not_received answer fault));
        ticks = s.clock;
        left = left;
        grows = grew;
      })

-- a journal in memory takes an item: it has no disk and no clock
pub memory_takes : {R : Type 0} (old new : R) (journal0 journal1 : List Receipt) (held : Held) (stamp : DayMinute) (own : Option DayMinute) (from : SenderReference) (item : Item) (answer : Received)
    → own ≡ Some stamp → Some (holding journal0 []) ≡ Some held → Answers (received InMemory journal0 stamp from.sender from.reference item) answer → journal1 ≡ journal_after journal0 stamp from.sender from.reference item answer
    → TakesItem {R = R} (λ s. []) (λ s file. ⊥) (λ s. 0) (λ s time file. ⊥) old new held (reply_of InMemory held (Receive own from item)) answer (Some (holding journal1 [])) (Some [])
memory_takes {R} old new journal0 journal1 held stamp own from item answer is_own is answers receipts =
    subst (λ (h : Held). TakesItem {R = R} (λ s. []) (λ s file. ⊥) (λ s. 0) (λ s time file. ⊥) old new h (reply_of InMemory h (Receive own from item)) answer (Some (holding journal1 [])) (Some [])) (ap (held_or held) is)
    (takes_item {R = R} (λ s. []) (λ s file. ⊥) (λ s. 0) (λ s time file. ⊥) old new InMemory journal0 journal1 [] stamp own from item answer (Some []) (Some (holding journal1 []))
    (is_stamped InMemory journal0 [] stamp own from item (Some []) (Some []) refl (λ t owned. (same_Some stamp t (sym is_own ∙ owned), refl)) (λ none. let never : Some stamp ≡ None = sym is_own ∙ none in absurd cc))
    answers receipts (λ later known. ap (λ (ticks : List DayMinute). Some (holding journal1 ticks)) (same_Some [] later known))
    (record { left = record { later = omega arith; each = λ c left. absurd left; before = λ t c le left. absurd left }; written = frames_none journal0 _ [] }) (λ file image. absurd image))

-- a book on a disk takes an item, with a clock
pub book_takes : {R : Type 0} (reads : R → List ℕ) (images : R → List ℕ → Type 0) (moment : R → ℕ) (since : R → ℕ → List ℕ → Type 0) (old new : R) (tells : Bool) (known0 known1 : Option (List DayMinute)) (journal0 journal1 : List Receipt)
    (held : Held) (stamp : DayMinute) (own : Option DayMinute) (from : SenderReference) (item : Item) (answer : Received)
    → held_by tells known0 journal0 ≡ Some held → ((t : DayMinute) → own ≡ Some t → (stamp ≡ t) × (known1 ≡ known0)) → (own ≡ None → Ticks known0 known1 stamp)
    → Answers (received OnDisk journal0 stamp from.sender from.reference item) answer → journal1 ≡ journal_after journal0 stamp from.sender from.reference item answer
    → (IsTrue tells → DiskGrows reads moment since old new journal0 (journal_after journal0 stamp from.sender from.reference item (received OnDisk journal0 stamp from.sender from.reference item)))
    → (IsTrue tells → (file : List ℕ) → images new file → GrownFrom journal0 (journal_after journal0 stamp from.sender from.reference item (received OnDisk journal0 stamp from.sender from.reference item)) file)
    → TakesItem reads images moment since old new held (reply_of OnDisk held (Receive own from item)) answer (held_by tells known1 journal1) known1
book_takes reads images moment since old new tells known0 known1 journal0 journal1 held stamp own from item answer is owned tick answers receipts grew left =
    let told = told_by tells known0 journal0 held is in
    subst (λ (h : Held). TakesItem reads images moment since old new h (reply_of OnDisk h (Receive own from item)) answer (held_by tells known1 journal1) known1) told.same
    (takes_item reads images moment since old new OnDisk journal0 journal1 held.ticks stamp own from item answer known1 (held_by tells known1 journal1)
    (is_stamped OnDisk journal0 held.ticks stamp own from item known0 known1 told.clock owned tick) answers receipts
    (λ later known. holds_by tells known1 journal1 later told.disk known) (grew told.disk) (left told.disk))
