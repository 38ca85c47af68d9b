-- What was lent to what receives: it kept the references, so what they hold in the end is what it left there.
use Rattle.std.proofs.Common.{◌≡◌, ℕ, Bool, List, [], ◌∷◌, Option, sym, ap, ◌∙◌, subst}
use Rattle.gb_base.specs.DayMinute.{DayMinute}
use Rattle.gb_outside.specs.Faults.{Counts}
use Rattle.act_model.specs.declared.receipts.Receipt.{Receipt}
use Rattle.intake_requests.specs.declared.requests.Request.{Request}
use Rattle.receipt_journal.specs.BookState.{BookState}
use Rattle.intake.specs.Grown.{IsDurable}
use Rattle.intake.specs.Requests.{Held}
use Rattle.registry_office.specs.Receivings.{SessionReceives}
use Rattle.registry_office.specs.declared.statuses.Status.{Status}

-- ---- of names that stayed, each stayed

pub first_name : (a b c x y z : ℕ) → a ∷ b ∷ c ∷ [] ≡ x ∷ y ∷ z ∷ [] → x ≡ a
first_name a b c x y z same = cc

pub second_name : (a b c x y z : ℕ) → a ∷ b ∷ c ∷ [] ≡ x ∷ y ∷ z ∷ [] → y ≡ b
second_name a b c x y z same = cc

pub third_name : (a b c x y z : ℕ) → a ∷ b ∷ c ∷ [] ≡ x ∷ y ∷ z ∷ [] → z ≡ c
third_name a b c x y z same = cc

-- ---- what is read of the same book

pub failed_alike : (a b : BookState) → a ≡ b → a.log.failed ≡ b.log.failed
failed_alike a b same = ap (λ (book : BookState). book.log.failed) same

pub receipts_alike : (a b : BookState) → a ≡ b → a.journal ≡ b.journal
receipts_alike a b same = ap (λ (book : BookState). book.journal) same

-- ---- what was said of the book, the disk and the clock that were left is said of those in the end

pub failed_there : (failed0 failed1 fault : Bool) → failed0 ≡ failed1 → failed1 ≡ fault → failed0 ≡ fault
failed_there failed0 failed1 fault same is = same ∙ is

pub durable_there : {D : Type 0} (reads : D → List ℕ) (images : D → List ℕ → Type 0) (book0 book1 : BookState) (disk0 disk1 : D) → book0 ≡ book1 → disk0 ≡ disk1
    → IsDurable book1 (reads disk1) (images disk1) → IsDurable book0 (reads disk0) (images disk0)
durable_there reads images book0 book1 disk0 disk1 book disk is =
    subst (λ b. IsDurable b (reads disk0) (images disk0)) (sym book) (subst (λ d. IsDurable book1 (reads d) (images d)) (sym disk) is)

pub counts_there : {D : Type 0} (faults : D → ℕ) (disk disk0 disk1 : D) (failed : Bool) → disk0 ≡ disk1 → Counts (faults disk) (faults disk1) failed → Counts (faults disk) (faults disk0) failed
counts_there faults disk disk0 disk1 failed same counts = subst (λ d. Counts (faults disk) (faults d) failed) (sym same) counts

pub received_there : {D C : Type 0} (ticks : C → Option (List DayMinute)) (whole cut : List ℕ → List Request) (held : Held) (input : List ℕ) (left0 left1 written0 written1 : Option (List ℕ)) (journal0 journal1 : List Receipt)
    (reads : D → List ℕ) (images : D → List ℕ → Type 0) (moment : D → ℕ) (since : D → ℕ → List ℕ → Type 0) (disk disk0 disk1 : D) (clock0 clock1 : C) (result : Status)
    → journal0 ≡ journal1 → disk0 ≡ disk1 → clock0 ≡ clock1
    → SessionReceives whole cut held input left0 left1 (ticks clock1) written0 written1 journal1 reads images moment since disk disk1 result
    → SessionReceives whole cut held input left0 left1 (ticks clock0) written0 written1 journal0 reads images moment since disk disk0 result
received_there ticks whole cut held input left0 left1 written0 written1 journal0 journal1 reads images moment since disk disk0 disk1 clock0 clock1 result journal at by is =
    subst (λ j. SessionReceives whole cut held input left0 left1 (ticks clock0) written0 written1 j reads images moment since disk disk0 result) (sym journal)
    (subst (λ d. SessionReceives whole cut held input left0 left1 (ticks clock0) written0 written1 journal1 reads images moment since disk d result) (sym at)
    (subst (λ c. SessionReceives whole cut held input left0 left1 (ticks c) written0 written1 journal1 reads images moment since disk disk1 result) (sym by) is))
