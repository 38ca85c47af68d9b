-- How a book receives an item: as a journal does, but its file has a limit.
use Rattle.std.specs.Prelude.{◌≡◌, ◌⊎◌, ℕ, ◌+◌, Bool, true, false, ◌&&◌, nat_lt, if◌then◌else◌, List, [], ◌∷◌, ◌++◌, length, sum_by}
use Rattle.gb_base.specs.DayMinute.{DayMinute}
use Rattle.act_model.specs.declared.items.Item.{Item}
use Rattle.act_model.specs.declared.receipts.Receipt.{Receipt}
use Rattle.act_model.specs.declared.added.Added.{Added}
use Rattle.act_model.specs.declared.added.Added.TheVariants as added
use Rattle.act_model.specs.Receiving.{answer_to}
pub use Rattle.act_model.specs.Receiving.{next_receipt}
use Rattle.act_model.specs.Receiving as journals
use Rattle.act_codec.specs.Spelling.{spelling}
use Rattle.journal_disk.specs.Layout.{the_heading, first_gate, frame_head, file_limit}
use Rattle.receipt_journal.specs.Standing.{StandsForJournal}
use Rattle.receipt_journal.specs.declared.received.Received.{Received}
use Rattle.receipt_journal.specs.declared.received.Received.TheVariants as received

-- the bytes of the file that keeps a journal under this heading: those before the first gate, a gate, a length and a spelling for each receipt, and the last gate
abbrev pub file_size : List ℕ → List Receipt → ℕ
file_size heading journal = first_gate heading + sum_by (λ r. frame_head + length (spelling r)) journal + 1

-- a journal's answer as a book's
abbrev pub in_journal : Added → Received
in_journal (added.Accepted n) = received.Accepted n
in_journal (added.Repeated n) = received.Repeated n
in_journal (added.Differs n) = received.Differs n
in_journal added.Full = received.Full
in_journal added.Memory = received.Memory

-- a journal's answer as a book's, on a disk that would then have so many bytes
abbrev pub on_disk : ℕ → Added → Received
on_disk size answer = if journals.is_accepted answer && nat_lt file_limit size then received.Full else in_journal answer

-- the answer to an item of this sender and reference
unfoldable pub answer_on : List Receipt → DayMinute → ℕ → ℕ → Item → Received
answer_on journal stamp sender reference item =
    on_disk (file_size the_heading (journal ++ next_receipt journal stamp sender reference item ∷ [])) (answer_to journal sender reference item)

-- whether the item was received
abbrev pub is_received : Received → Bool
is_received (received.Accepted n) = true
is_received (received.Repeated n) = false
is_received (received.Differs n) = false
is_received received.Full = false
is_received received.Disk = false
is_received received.MustReopen = false
is_received received.Memory = false

-- whether a book answers that the disk failed
abbrev pub receiving_disk_failed : Received → Bool
receiving_disk_failed (received.Accepted n) = false
receiving_disk_failed (received.Repeated n) = false
receiving_disk_failed (received.Differs n) = false
receiving_disk_failed received.Full = false
receiving_disk_failed received.Disk = true
receiving_disk_failed received.MustReopen = false
receiving_disk_failed received.Memory = false

-- A book gives the answer expected. Where that accepts the item, `Memory` or `Disk` may come instead.
abbrev pub Answers : Received → Received → Type 0
Answers expected result = (result ≡ expected) ⊎ ((is_received expected ≡ true) × ((result ≡ received.Memory) ⊎ (result ≡ received.Disk)))

-- the journal after this answer
abbrev pub journal_after : List Receipt → DayMinute → ℕ → ℕ → Item → Received → List Receipt
journal_after journal stamp sender reference item answer =
    if is_received answer then journal ++ next_receipt journal stamp sender reference item ∷ [] else journal

-- the file stands for the journal before, or for that journal and the new receipt
abbrev pub JournalWithOrWithout : List Receipt → Receipt → List ℕ → Type 0
JournalWithOrWithout journal r file = StandsForJournal file journal ⊎ StandsForJournal file (journal ++ r ∷ [])
