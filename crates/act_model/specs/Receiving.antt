-- How a journal receives an item (GBO § 13): one number acts once, and stamps never fall.
-- Why so: docs/DECISIONS.md, "An early line gets the last receipt's stamp".
use Rattle.std.specs.Prelude.{◌≡◌, ℕ, ◌+◌, ◌-◌, ◌≤◌, Bool, true, false, ◌&&◌, ◌||◌, ◌==◌, nat_lt, nat_le, if◌then◌else◌, List, [], ◌∷◌, ◌++◌, length, slice_get, All, AllPairs, IsTrue, Option, Some, None, option_map}
use Rattle.std.specs.Option.{option_map_or}
use Rattle.gb_base.specs.DayMinute.{DayMinute}
use Rattle.act_model.specs.declared.items.Item.{Item}
use Rattle.act_model.specs.declared.receipts.Receipt.{Receipt}
use Rattle.act_model.specs.declared.added.Added.{Added}
use Rattle.act_model.specs.declared.added.Added.TheVariants as added
use Rattle.act_model.specs.Limits.{most_receipts}
use Rattle.act_model.specs.Same.{same_item}
use Rattle.act_model.specs.WellFormed.{well_formed}

-- the receipt is of this sender and reference
abbrev pub is_sent_as : ℕ → ℕ → Receipt → Bool
is_sent_as sender reference r = r.sender == sender && r.reference == reference

-- one stamp is earlier than the other
abbrev pub is_before : DayMinute → DayMinute → Bool
is_before a b = nat_lt a.day b.day || (a.day == b.day && nat_lt a.minute b.minute)

-- What a journal is: no more receipts than it may have, each of a well-formed item, no two of one sender and reference,
-- and none stamped before an earlier one.
pub record IsJournal (journal : List Receipt) : Type 0 where
  pub few : length journal ≤ most_receipts
  pub items : All (λ r. IsTrue (well_formed r.item)) journal
  pub once : AllPairs (λ r s. is_sent_as r.sender r.reference s ≡ false) journal
  pub stamps : AllPairs (λ r s. is_before s.stamp r.stamp ≡ false) journal

-- the number of the first receipt of this sender and reference, where the first of all has number n
abbrev pub number_from : ℕ → ℕ → ℕ → List Receipt → Option ℕ
number_from n sender reference [] = None
number_from n sender reference (r ∷ rs) =
    if is_sent_as sender reference r then Some n else number_from (n + 1) sender reference rs

-- the number of the receipt of this sender and reference; none where there is none
abbrev pub number_of : ℕ → ℕ → List Receipt → Option ℕ
number_of sender reference journal = number_from 1 sender reference journal

-- receipt n, from 1
abbrev pub receipt_at : List Receipt → ℕ → Option Receipt
receipt_at journal n = if n == 0 then None else slice_get journal (n - 1)

-- the item of receipt n
abbrev pub item_at : List Receipt → ℕ → Option Item
item_at journal n = option_map (λ r. r.item) (receipt_at journal n)

-- the stamp day of receipt n; 0 where there is none
abbrev pub day_of : List Receipt → ℕ → ℕ
day_of journal n = option_map_or (λ r. r.stamp.day) (receipt_at journal n) 0

-- the receipt's stamp where there is one and it is later, else this one
abbrev pub stamp_behind : Option Receipt → DayMinute → DayMinute
stamp_behind None stamp = stamp
stamp_behind (Some r) stamp = if is_before stamp r.stamp then r.stamp else stamp

-- the stamp of the last receipt where that is later, else this one
abbrev pub stamp_after : List Receipt → DayMinute → DayMinute
stamp_after journal stamp = stamp_behind (receipt_at journal (length journal)) stamp

-- the answer to an item of the sender and reference of receipt n
abbrev pub answer_again : Item → ℕ → Option Receipt → Added
answer_again item n (Some r) = if same_item r.item item then added.Repeated n else added.Differs n
answer_again item n None = added.Differs n

-- the answer by the number of the receipt of this sender and reference
abbrev pub answer_by : List Receipt → Item → Option ℕ → Added
answer_by journal item (Some n) = answer_again item n (receipt_at journal n)
answer_by journal item None =
    if nat_le most_receipts (length journal) then added.Full else added.Accepted (length journal + 1)

-- the answer to an item of this sender and reference
abbrev pub answer_to : List Receipt → ℕ → ℕ → Item → Added
answer_to journal sender reference item = answer_by journal item (number_of sender reference journal)

-- the answer is that the item is received
abbrev pub is_accepted : Added → Bool
is_accepted (added.Accepted n) = true
is_accepted (added.Repeated n) = false
is_accepted (added.Differs n) = false
is_accepted added.Full = false
is_accepted added.Memory = false

-- the receipt that an item gets after those of this journal
abbrev pub next_receipt : List Receipt → DayMinute → ℕ → ℕ → Item → Receipt
next_receipt journal stamp sender reference item =
    record { stamp = stamp_after journal stamp; sender = sender; reference = reference; item = item }

-- the journal after this answer
abbrev pub journal_with : List Receipt → DayMinute → ℕ → ℕ → Item → Added → List Receipt
journal_with journal stamp sender reference item answer =
    if is_accepted answer then journal ++ next_receipt journal stamp sender reference item ∷ [] else journal
