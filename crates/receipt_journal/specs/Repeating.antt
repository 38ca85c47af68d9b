-- Receiving items one after another, and receiving them again.
use Rattle.std.specs.Prelude.{ℕ, List, [], ◌∷◌}
use Rattle.act_model.specs.declared.items.Item.{Item}
use Rattle.act_model.specs.declared.receipts.Receipt.{Receipt}
use Rattle.receipt_journal.specs.Receiving.{answer_on, journal_after}

-- what is sent: an item, with its sender and reference
pub record SentItem : Type 0 where
  pub sender : ℕ
  pub reference : ℕ
  pub item : Item

-- all of a receipt but its stamp
abbrev pub unstamped : Receipt → SentItem
unstamped r = record { sender = r.sender; reference = r.reference; item = r.item }

-- the journal once this came in: an item with its sender and reference, at the moment of the stamp
abbrev pub after_one : List Receipt → Receipt → List Receipt
after_one journal r = journal_after journal r.stamp r.sender r.reference r.item (answer_on journal r.stamp r.sender r.reference r.item)

-- the journal once these came in, one after another
abbrev pub after_all : List Receipt → List Receipt → List Receipt
after_all journal [] = journal
after_all journal (r ∷ rs) = after_all (after_one journal r) rs
