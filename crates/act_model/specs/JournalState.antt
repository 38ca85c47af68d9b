-- What is seen of a journal.
-- Why so: docs/DECISIONS.md, "A journal in contracts is the list of its receipts".
use Rattle.std.specs.Prelude.{Bool, false, List, Option}
use Rattle.std.specs.Option.{option_map_or}
use Rattle.act_model.specs.declared.items.Item.{Item}
use Rattle.act_model.specs.declared.receipts.Receipt.{Receipt}
use Rattle.act_model.specs.Same.{same_item}

-- its receipts, and the item for whose receipt room is kept
pub record JournalState : Type 0 where
  pub receipts : List Receipt
  pub ready_for : Option Item

-- whether room is kept for a receipt of this item, so that receiving it takes no memory
abbrev pub has_room : JournalState → Item → Bool
has_room journal item = option_map_or (λ ready. same_item ready item) journal.ready_for false
