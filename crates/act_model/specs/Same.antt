-- When two items are the same.
-- Why so: docs/DECISIONS.md, "A repeated item is compared as read".
use Rattle.std.specs.Prelude.{Bool}
use Rattle.act_model.specs.declared.items.Item.{Item}
use Rattle.act_model.specs.contracts.items.ItemPartialEq.TheImpl as items

-- what `==` says of two items: by the law `equal_items`, whether they are equal
abbrev pub same_item : Item → Item → Bool
same_item = items.ghosts.eq
