-- How long the lists in an item are at most.
use Rattle.std.specs.Prelude.{◌≤◌, length}
use Rattle.std.specs.List.{AllByRecursion}
use Rattle.gb_base.specs.Limits.{most_acts}
use Rattle.act_model.specs.Limits.{most_owners, most_docs}
use Rattle.act_model.specs.declared.filing_acts.Act.{Act}
use Rattle.act_model.specs.declared.filing_acts.Act.TheVariants.{Open, Transfer}
use Rattle.act_model.specs.declared.items.Item.{Item}
use Rattle.act_model.specs.declared.items.Item.TheVariants as item

-- an act names no more owners than a folio may have
abbrev pub HasFewOwners : Act → Type 0
HasFewOwners (Open folio inventory owners) = length owners ≤ most_owners
HasFewOwners (Transfer folio owners) = length owners ≤ most_owners
HasFewOwners _ = Unit {0}

-- an item has no more acts and documents than it may have
abbrev pub HasShortLists : Item → Type 0
HasShortLists (item.Filing f) = (length f.acts ≤ most_acts) × AllByRecursion HasFewOwners f.acts × (length f.docs ≤ most_docs)
HasShortLists (item.Cure filing docs) = length docs ≤ most_docs
HasShortLists _ = Unit {0}
