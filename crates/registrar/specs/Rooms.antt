-- How much room an item needs at its keys.
use Rattle.std.specs.Prelude.{ℕ, ◌+◌, ◌≤◌, List, length, Contains, IfSome}
use Rattle.std.specs.Option.{option_map_or}
use Rattle.gb_base.specs.declared.keys.Key.{Key}
use Rattle.act_model.specs.Receiving.{receipt_at}
use Rattle.act_model.specs.SaleKeys.{earlier_rights}
use Rattle.act_model.specs.declared.items.Item.{Item}
use Rattle.act_model.specs.declared.items.Item.TheVariants as item
use Rattle.act_model.specs.declared.receipts.Receipt.{Receipt}
use Rattle.folio_sections.specs.Waiting.{waiting_unnoticed}
use Rattle.folio_sections.specs.declared.entries.Entry.{Entry}
use Rattle.conflict_queue.specs.ItemKeys.{keys_of_item}
use Rattle.folio_line.specs.FolioLine.{all_rises}
use Rattle.sale_rules.specs.ScratchRoom.{ScratchRoom}

-- The most entries that an item brings at one key, official notices apart: two by the entry of a filing (`most_entered` of
-- entry_rules), and the end of its waiting.
abbrev pub most_brought : ℕ
most_brought = 3

-- the room at a key where filing m may be entered: these, and an official notice for each earlier filing that waits there
-- without one
abbrev pub room_to_enter : ℕ → List Entry → ℕ
room_to_enter m entries = most_brought + length (waiting_unnoticed m entries)

-- what item i needs at one of its keys: a lapse the end of a waiting, an extension its later deadline, an item of a forced
-- sale one entry
abbrev pub room_by_item : ℕ → Item → List Entry → ℕ
room_by_item i (item.Filing f) entries = room_to_enter i entries
room_by_item i (item.Cure m docs) entries = room_to_enter m entries
room_by_item i other entries = 1

-- what receipt i needs at one of its keys; only an item of the journal is settled, so the receipt is there
abbrev pub room_wanted : List Receipt → ℕ → List Entry → ℕ
room_wanted journal i entries = option_map_or (λ r. room_by_item i r.item entries) (receipt_at journal i) 1

-- each of the item's keys has the room that the item needs
abbrev pub HasItsRoom : List Receipt → ℕ → (Key → List Entry) → (Key → ℕ) → Type 0
HasItsRoom journal i at room = (k : Key) → Contains (keys_of_item journal i) k → room_wanted journal i (at k) ≤ room k

-- ---- the scratch

-- A scratch has room for the rights of the folio among the keys of item i, and for the exchanges by which they rise.
pub record IsForFolio (journal : List Receipt) (i folio : ℕ) (at : Key → List Entry) (scratch : ScratchRoom) : Type 0 where
  pub rights : length (earlier_rights journal i folio) ≤ scratch.rights
  pub exchanges : length (all_rises at folio (earlier_rights journal i folio)) ≤ scratch.exchanges

-- the scratch has room for the item: a call to bid and an award compute with the folio's rights, any other item with nothing
abbrev pub IsRoomy : List Receipt → ℕ → (Key → List Entry) → Item → ScratchRoom → Type 0
IsRoomy journal i at (item.OpenBids folio costs) scratch = IsForFolio journal i folio at scratch
IsRoomy journal i at (item.Award folio buyer bid) scratch = IsForFolio journal i folio at scratch
IsRoomy journal i at other scratch = Unit {0}

-- the scratch has room for receipt i
abbrev pub HasItsScratch : List Receipt → ℕ → (Key → List Entry) → ScratchRoom → Type 0
HasItsScratch journal i at scratch = IfSome (receipt_at journal i) (λ r. IsRoomy journal i at r.item scratch)
