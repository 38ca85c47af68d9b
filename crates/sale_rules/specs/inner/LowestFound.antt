-- When the lowest bid of a sale is computed, and in what.
use Rattle.std.specs.Prelude.{◌≡◌, ℕ, ◌≤◌, List, Some, length}
use Rattle.gb_base.specs.declared.keys.Key.{Key}
use Rattle.act_model.specs.Receiving.{item_at}
use Rattle.act_model.specs.SaleKeys.{earlier_rights}
use Rattle.act_model.specs.declared.items.Item.TheVariants as item
use Rattle.rank_slots.specs.Filled.{SlotsState}
use Rattle.folio_sections.specs.declared.entries.Entry.{Entry}
use Rattle.folio_line.specs.FolioLine.{all_rises}
use Rattle.auction_classes.specs.SaleClaims.{ClaimsState}
use Rattle.auction_classes.specs.Sales.{Sale}
use Rattle.sale_rules.specs.declared.sale_views.SaleView.{SaleView}

-- the item of the sale calls to bid
abbrev pub IsCall : Sale → Type 0
IsCall s = (costs : ℕ) × (item_at s.journal s.item ≡ Some (item.OpenBids s.folio costs))

-- the item of the sale is an award
abbrev pub IsAward : Sale → Type 0
IsAward s = (buyer : ℕ) × (bid : ℕ) × (item_at s.journal s.item ≡ Some (item.Award s.folio buyer bid))

-- The claims have room for the rights of the folio that were filed before the item, and for the exchanges among them, and the slots
-- have as much.
pub record HaveRoom {P : Type 0} (at : P → Key → List Entry) (v : SaleView P) (claims : ClaimsState) (slots : SlotsState) : Type 0 where
  pub rights : length (earlier_rights v.journal.now.receipts v.item v.folio) ≤ claims.right_room
  pub exchanges : length (all_rises (at v.parts.now) v.folio (earlier_rights v.journal.now.receipts v.item v.folio)) ≤ claims.exchange_room
  pub places : claims.right_room ≤ slots.place_room
  pub swaps : claims.exchange_room ≤ slots.swap_room

-- Claims and slots keep their room and their memory.
pub record KeepRoom (claims0 claims1 : ClaimsState) (slots0 slots1 : SlotsState) : Type 0 where
  pub right_room : claims1.right_room ≡ claims0.right_room
  pub exchange_room : claims1.exchange_room ≡ claims0.exchange_room
  pub place_room : slots1.place_room ≡ slots0.place_room
  pub swap_room : slots1.swap_room ≡ slots0.swap_room
  pub claims_memory : claims1.capacity ≡ claims0.capacity
  pub slots_memory : slots1.capacity ≡ slots0.capacity
