-- What is left of some rights when the land is awarded.
use Rattle.std.specs.Prelude.{ℕ, ◌≤◌, Bool, if◌then◌else◌, List, [], ◌∷◌, IsTrue}
use Rattle.gb_base.specs.Limits.{most_cents}
use Rattle.gb_base.specs.RightNo.{RightNo}
use Rattle.gb_base.specs.declared.keys.Key.{Key}
use Rattle.gb_base.specs.declared.keys.Key.TheVariants.{Right}
use Rattle.act_model.specs.SaleKeys.{earlier_rights, keys_of_sale}
use Rattle.act_model.specs.declared.receipts.Receipt.{Receipt}
use Rattle.folio_sections.specs.Entries.{entry_by}
use Rattle.folio_sections.specs.Rights.{is_live}
use Rattle.folio_sections.specs.declared.entries.Entry.{Entry}
use Rattle.folio_sections.specs.declared.entries.What.{What}
use Rattle.auction_classes.specs.LowestBid.{remaining}
use Rattle.auction_classes.specs.SaleClaims.{SaleClaims}
use Rattle.sale_rules.specs.SaleEntries.{left_with}
use Rattle.sale_rules.specs.declared.rights_left.RightsLeft.{RightsLeft}

-- what an award by this item leaves of a right; nothing is entered at one that is not live
abbrev pub left_at : List Receipt → ℕ → ℕ → SaleClaims → ℕ → (Key → List Entry) → RightNo → List Entry
left_at journal item folio claimed cover at id =
    if is_live (at (Right folio id)) then entry_by journal item (Right folio id) (left_with (remaining claimed cover id)) ∷ [] else []

-- The right's part is held, with room for an entry, and what remains of the right is an amount.
pub record CanBeLeft (claimed : SaleClaims) (cover folio : ℕ) (holds : Key → Bool) (room : Key → ℕ) (id : RightNo) : Type 0 where
  pub held : IsTrue (holds (Right folio id))
  pub has_room : 1 ≤ room (Right folio id)
  pub within : remaining claimed cover id ≤ most_cents

-- the keys of the sale in which the land is awarded
abbrev pub keys_of_award : RightsLeft → List Key
keys_of_award left = keys_of_sale left.journal.now.receipts left.item left.folio

-- the rights of the folio that were filed before the award
abbrev pub rights_before : RightsLeft → List RightNo
rights_before left = earlier_rights left.journal.now.receipts left.item left.folio

-- an entry by the award
abbrev pub entry_of_award : RightsLeft → Key → What → Entry
entry_of_award left key content = entry_by left.journal.now.receipts left.item key content

-- what the award leaves of a right
abbrev pub left_by : RightsLeft → (Key → List Entry) → RightNo → List Entry
left_by left at = left_at left.journal.now.receipts left.item left.folio left.claims.now.claimed left.cover at

-- what the award leaves of a right can be entered
abbrev pub CanBeEntered : RightsLeft → (Key → Bool) → (Key → ℕ) → RightNo → Type 0
CanBeEntered left holds room = CanBeLeft left.claims.now.claimed left.cover left.folio holds room
