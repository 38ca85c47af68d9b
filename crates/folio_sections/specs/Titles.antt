-- What is read from the entries at a title.
use Rattle.std.specs.Prelude.{ℕ, Bool, true, false, not, ◌&&◌, if◌then◌else◌, List, [], ◌∷◌, fold, Option, Some, None, is_some}
use Rattle.std.specs.List.{list_any}
use Rattle.act_model.specs.declared.land.Inventory.{Inventory}
use Rattle.folio_sections.specs.Waiting.{notice, before_notice, after_notice}
use Rattle.folio_sections.specs.declared.entries.Entry.{Entry}
use Rattle.folio_sections.specs.declared.entries.What.{What}
use Rattle.folio_sections.specs.declared.entries.What.TheVariants as what

-- a content opens the folio (GBO § 3)
abbrev pub is_opening : What → Bool
is_opening (what.Opened inventory owners) = true
is_opening other = false

-- the folio is open (GBO § 3)
abbrev pub is_open : List Entry → Bool
is_open entries = list_any (λ e. is_opening e.what) entries

-- the parcel after a content: the one that it names, else the one before
abbrev pub inventory_by : Option Inventory → What → Option Inventory
inventory_by before (what.Opened inventory owners) = Some inventory
inventory_by before other = before

-- the parcel that the folio is kept for (GBV § 6)
abbrev pub inventory : List Entry → Option Inventory
inventory entries = fold (λ before e. inventory_by before e.what) None entries

-- the owners after a content: those that it names, else those before
abbrev pub owners_by : Option (List ℕ) → What → Option (List ℕ)
owners_by before (what.Opened inventory owners) = Some owners
owners_by before (what.Owner owners) = Some owners
owners_by before (what.AwardOwner buyer) = Some (buyer ∷ [])
owners_by before other = before

-- the owners (BGB § 925, ZVG § 90)
abbrev pub owners : List Entry → Option (List ℕ)
owners entries = fold (λ before e. owners_by before e.what) None entries

-- a content makes the buyer of an award the owner (ZVG § 90)
abbrev pub is_award_owner : What → Bool
is_award_owner (what.AwardOwner buyer) = true
is_award_owner other = false

-- The owners whom filing m concerns: those of the moment of its official notice, where it stands and no award's owner
-- follows it, else the owners (GBO § 18(2)).
abbrev pub owners_for : ℕ → List Entry → Option (List ℕ)
owners_for m entries =
    if is_some (notice m entries) && not (list_any (λ e. is_award_owner e.what) (after_notice m entries))
    then owners (before_notice m entries) else owners entries
