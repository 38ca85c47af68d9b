-- The line of a folio: groups of rights of equal rank in order, each with what its members claim, and the exchanges among them.
-- Why so: docs/DECISIONS.md, "The line takes live rights and those that recede".
use Rattle.std.specs.Prelude.{ℕ, Bool, false, true, not, ◌||◌, List, [], ◌∷◌, flat_map, map}
use Rattle.std.specs.List.{list_any}
use Rattle.std.specs.Option.{option_map_or}
use Rattle.gb_base.specs.RightNo.{RightNo, same_right}
use Rattle.gb_base.specs.declared.keys.Key.{Key}
use Rattle.gb_base.specs.declared.keys.Key.TheVariants.{Right}
use Rattle.folio_sections.specs.Rights.{capital, is_live}
use Rattle.folio_sections.specs.declared.entries.Entry.{Entry}
use Rattle.rank_slots.specs.Filled.{Filled}
use Rattle.rank_slots.specs.declared.places.Knot.{Knot}
use Rattle.rank_slots.specs.declared.places.Place.{Place}
use Rattle.rank_slots.specs.declared.places.Swap.{Swap}
use Rattle.folio_line.specs.Exchanges.{counted_exchanges}
use Rattle.folio_line.specs.FolioRights.{groups_where}
use Rattle.folio_line.specs.declared.exchanges.Exchange.{Exchange}
use Rattle.folio_line.specs.declared.folio_rights.CreatedRight.{CreatedRight}

-- ---- any line

-- the place of a right with its claim, dropped at the end where it is gone; it joins the one before it, or begins a group
abbrev pub place_on_line : (RightNo → ℕ) → (RightNo → Bool) → Bool → CreatedRight → Place
place_on_line claims gone with_previous x = record { right = x.id; claim = claims x.id; with_previous = with_previous; dropped = gone x.id }

-- The places of a group, which share one rank (BGB § 879, GBO § 45(1), (3)): they stand one after another, and each but the first
-- joins the one before it.
abbrev pub group_places : (RightNo → ℕ) → (RightNo → Bool) → List CreatedRight → List Place
group_places claims gone [] = []
group_places claims gone (x ∷ xs) = place_on_line claims gone false x ∷ map (place_on_line claims gone true) xs

-- an exchange on the line
abbrev pub swap_of : Exchange → Swap
swap_of x = record { recede = x.recede; rise = x.rise }

-- What a line is filled with: the groups in order, with what each right claims and which rights are gone, the exchanges, and the
-- exercised reservations.
abbrev pub filled_by : (RightNo → ℕ) → (RightNo → Bool) → List (List CreatedRight) → List Exchange → List Knot → Filled
filled_by claims gone groups exchanges knots =
    record { places = flat_map (group_places claims gone) groups; swaps = map swap_of exchanges; knots = knots }

-- ---- the line of a folio

-- the capital of a right, in cents; each right that was entered has one
abbrev pub capital_at : (Key → List Entry) → ℕ → RightNo → ℕ
capital_at at folio id = option_map_or (λ c. c) (capital (at (Right folio id))) 0

-- a right is no longer live
abbrev pub is_gone : (Key → List Entry) → ℕ → RightNo → Bool
is_gone at folio id = not (is_live (at (Right folio id)))

-- the right recedes in one of these exchanges
abbrev pub recedes : List Exchange → RightNo → Bool
recedes exchanges id = list_any (λ x. same_right x.recede id) exchanges

-- the right with these entries has a place on the line of these exchanges: it is live, or it recedes in one of them
abbrev pub stands_on_line : List Exchange → RightNo → List Entry → Bool
stands_on_line exchanges id entries = is_live entries || recedes exchanges id

-- The line of a folio with its capitals: the rights that stand on it, and the exchanges that count. An exercise moves no cents of it.
abbrev pub folio_filled : (Key → List Entry) → ℕ → Filled
folio_filled at folio =
    filled_by (capital_at at folio) (is_gone at folio) (groups_where (stands_on_line (counted_exchanges at folio)) at folio)
    (counted_exchanges at folio) []
