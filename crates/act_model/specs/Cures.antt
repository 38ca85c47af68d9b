-- The cures of a filing (GBO § 18).
use Rattle.std.specs.Prelude.{ℕ, Bool, false, ◌&&◌, ◌==◌, nat_lt, if◌then◌else◌, List, filter_map, Option, Some, None}
use Rattle.std.specs.List.{enumerate_from}
use Rattle.act_model.specs.declared.items.Item.{Item}
use Rattle.act_model.specs.declared.items.Item.TheVariants as item
use Rattle.act_model.specs.declared.receipts.Receipt.{Receipt}

-- the item is a cure that names filing m
abbrev pub cures : ℕ → Item → Bool
cures m (item.Cure filing docs) = filing == m
cures m other = false

-- the number of a numbered receipt, where it is a cure of filing m and comes after it
abbrev pub cure_of : ℕ → ℕ × Receipt → Option ℕ
cure_of m numbered = if nat_lt m numbered.0 && cures m numbered.1.item then Some numbered.0 else None

-- the numbers of the cures that name filing m and come after it, ascending
abbrev pub cures_of : List Receipt → ℕ → List ℕ
cures_of journal m = filter_map (cure_of m) (enumerate_from 1 journal)
