-- The line of a class of rights, along which its money is shared (BGB §§ 879 to 881, ZVG § 11).
use Rattle.std.specs.Prelude.{ℕ, ◌+◌, Bool, ◌==◌, ◌&&◌, List, filter, find}
use Rattle.std.specs.Option.{option_map_or}
use Rattle.gb_base.specs.RightNo.{RightNo, same_right}
use Rattle.folio_sections.specs.declared.entries.Entry.{Entry}
use Rattle.folio_line.specs.Exchanges.{counted_exchanges, counted_exercises}
use Rattle.folio_line.specs.FolioRights.{groups_where}
use Rattle.folio_line.specs.FolioSlots.{capital_at, filled_by, is_gone, stands_on_line}
use Rattle.folio_line.specs.declared.exchanges.Exchange.{Exchange}
use Rattle.folio_line.specs.declared.folio_rights.CreatedRight.{CreatedRight}
use Rattle.rank_slots.specs.Filled.{Filled}
use Rattle.rank_slots.specs.declared.places.Knot.{Knot}
use Rattle.auction_classes.specs.Claims.{class_of_right, interest_of, rights_of_class}
use Rattle.auction_classes.specs.Sales.{Sale, read}

-- the exchanges that count, both of whose rights are of the class
abbrev pub exchanges_of_class : Sale → ℕ → List Exchange
exchanges_of_class s class =
    filter (λ x. class_of_right s x.recede == class && class_of_right s x.rise == class) (counted_exchanges (read s) s.folio)

-- the exercised reservations that count, both of whose rights are of the class
abbrev pub exercises_of_class : Sale → ℕ → List Knot
exercises_of_class s class =
    filter (λ k. class_of_right s k.reserved == class && class_of_right s k.exercised == class) (counted_exercises (read s) s.folio)

-- the right with these entries stands on the line: it is of the class, and live or receding in one of the exchanges of the class
abbrev pub stands_in_class : Sale → ℕ → RightNo → List Entry → Bool
stands_in_class s class id entries = class_of_right s id == class && stands_on_line (exchanges_of_class s class) id entries

-- the rights on the line, by groups
abbrev pub groups_of_class : Sale → ℕ → List (List CreatedRight)
groups_of_class s class = groups_where (stands_in_class s class) (read s) s.folio

-- what a right claims on the line: interest and capital, or its capital alone where it is gone
abbrev pub claim_in_class : Sale → ℕ → RightNo → ℕ
claim_in_class s class id =
    option_map_or (interest_of s) (find (λ x. same_right x.id id) (rights_of_class s class)) 0 + capital_at (read s) s.folio id

-- the line of class 4 or 6
abbrev pub line_of_class : Sale → ℕ → Filled
line_of_class s class =
    filled_by (claim_in_class s class) (is_gone (read s) s.folio) (groups_of_class s class) (exchanges_of_class s class) (exercises_of_class s class)
