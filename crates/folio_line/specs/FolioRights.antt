-- The rights of a folio in order of filing, group and act.
-- Why so: docs/DECISIONS.md, "The rights of a line stand by filing and group".
use Rattle.std.specs.Prelude.{ℕ, Bool, false, ◌==◌, ◌&&◌, if◌then◌else◌, List, filter, filter_map, flat_map, map, Option, Some, None, option_map}
use Rattle.std.specs.List.{range_with_len}
use Rattle.gb_base.specs.RightNo.{RightNo}
use Rattle.gb_base.specs.declared.keys.Key.{Key}
use Rattle.gb_base.specs.declared.keys.Key.TheVariants.{Right}
use Rattle.act_model.specs.Limits.{most_groups}
use Rattle.folio_sections.specs.HeldRights.{receipt_numbers, rights_of_filing}
use Rattle.folio_sections.specs.Rights.{created, is_live}
use Rattle.folio_sections.specs.declared.entries.Entry.{Entry}
use Rattle.folio_line.specs.declared.folio_rights.CreatedRight.{CreatedRight}

-- the right of this number in the folio as it was created, where the test holds of it and of the entries at it
abbrev pub right_where : (RightNo → List Entry → Bool) → (Key → List Entry) → ℕ → RightNo → Option CreatedRight
right_where holds at folio id =
    option_map (λ made. record { id = id; made = made }) (if holds id (at (Right folio id)) then created (at (Right folio id)) else None)

-- the rights of filing m, as they were created, of which the test holds, by act
abbrev pub rights_of : (RightNo → List Entry → Bool) → (Key → List Entry) → ℕ → ℕ → List CreatedRight
rights_of holds at folio m = filter_map (right_where holds at folio) (rights_of_filing m)

-- the right is of this group
abbrev pub has_group : ℕ → CreatedRight → Bool
has_group group x = x.made.spec.group == group

-- these rights in their groups; a group may be empty
abbrev pub in_groups : List CreatedRight → List (List CreatedRight)
in_groups rights = map (λ group. filter (has_group group) rights) (range_with_len 1 most_groups)

-- the groups of equal rank of a folio, with the rights of which the test holds, in order of filing and group
-- (BGB § 879, GBO § 45)
abbrev pub groups_where : (RightNo → List Entry → Bool) → (Key → List Entry) → ℕ → List (List CreatedRight)
groups_where holds at folio = flat_map (λ m. in_groups (rights_of holds at folio m)) receipt_numbers

-- these rights by group
abbrev pub by_group : List CreatedRight → List CreatedRight
by_group rights = flat_map (λ group. filter (has_group group) rights) (range_with_len 1 most_groups)

-- the rights of a folio of which the test holds, by filing, group and act
abbrev pub rights_where : (RightNo → List Entry → Bool) → (Key → List Entry) → ℕ → List CreatedRight
rights_where holds at folio = flat_map (λ m. by_group (rights_of holds at folio m)) receipt_numbers

-- the right with these entries is live
abbrev pub is_live_with : RightNo → List Entry → Bool
is_live_with id entries = is_live entries

-- the rights that are live in the folio
abbrev pub live_rights : (Key → List Entry) → ℕ → List CreatedRight
live_rights at folio = rights_where is_live_with at folio

-- the rights that are live in the folio, by filing and act
abbrev pub live_by_act : (Key → List Entry) → ℕ → List CreatedRight
live_by_act at folio = flat_map (rights_of is_live_with at folio) receipt_numbers

-- rights of one filing and group have one place (GBO § 45(1), (3))
abbrev pub has_same_place : CreatedRight → CreatedRight → Bool
has_same_place x y = x.id.receipt == y.id.receipt && x.made.spec.group == y.made.spec.group

-- whether a right joins the place of the one before it, if there is one
abbrev pub joins_place : Option CreatedRight → CreatedRight → Bool
joins_place None x = false
joins_place (Some before) x = has_same_place before x
