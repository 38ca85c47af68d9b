-- The rights of a folio whose parts are held, whatever parts these are.
-- Why so: docs/DECISIONS.md, "The extract is read from the register alone".
use Rattle.std.specs.Prelude.{ℕ, Bool, List, filter, flat_map, map}
use Rattle.std.specs.List.{range_with_len}
use Rattle.gb_base.specs.Limits.{most_acts}
use Rattle.gb_base.specs.RightNo.{RightNo}
use Rattle.gb_base.specs.declared.keys.Key.{Key}
use Rattle.gb_base.specs.declared.keys.Key.TheVariants.{Right}
use Rattle.act_model.specs.Touches.{new_right}

-- the greatest number that a receipt may have
abbrev pub last_number : ℕ
last_number = 4294967295

-- the numbers that a receipt may have
unfoldable pub receipt_numbers : List ℕ
receipt_numbers = range_with_len 1 last_number

-- the rights that filing m may create, by act
abbrev pub rights_of_filing : ℕ → List RightNo
rights_of_filing m = map (new_right m) (range_with_len 1 most_acts)

-- the rights that there may be, by receipt and act
abbrev pub right_numbers : List RightNo
right_numbers = flat_map rights_of_filing receipt_numbers

-- the rights of a folio whose parts are held, by receipt and act
abbrev pub held_rights : (Key → Bool) → ℕ → List RightNo
held_rights holds folio = filter (λ id. holds (Right folio id)) right_numbers
