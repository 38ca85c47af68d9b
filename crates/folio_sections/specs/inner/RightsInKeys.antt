-- The rights that keys name.
use Rattle.std.specs.Prelude.{ℕ, Bool, ◌&&◌, if◌then◌else◌, List, Option, Some, None}
use Rattle.std.specs.BTreeMap.Range.{entries_between}
use Rattle.std.specs.declared.ops.Bound.TheVariants.{Included}
use Rattle.gb_base.specs.Keys.{key_cmp}
use Rattle.gb_base.specs.Limits.{is_between, most_acts}
use Rattle.gb_base.specs.RightNo.{RightNo}
use Rattle.gb_base.specs.declared.keys.Key.{Key}
use Rattle.gb_base.specs.declared.keys.Key.TheVariants.{Right}
use Rattle.folio_sections.specs.HeldRights.{last_number}

-- there may be a right of this number
abbrev pub is_right_number : RightNo → Bool
is_right_number id = is_between 1 last_number id.receipt && is_between 1 most_acts id.act

-- the right of a key, where it is of one
abbrev pub right_in : Key → Option RightNo
right_in (Right folio id) = if is_right_number id then Some id else None
right_in other = None

-- the entries of an index whose keys lie between these two
abbrev pub entries_from_to : Key → Key → List (Key × ℕ) → List (Key × ℕ)
entries_from_to first last entries = entries_between key_cmp (Included first) (Included last) entries
