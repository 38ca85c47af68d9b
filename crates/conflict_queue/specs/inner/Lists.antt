-- Lists of keys that items share.
use Rattle.std.specs.Prelude.{ℕ, ◌<◌, List, [], map, length, slice_get, All, Vec}
use Rattle.std.specs.Option.{option_map_or}
use Rattle.std.specs.declared.alloc.Global.{Global}
use Rattle.gb_base.specs.declared.keys.Key.{Key}

-- the list of this number
abbrev pub list_at : List (Vec Key Global) → ℕ → List Key
list_at lists l = option_map_or (λ list. list.items) (slice_get lists l) []

-- the lists of these numbers
abbrev pub lists_at : List (Vec Key Global) → List ℕ → List (List Key)
lists_at lists numbers = map (list_at lists) numbers

-- each of these numbers is the number of a list
abbrev pub AreListed : List (Vec Key Global) → List ℕ → Type 0
AreListed lists numbers = All (λ l. l < length lists) numbers
