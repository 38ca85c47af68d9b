-- How keys are put in their places, one after the other.
use Rattle.std.specs.Prelude.{if◌then◌else◌, List, [], ◌∷◌}
use Rattle.std.specs.List.{list_any}
use Rattle.std.specs.Ordering.{is_lt}
use Rattle.gb_base.specs.Keys.{key_cmp, same_key}
use Rattle.gb_base.specs.declared.keys.Key.{Key}

-- the keys with this one put before the first greater one
abbrev pub insert_key : Key → List Key → List Key
insert_key k [] = k ∷ []
insert_key k (j ∷ js) = if is_lt (key_cmp k j) then k ∷ j ∷ js else j ∷ insert_key k js

-- the keys with this one in its place, unless it stands there already
abbrev pub with_key : Key → List Key → List Key
with_key k js = if list_any (λ j. same_key j k) js then js else insert_key k js

-- the keys with each of these in its place, unless it stands there already
abbrev pub with_keys : List Key → List Key → List Key
with_keys [] js = js
with_keys (k ∷ ks) js = with_keys ks (with_key k js)
