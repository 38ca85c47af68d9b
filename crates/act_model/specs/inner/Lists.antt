-- Lists of values under keys, as the indexes of a journal keep them.
use Rattle.std.specs.Prelude.{◌≡◌, ℕ, ◌-◌, ◌≤◌, List, [], ◌++◌, length, Option, Some, None, Vec, vec_len, vec_capacity}
use Rattle.std.specs.declared.cmp.Ordering.{Ordering}
use Rattle.std.specs.BTreeMap.{BTreeMap, get}

-- the values of a list, and none where there is no list
abbrev pub values_in : {X Z : Type 0} → Option (Vec X Z) → List X
values_in None = []
values_in (Some list) = list.items

-- how many values more a list takes without memory
abbrev pub room_in : {X Z : Type 0} → Option (Vec X Z) → ℕ
room_in None = 0
room_in (Some list) = vec_capacity list - vec_len list

-- the values that stand under k
abbrev pub listed : {K X Z : Type 0} → (K → K → Ordering) → BTreeMap K (Vec X Z) → K → List X
listed cmp lists k = values_in (get cmp lists k)

-- how many values more may come under k without memory
abbrev pub room : {K X Z : Type 0} → (K → K → Ordering) → BTreeMap K (Vec X Z) → K → ℕ
room cmp lists k = room_in (get cmp lists k)

-- under each key stand the values that stood there, and nowhere has room become less
pub record Widens {K X Z : Type 0} (cmp : K → K → Ordering) (old new : BTreeMap K (Vec X Z)) : Type 0 where
  pub listed : (k : K) → listed cmp new k ≡ listed cmp old k
  pub room : (k : K) → room cmp old k ≤ room cmp new k

-- there is room under each key k for the values of `more k`
abbrev pub HasRoom : {K X Z : Type 0} → (K → K → Ordering) → BTreeMap K (Vec X Z) → (K → List X) → Type 0
HasRoom cmp lists more = (k : _) → length (more k) ≤ room cmp lists k

-- under each key k the values of `more k` have been added
abbrev pub Adds : {K X Z : Type 0} → (K → K → Ordering) → BTreeMap K (Vec X Z) → BTreeMap K (Vec X Z) → (K → List X) → Type 0
Adds cmp old new more = (k : _) → listed cmp new k ≡ listed cmp old k ++ more k
