-- A part of a value has no longer arrays than the value.
use Rattle.std.proofs.Common.{◌≡◌, ℕ, zero, suc, ◌<◌, ◌≤◌, List, [], ◌∷◌, length, get_or, Option, Some, Ordering, Less, Equal, Greater, refl, ap, arith}
use Rattle.std.specs.Ordering.{match_ordering}
use Rattle.serde_json.specs.Data.{Data, null, boolean, number, string, array, object, Items, Members, no_members, member}
use Rattle.serde_json.specs.Find.{get, get_member, as_array}
use Rattle.json.specs.declared.value.Value.{Value}
use Rattle.act_json.specs.inner.Helpers.{widest, items_widest, members_widest, count_of}
use Rattle.act_json.specs.inner.Values.{view, items_view}

pub count_of-items_view : {A : Type 0} (vs : List (Value A)) → count_of (items_view vs) ≡ length vs
count_of-items_view [] = refl
count_of-items_view (v ∷ vs) = ap suc (count_of-items_view vs)

element_narrow : {A : Type 0} (vs : List (Value A)) (i : ℕ) (d : Value A) → i < length vs → widest (view (get_or vs i d)) ≤ items_widest (items_view vs)
element_narrow [] i d h = absurd (omega arith)
element_narrow (v ∷ vs) zero d h = omega arith
element_narrow (v ∷ vs) (suc i) d h = omega (arith, element_narrow vs i d (omega arith))

-- an element of an array has no longer arrays than the array
pub widest_element : {A : Type 0} (vs : List (Value A)) (i : ℕ) (v : Value A) → i < length vs → v ≡ get_or vs i v → widest (view v) ≤ widest (array (items_view vs))
widest_element vs i v h is = omega (arith, ap (λ x. widest (view x)) is, element_narrow vs i v h)

-- an array has no more elements than the longest array in it, itself included
pub count_in_array : {A : Type 0} (vs : List (Value A)) → length vs ≤ widest (array (items_view vs))
count_in_array vs = omega (arith, count_of-items_view vs)

at_order : (o : Ordering) (k : List ℕ) (e f : Data) (rest : Option Data) (n : ℕ) → match_ordering o rest (Some e) rest ≡ Some f → (rest ≡ Some f → widest f ≤ n) → widest e ≤ n → widest f ≤ n
at_order Less k e f rest n is later here = later is
at_order Equal k e f rest n is later here = let same : e ≡ f = cc in omega (arith, ap widest same)
at_order Greater k e f rest n is later here = later is

member_narrow : (k : List ℕ) (ms : Members) (d : Data) → get_member k ms ≡ Some d → widest d ≤ members_widest ms
member_narrow k no_members d is = absurd (cc)
member_narrow k (member l e ms) d is = at_order _ k e d (get_member k ms) _ is (λ r. omega (arith, member_narrow k ms d r)) (omega arith)

-- a member of an object has no longer arrays than the object
pub widest_member : (k : List ℕ) (whole part : Data) → get k whole ≡ Some part → widest part ≤ widest whole
widest_member k null part is = absurd (cc)
widest_member k (boolean b) part is = absurd (cc)
widest_member k (number n) part is = absurd (cc)
widest_member k (string s) part is = absurd (cc)
widest_member k (array ds) part is = absurd (cc)
widest_member k (object ms) part is = member_narrow k ms part is

-- what a value is as an array has no longer arrays than the value
pub as_array_narrow : (d : Data) (ds : Items) → as_array d ≡ Some ds → widest (array ds) ≤ widest d
as_array_narrow null ds is = absurd (cc)
as_array_narrow (boolean b) ds is = absurd (cc)
as_array_narrow (number n) ds is = absurd (cc)
as_array_narrow (string s) ds is = absurd (cc)
as_array_narrow (array es) ds is = let same : es ≡ ds = cc in omega (arith, ap (λ x. widest (array x)) same)
as_array_narrow (object ms) ds is = absurd (cc)
