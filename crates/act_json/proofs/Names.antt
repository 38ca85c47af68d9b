-- Which names the members of an object have.
use Rattle.std.proofs.Common.{◌≡◌, ℕ, Bool, List, [], ◌∷◌, map, Bor, Vec, Global, sym, bytes_eq, ◌||◌, ◌∙◌, refl, ap, arith, ◌<◌, ◌≤◌, length, decimal, ◌+◌, ◌++◌, length-append}
use Rattle.std.proofs.lemmas.Fmt.{length-decimal-le}
use Rattle.std.specs.List.{list_any, list_all}
use Rattle.std.specs.Prelude.{if◌then◌else◌, Ok, Err, codes}
use Rattle.std.proofs.lemmas.List.Folds.{list_any-append}
use Rattle.std.proofs.lemmas.List.{append-nil}
use Rattle.json.specs.Value.{members_view}
use Rattle.json.specs.declared.value.Value.{Value, Object}
use Rattle.json.proofs.Trees.{view-Object}
use Rattle.serde_json.specs.Data.{object, no_members}
use Rattle.act_json.specs.inner.Helpers.{among}
use Rattle.act_json.specs.inner.Values.{said, members_said, view}
use Rattle.act_json.specs.Reading.{are_named, below, only}
use Rattle.act_json.proofs.Said.{all_named, names_said}

abbrev texts : List (Bor (List ℕ)) → List (List ℕ)
texts names = map (λ (known : Bor (List ℕ)). known.now) names

among_is : (names : List (Bor (List ℕ))) (name : List ℕ) → list_any (bytes_eq name) (texts names) ≡ among names name
among_is [] name = refl
among_is (known ∷ names) name = ap (λ b. bytes_eq name known.now || b) (among_is names name)

among_both : (names others : List (Bor (List ℕ))) (name : List ℕ) → list_any (bytes_eq name) (texts names ++ texts others) ≡ (among names name || among others name)
among_both names others name =
    let apart = list_any-append (bytes_eq name) (texts names) (texts others) in
    let first = among_is names name in
    let second = among_is others name in
    (cc)

named_by_list : {A : Type 0} (names others : List (Bor (List ℕ))) (members : List (Bor (List ℕ) × Value A))
    → all_named (texts names ++ texts others) (members_view members) ≡ list_all (λ (m : Bor (List ℕ) × Value A). among names m.0.now || among others m.0.now) members
named_by_list names others [] = refl
named_by_list names others (m ∷ ms) = rw (among_both names others m.0.now, named_by_list names others ms) refl

-- all members have a name of one of the two lists
abbrev pub are_all_among : {A : Type 0} (names others : List (Bor (List ℕ))) → List (Bor (List ℕ) × Value A) → Bool
are_all_among names others members = list_all (λ m. among names m.0.now || among others m.0.now) members

-- the test of the names in what an object says is the test of the names in its tree
pub only_of_list : (v : Value Global) (members : Vec (Bor (List ℕ) × Value Global) Global) (names others : List (Bor (List ℕ))) (b : Bool)
    → v ≡ Object members → b ≡ are_all_among names others members.items → (if b then Ok tt else Err (codes "*")) ≡ only (texts names ++ texts others) (view v)
only_of_list v members names others b is test =
    let named : are_named (texts names ++ texts others) (members_said (members_view members.items) no_members) ≡ b =
    names_said (texts names ++ texts others) (members_view members.items) ∙ named_by_list names others members.items ∙ sym test in
    let seen : view v ≡ object (members_said (members_view members.items) no_members) = ap view is ∙ ap said (view-Object members) in
    rw (seen, named) refl

pub no_more : (names : List (List ℕ)) → names ++ [] ≡ names
no_more names = append-nil names

-- an index below 100,000 has at most five digits
pub digits_of_index : (index : ℕ) → index < 100000 → length (decimal index) ≤ 5
digits_of_index index few = length-decimal-le 5 index (omega arith) (omega arith) (omega arith)

pub length_below : (name path : List ℕ) → length (below name path) ≤ length name + 1 + length path
length_below name [] = omega arith
length_below name (b ∷ path) = simp length-append (omega arith)
