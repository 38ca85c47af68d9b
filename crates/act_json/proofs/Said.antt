-- What a tree says is what `serde_json` reads, and what is found in the tree is found in what it says.
use Rattle.std.proofs.Common.{◌≡◌, ℕ, negsuc, Global, List, Bool, true, false, cond, ◌&&◌, Option, Some, None, is_some, option_map, option_and_then, Ordering, Less, Equal, Greater, Bor, bytes_eq, refl, sym, ap, ◌∙◌, true≢false}
use Rattle.std.specs.Prelude.{if◌then◌else◌, unwrap_or}
use Rattle.std.specs.Option.{option_or}
use Rattle.std.specs.List.{list_any}
use Rattle.std.specs.Cmp.Lexicographic.{slice_cmp}
use Rattle.std.specs.Ordering.{nat_cmp, is_eq, match_ordering}
use Rattle.std.proofs.lemmas.Map.Text.{is_eq-slice_cmp}
use Rattle.std.proofs.lemmas.Slice.Eq.{bytes_eq-Decides}
use Rattle.json.specs.Json as json
use Rattle.json.specs.Json.{Json}
use Rattle.json.specs.Find.{later_or}
use Rattle.json.specs.Find as tree
use Rattle.json.specs.Value.{value_view}
use Rattle.json.specs.declared.value.Value.{Value}
use Rattle.serde_json.specs.Data.{Data, Num, number, negative, array, object, Items, item, Members, no_members, member, put}
use Rattle.serde_json.specs.Find.{get, get_member, as_str, as_bool}
use Rattle.serde_json.specs.Read.{number_of, of_json, of_items, of_members}
use Rattle.serde_json.proofs.Views.{get_member-put, get_member-put_other}
use Rattle.act_json.specs.Reading.{are_named}
use Rattle.act_json.specs.inner.Values.{said, items_said, members_said, in_range, items_in_range, members_in_range}

-- ---- the whole value

-- x, where it is in range
abbrev pub where_fits : {A : Type 0} → Bool → A → Option A
where_fits b x = if b then Some x else None

number_fits : (o : Option Num) (d : Num) → option_map number o ≡ where_fits (is_some o) (number (unwrap_or o d))
number_fits None d = refl
number_fits (Some n) d = refl

mapped : {A B : Type 0} (f : A → B) (b : Bool) (x : A) → option_map f (where_fits b x) ≡ where_fits b (f x)
mapped f true x = refl
mapped f false x = refl

both_fit : (b c : Bool) (d : Data) (ds : Items) → option_and_then (λ e. option_map (item e) (where_fits c ds)) (where_fits b d) ≡ where_fits (b && c) (item d ds)
both_fit true true d ds = refl
both_fit true false d ds = refl
both_fit false c d ds = refl

first_fits : (b c : Bool) (d : Data) (f : Data → Option Members) (ms : Members) → f d ≡ where_fits c ms → option_and_then f (where_fits b d) ≡ where_fits (b && c) ms
first_fits true c d f ms is = is
first_fits false c d f ms is = refl

mutual
  pub of_json-said : (j : Json) → of_json j ≡ where_fits (in_range j) (said j)
  of_json-said json.null = refl
  of_json-said (json.boolean b) = refl
  of_json-said (json.number s) = number_fits (number_of s) (negative (negsuc 0))
  of_json-said (json.string s) = refl
  of_json-said (json.array js) = ap (option_map array) (of_items-said js) ∙ mapped array (items_in_range js) (items_said js)
  of_json-said (json.object ms) = ap (option_map object) (of_members-said ms no_members) ∙ mapped object (members_in_range ms) (members_said ms no_members)

  of_items-said : (js : json.Items) → of_items js ≡ where_fits (items_in_range js) (items_said js)
  of_items-said json.no_items = refl
  of_items-said (json.item j js) = rw (of_json-said j, of_items-said js) (both_fit (in_range j) (items_in_range js) (said j) (items_said js))

  of_members-said : (ms : json.Members) (found : Members) → of_members ms found ≡ where_fits (members_in_range ms) (members_said ms found)
  of_members-said json.no_members found = refl
  of_members-said (json.member k j ms) found =
      ap (option_and_then (λ d. of_members ms (put k d found))) (of_json-said j)
      ∙ first_fits (in_range j) (members_in_range ms) (said j) (λ d. of_members ms (put k d found)) _ (of_members-said ms (put k (said j) found))

-- ---- what is found in it

pub as_str_said : (j : Json) → tree.as_str j ≡ as_str (said j)
as_str_said json.null = refl
as_str_said (json.boolean b) = refl
as_str_said (json.number s) = refl
as_str_said (json.string s) = refl
as_str_said (json.array js) = refl
as_str_said (json.object ms) = refl

pub as_bool_said : (j : Json) → tree.as_bool j ≡ as_bool (said j)
as_bool_said json.null = refl
as_bool_said (json.boolean b) = refl
as_bool_said (json.number s) = refl
as_bool_said (json.string s) = refl
as_bool_said (json.array js) = refl
as_bool_said (json.object ms) = refl

-- what was put under a name is found there, and the other members stay
found_at : (b : Bool) (name k : List ℕ) (d : Data) (found : Members) → bytes_eq k name ≡ b → get_member name (put k d found) ≡ cond b (Some d) (get_member name found)
found_at true name k d found is = let same : k ≡ name = (bytes_eq-Decides k name).0 is in ap (λ n. get_member n (put k d found)) (sym same) ∙ get_member-put k d found
found_at false name k d found is = get_member-put_other name k d found (λ same. true≢false (sym ((bytes_eq-Decides k name).1 (sym same)) ∙ is))

put_first : (b : Bool) (j : Json) (later : Option Json) (before : Option Data) → option_or (option_map said later) (cond b (Some (said j)) before) ≡ option_or (option_map said (later_or later (cond b (Some j) None))) before
put_first true j None before = refl
put_first false j None before = refl
put_first b j (Some k) before = refl

member_said : (name : List ℕ) (ms : json.Members) (found : Members) → get_member name (members_said ms found) ≡ option_or (option_map said (tree.get_member name ms)) (get_member name found)
member_said name json.no_members found = refl
member_said name (json.member k j ms) found =
    member_said name ms (put k (said j) found)
    ∙ ap (option_or (option_map said (tree.get_member name ms))) (found_at _ name k (said j) found refl)
    ∙ put_first (bytes_eq k name) j (tree.get_member name ms) (get_member name found)

alone : (o : Option Data) → option_or o None ≡ o
alone None = refl
alone (Some d) = refl

-- the member of a name in a tree says what the member of that name is in what the tree says
pub get_said : (name : List ℕ) (j : Json) → option_map said (tree.get name j) ≡ get name (said j)
get_said name json.null = refl
get_said name (json.boolean b) = refl
get_said name (json.number s) = refl
get_said name (json.string s) = refl
get_said name (json.array js) = refl
get_said name (json.object ms) = sym (member_said name ms no_members ∙ alone _)

-- ---- the names of the members

one_named : (b c d : Bool) → (b && (c && d)) ≡ (c && (b && d))
one_named true c d = refl
one_named false true d = refl
one_named false false d = refl

twice_named : (b c : Bool) → (b && c) ≡ (b && (b && c))
twice_named true c = refl
twice_named false c = refl

named_at : (o : Ordering) (names : List (List ℕ)) (k l : List ℕ) (d e : Data) (ms : Members) → slice_cmp nat_cmp k l ≡ o → are_named names (put k d ms) ≡ (list_any (bytes_eq k) names && are_named names ms)
    → are_named names (match_ordering o (member k d (member l e ms)) (member l d ms) (member l e (put k d ms))) ≡ (list_any (bytes_eq k) names && are_named names (member l e ms))
named_at Less names k l d e ms is rest = refl
named_at Equal names k l d e ms is rest =
    let same : k ≡ l = (bytes_eq-Decides k l).0 (sym (is_eq-slice_cmp k l) ∙ ap is_eq is) in
    rw same (twice_named (list_any (bytes_eq l) names) (are_named names ms))
named_at Greater names k l d e ms is rest = ap (λ b. list_any (bytes_eq l) names && b) rest ∙ one_named (list_any (bytes_eq l) names) (list_any (bytes_eq k) names) (are_named names ms)

named_put : (names : List (List ℕ)) (k : List ℕ) (d : Data) (ms : Members) → are_named names (put k d ms) ≡ (list_any (bytes_eq k) names && are_named names ms)
named_put names k d no_members = refl
named_put names k d (member l e ms) = named_at _ names k l d e ms refl (named_put names k d ms)

-- all members of a tree have one of these names
abbrev pub all_named : List (List ℕ) → json.Members → Bool
all_named names json.no_members = true
all_named names (json.member k j ms) = list_any (bytes_eq k) names && all_named names ms

put_behind : (b c d : Bool) → (c && (b && d)) ≡ ((b && c) && d)
put_behind true c d = refl
put_behind false true d = refl
put_behind false false d = refl

named_said : (names : List (List ℕ)) (ms : json.Members) (found : Members) → are_named names (members_said ms found) ≡ (all_named names ms && are_named names found)
named_said names json.no_members found = refl
named_said names (json.member k j ms) found =
    named_said names ms (put k (said j) found) ∙ ap (λ b. all_named names ms && b) (named_put names k (said j) found)
    ∙ put_behind (list_any (bytes_eq k) names) (all_named names ms) (are_named names found)

and_true : (b : Bool) → (b && true) ≡ b
and_true true = refl
and_true false = refl

-- the members in what an object says have the names of the members in its tree
pub names_said : (names : List (List ℕ)) (ms : json.Members) → are_named names (members_said ms no_members) ≡ all_named names ms
names_said names ms = named_said names ms no_members ∙ and_true _

-- what a part says that was found
pub said_found : (r : Option (Bor (Value Global))) → option_map (λ v. said (value_view v.now)) r ≡ option_map said (option_map (λ v. value_view v.now) r)
said_found None = refl
said_found (Some v) = refl
