-- What a tree of the kit's `json` says, in the words of `serde_json`.
use Rattle.std.specs.Prelude.{ℕ, negsuc, List, Bool, true, ◌&&◌, Option, is_some, unwrap_or, option_and_then}
use Rattle.json.specs.Lex.{tokens}
use Rattle.json.specs.Json.{Json, if_last}
use Rattle.json.specs.Json as json
use Rattle.json.specs.Value as tree
use Rattle.json.specs.declared.value.Value.{Value}
use Rattle.serde_json.specs.Data.{Data, null, boolean, number, negative, string, array, object, Items, no_items, item, Members, no_members, put}
use Rattle.serde_json.specs.Read.{number_of, max_depth}

-- what a value says; a number out of range stands for some number that is not whole
abbrev mutual
  pub said : Json → Data
  said json.null = null
  said (json.boolean b) = boolean b
  said (json.number s) = number (unwrap_or (number_of s) (negative (negsuc 0)))
  said (json.string s) = string s
  said (json.array js) = array (items_said js)
  said (json.object ms) = object (members_said ms no_members)

  pub items_said : json.Items → Items
  items_said json.no_items = no_items
  items_said (json.item j js) = item (said j) (items_said js)

  -- the members go in one after another, so the last value of a name stays
  pub members_said : json.Members → Members → Members
  members_said json.no_members found = found
  members_said (json.member k j ms) found = members_said ms (put k (said j) found)

-- each number in the tree is in range
abbrev mutual
  pub in_range : Json → Bool
  in_range json.null = true
  in_range (json.boolean b) = true
  in_range (json.number s) = is_some (number_of s)
  in_range (json.string s) = true
  in_range (json.array js) = items_in_range js
  in_range (json.object ms) = members_in_range ms

  pub items_in_range : json.Items → Bool
  items_in_range json.no_items = true
  items_in_range (json.item j js) = in_range j && items_in_range js

  pub members_in_range : json.Members → Bool
  members_in_range json.no_members = true
  members_in_range (json.member k j ms) = in_range j && members_in_range ms

-- what a program's tree says
abbrev pub view : {A : Type 0} → Value A → Data
view v = said (tree.value_view v)

-- what a program's list of trees says
abbrev pub items_view : {A : Type 0} → List (Value A) → Items
items_view vs = items_said (tree.items_view vs)

-- the tree that a text is, whether or not the numbers in it are in range
abbrev pub tree_of : List ℕ → Option Json
tree_of text = option_and_then (λ p. if_last p.0 p.1) (json.value max_depth (tokens text))
