-- Names and sizes of JSON values.
use Rattle.std.specs.Prelude.{ℕ, suc, max, List, Bool, bytes_eq}
use Rattle.std.specs.List.{list_any}
use Rattle.std.specs.Borrow.{Bor}
use Rattle.serde_json.specs.Data.{Data, null, boolean, number, string, array, object, Items, no_items, item, Members, no_members, member}

-- whether a program's list of texts has this one
abbrev pub among : List (Bor (List ℕ)) → List ℕ → Bool
among names name = list_any (λ known. bytes_eq name known.now) names

-- how many elements an array has
abbrev pub count_of : Items → ℕ
count_of no_items = 0
count_of (item d ds) = suc (count_of ds)

-- how many elements the longest array has that is anywhere in the value
abbrev mutual
  pub widest : Data → ℕ
  widest null = 0
  widest (boolean b) = 0
  widest (number n) = 0
  widest (string s) = 0
  widest (array ds) = max (count_of ds) (items_widest ds)
  widest (object ms) = members_widest ms

  pub items_widest : Items → ℕ
  items_widest no_items = 0
  items_widest (item d ds) = max (widest d) (items_widest ds)

  pub members_widest : Members → ℕ
  members_widest no_members = 0
  members_widest (member k d ms) = max (widest d) (members_widest ms)
