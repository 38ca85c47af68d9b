-- What a line is, by the tree of its text.
use Rattle.std.proofs.Common.{◌≡◌, ◌≤◌, ◌+◌, ℕ, List, length, Bool, true, Some, None, option_and_then, ap, sym, ◌∙◌}
use Rattle.std.specs.Prelude.{if◌then◌else◌}
use Rattle.std.specs.Str.{is_utf8}
use Rattle.json.specs.Json.{Json}
use Rattle.serde_json.specs.Read.{read, of_json}
use Rattle.act_json.specs.Lines.{json_of}
use Rattle.act_json.specs.inner.Helpers.{widest}
use Rattle.act_json.specs.inner.Values.{said, in_range, tree_of}
use Rattle.act_json.proofs.Said.{where_fits, of_json-said}
use Rattle.act_json.proofs.WidestRead.{widest_read}

read_is : (text : List ℕ) (j : Json) (fits : Bool) → tree_of text ≡ Some j → fits ≡ in_range j → read text ≡ where_fits fits (said j)
read_is text j fits is test = ap (option_and_then of_json) is ∙ of_json-said j ∙ ap (λ b. where_fits b (said j)) (sym test)

-- the line is what the tree says where each number is in range, and no JSON where one is not
pub json_is : (line text : List ℕ) (j : Json) (fits : Bool) → text ≡ line → is_utf8 line ≡ true → tree_of text ≡ Some j → fits ≡ in_range j → json_of line ≡ where_fits fits (said j)
json_is line text j fits same utf8 is test = ap (λ b. if b then read line else None) utf8 ∙ ap read (sym same) ∙ read_is text j fits is test

-- no array in the value has more elements than the line has bytes and one more
pub narrow_is : (line text : List ℕ) (j : Json) (fits : Bool) → text ≡ line → tree_of text ≡ Some j → fits ≡ in_range j → fits ≡ true → widest (said j) ≤ length line + 1
narrow_is line text j fits same is test all = widest_read line (said j) (ap read (sym same) ∙ read_is text j fits is test ∙ ap (λ b. where_fits b (said j)) all)
