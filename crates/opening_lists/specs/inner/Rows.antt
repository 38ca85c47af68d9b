-- How far an opening list is read.
use Rattle.std.specs.Prelude.{ℕ, Bool, false, ◌&&◌, List, [], ◌∷◌, map, codes, bytes_eq, Option, Some, None, option_and_then}
use Rattle.csv.specs.Records.{field_at}
use Rattle.gb_base.specs.Numerals.{number_in}
use Rattle.gb_base.specs.Optional.{◌>>=◌}
use Rattle.opening_lists.specs.OpeningLists.{row_request}
use Rattle.opening_lists.specs.declared.lists.Stage.{Stage}
use Rattle.opening_lists.specs.declared.lists.Stage.TheVariants.{WrongHeader, Rows, End}
use Rattle.opening_lists.specs.declared.openings.Opening.{Opening}
use Rattle.intake_requests.specs.declared.requests.Request.{Request}
use Rattle.intake_requests.specs.declared.requests.Request.TheVariants.{Refused}

-- there is such a field, and it says this
abbrev pub says : Option (List ℕ) → List ℕ → Bool
says None text = false
says (Some field) text = bytes_eq field text

-- the first six fields name the columns
abbrev pub names_columns : List (List ℕ) → Bool
names_columns fields =
    says (field_at fields 0) (codes "folio") && says (field_at fields 1) (codes "district") && says (field_at fields 2) (codes "parcel")
    && says (field_at fields 3) (codes "sub") && says (field_at fields 4) (codes "area") && says (field_at fields 5) (codes "owner")

-- the number in a field that is there
abbrev pub number_at : ℕ → ℕ → List (List ℕ) → ℕ → Option ℕ
number_at low high fields index = option_and_then (number_in low high) (field_at fields index)

-- what the first six fields of a row open
abbrev pub opening_at : List (List ℕ) → Option Opening
opening_at fields = do
  folio ← number_at 1 4294967295 fields 0
  district ← number_at 1 65535 fields 1
  parcel ← number_at 1 4294967295 fields 2
  sub ← number_at 0 65535 fields 3
  area ← number_at 1 1000000000 fields 4
  owner ← number_at 1 4294967295 fields 5
  Some (record { folio = folio; inventory = record { district = district; parcel = parcel; sub = sub; area = area }; owner = owner })

-- what is still asked at a stage of the list, where these records are left
abbrev pub requests_at : Stage → ℕ → List (List (List ℕ)) → List Request
requests_at WrongHeader sender records = Refused (codes "malformed header\n") ∷ []
requests_at Rows sender records = map (row_request sender) records
requests_at End sender records = []
