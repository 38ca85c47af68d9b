-- What an opening list asks: a CSV text whose rows each open a folio for one owner.
use Rattle.std.specs.Prelude.{ℕ, Bool, false, ◌&&◌, if◌then◌else◌, List, [], ◌∷◌, map, codes, bytes_eq, Option, Some, None}
use Rattle.gb_base.specs.Numerals.{number_in}
use Rattle.gb_base.specs.Optional.{◌>>=◌}
use Rattle.act_model.specs.declared.documents.Doc.TheVariants.{Consent}
use Rattle.act_model.specs.declared.documents.Form.TheVariants.{Certified}
use Rattle.act_model.specs.declared.filing_acts.Act.TheVariants.{Open}
use Rattle.act_model.specs.declared.items.Item.{Item}
use Rattle.act_model.specs.declared.items.Item.TheVariants as item
use Rattle.csv.specs.Reading.{default_config, records, strip_bom}
use Rattle.opening_lists.specs.declared.openings.Opening.{Opening}
use Rattle.intake_requests.specs.declared.requests.Request.{Request}
use Rattle.intake_requests.specs.declared.requests.Request.TheVariants.{Refused, Receive}

-- the fields of the header, which is the first record
abbrev pub is_header : List (List ℕ) → Bool
is_header (folio ∷ district ∷ parcel ∷ sub ∷ area ∷ owner ∷ []) =
    bytes_eq folio (codes "folio") && bytes_eq district (codes "district") && bytes_eq parcel (codes "parcel")
    && bytes_eq sub (codes "sub") && bytes_eq area (codes "area") && bytes_eq owner (codes "owner")
is_header fields = false

-- what a row opens: six numbers, each in its range
abbrev pub opening_of : List (List ℕ) → Option Opening
opening_of (folio ∷ district ∷ parcel ∷ sub ∷ area ∷ owner ∷ []) = do
  folio ← number_in 1 4294967295 folio
  district ← number_in 1 65535 district
  parcel ← number_in 1 4294967295 parcel
  sub ← number_in 0 65535 sub
  area ← number_in 1 1000000000 area
  owner ← number_in 1 4294967295 owner
  Some (record { folio = folio; inventory = record { district = district; parcel = parcel; sub = sub; area = area }; owner = owner })
opening_of fields = None

-- the owner applies for the opening, and consents to it in certified form (GBO §§ 13, 19, 29)
abbrev pub filing_for : Opening → Item
filing_for opening = item.Filing (record {
  applicant = opening.owner;
  conditional = false;
  acts = Open opening.folio opening.inventory (opening.owner ∷ []) ∷ [];
  docs = Consent 1 opening.owner Certified ∷ [];
})

-- what is asked for a row that opens this: the clock stamps the filing, whose reference is the folio's number
abbrev pub request_to_open : ℕ → Option Opening → Request
request_to_open sender (Some opening) = Receive None (record { sender = sender; reference = opening.folio }) (filing_for opening)
request_to_open sender None = Refused (codes "malformed row\n")

-- what a row asks
abbrev pub row_request : ℕ → List (List ℕ) → Request
row_request sender fields = request_to_open sender (opening_of fields)

-- what the records of a list ask: its rows, where the header is right
abbrev pub list_requests : ℕ → List (List (List ℕ)) → List Request
list_requests sender [] = []
list_requests sender (first ∷ rows) = if is_header first then map (row_request sender) rows else Refused (codes "malformed header\n") ∷ []

-- what a list of these bytes asks; a byte order mark at its start counts for nothing
unfoldable pub row_requests : ℕ → List ℕ → List Request
row_requests sender bytes = list_requests sender (records default_config (strip_bom bytes))
