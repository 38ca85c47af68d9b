-- The extract of a folio: its parcel, its owners, the filings that wait, and its rights.
-- Why so: docs/DECISIONS.md, "A line for each filing that waits at a title or a live right".
use Rattle.std.specs.Prelude.{ℕ, Bool, true, false, ◌&&◌, if◌then◌else◌, List, [], ◌++◌, codes, flat_map, Option, Some, None, is_none}
use Rattle.std.specs.Fmt.{decimal}
use Rattle.gb_base.specs.Texts.{date_text, euro, right_text}
use Rattle.gb_base.specs.declared.keys.Key.{Key}
use Rattle.gb_base.specs.declared.keys.Key.TheVariants.{Case, Right, Title}
use Rattle.act_model.specs.Acts.{is_in_division_three}
use Rattle.act_model.specs.declared.land.Inventory.{Inventory}
use Rattle.act_model.specs.declared.rights.RightKind.{RightKind}
use Rattle.act_model.specs.declared.rights.RightKind.TheVariants as kind
use Rattle.folio_sections.specs.Cases.{award, is_running}
use Rattle.folio_sections.specs.Rights.{capital, holder, is_full, is_spent}
use Rattle.folio_sections.specs.Titles.{inventory, is_open, owners}
use Rattle.folio_sections.specs.declared.entries.Created.{Created}
use Rattle.folio_sections.specs.declared.entries.Entry.{Entry}
use Rattle.folio_line.specs.FolioRights.{live_rights}
use Rattle.folio_extract.specs.WaitingFilings.{waiting_filings}
use Rattle.folio_line.specs.declared.folio_rights.CreatedRight.{CreatedRight}
use Rattle.folio_extract.specs.declared.waiting.WaitingFiling.{WaitingFiling}

-- ---- the folio

-- the line that names the folio
abbrev pub heading_line : ℕ → List ℕ
heading_line folio = codes "folio " ++ (decimal folio ++ codes "\n")

-- the parcel, where there is one
abbrev pub inventory_line : Option Inventory → List ℕ
inventory_line None = []
inventory_line (Some i) =
    codes "inventory district " ++ (decimal i.district ++ (codes " parcel " ++ (decimal i.parcel ++ (codes "/" ++ (decimal i.sub
    ++ (codes " area " ++ (decimal i.area ++ codes "\n")))))))

-- the owners in the order of naming, where there are some
abbrev pub owners_line : Option (List ℕ) → List ℕ
owners_line None = []
owners_line (Some persons) = codes "owners" ++ (flat_map (λ p. codes " " ++ decimal p) persons ++ codes "\n")

-- the sale note, while a forced sale runs and no award stands in it (ZVG § 19)
abbrev pub sale_line : List Entry → List ℕ
sale_line entries = if is_running entries && is_none (award entries) then codes "sale note\n" else []

-- ---- filings that wait

-- the day of an official notice, if there is one
abbrev pub notice_part : Option ℕ → List ℕ
notice_part None = []
notice_part (Some day) = codes " notice " ++ date_text day

-- a filing that waits at this place
abbrev pub waiting_line : List ℕ → WaitingFiling → List ℕ
waiting_line place w =
    codes "pending " ++ (decimal w.filing ++ (codes " " ++ (place ++ (codes " until " ++ (date_text w.until ++ (notice_part w.notice ++ codes "\n"))))))

-- the filings that wait at this place
abbrev pub waiting_lines : List ℕ → List Entry → List ℕ
waiting_lines place entries = flat_map (waiting_line place) (waiting_filings entries)

-- ---- rights

-- the word for a kind of right
abbrev pub kind_text : RightKind → List ℕ
kind_text kind.PersonalEasement = codes "personal-easement"
kind_text kind.Usufruct = codes "usufruct"
kind_text (kind.Mortgage rate) = codes "mortgage"
kind_text (kind.LandCharge rate) = codes "land-charge"

-- the division of a folio in which rights of this kind stand
abbrev pub division_text : RightKind → List ℕ
division_text k = if is_in_division_three k then codes "III" else codes "II"

-- the interest of a mortgage or a land charge, in hundredths of a percent a year
abbrev pub rate_part : RightKind → List ℕ
rate_part kind.PersonalEasement = []
rate_part kind.Usufruct = []
rate_part (kind.Mortgage rate) = codes " rate " ++ decimal rate
rate_part (kind.LandCharge rate) = codes " rate " ++ decimal rate

-- a right as such, or a priority notice for one (BGB § 883)
abbrev pub form_text : Bool → List ℕ
form_text true = codes "right"
form_text false = codes "notice"

-- an amount, a person, a right or a filing behind a word, where there is one
abbrev pub word_part : {X : Type 0} → List ℕ → (X → List ℕ) → Option X → List ℕ
word_part word text None = []
word_part word text (Some x) = word ++ text x

-- a word, where this holds
abbrev pub word_if : List ℕ → Bool → List ℕ
word_if word false = []
word_if word true = word

-- what holds of some rights only: the filing that the right stands behind, equal rank, a reservation, that it is spent, and the right
-- that it stands ahead of
abbrev pub notes : List Entry → Created → List ℕ
notes entries made =
    word_part (codes " behind ") decimal made.behind ++ (word_if (codes " equal") made.equal ++ (word_part (codes " reserve ") euro made.reserve
    ++ (word_if (codes " spent") (is_spent entries) ++ word_part (codes " ahead-of ") right_text made.ahead_of)))

-- a right, as it stands by the entries at it
abbrev pub right_line : List Entry → CreatedRight → List ℕ
right_line entries x =
    codes "right " ++ (right_text x.id ++ (codes " " ++ (division_text x.made.spec.kind ++ (codes " " ++ (form_text (is_full entries)
    ++ (codes " " ++ (kind_text x.made.spec.kind ++ (word_part (codes " ") euro (capital entries) ++ (rate_part x.made.spec.kind
    ++ (word_part (codes " holder ") decimal (holder entries) ++ (codes " placed " ++ (date_text x.made.placed ++ (notes entries x.made ++ codes "\n")))))))))))))

-- the right, and the filings that wait at it
abbrev pub right_lines : List Entry → CreatedRight → List ℕ
right_lines entries x = right_line entries x ++ waiting_lines (right_text x.id) entries

-- ---- together

-- the extract of a folio
unfoldable pub extract_text : (Key → List Entry) → ℕ → List ℕ
extract_text at folio =
    heading_line folio ++ (inventory_line (inventory (at (Title folio))) ++ (owners_line (owners (at (Title folio))) ++ (sale_line (at (Case folio))
    ++ (waiting_lines (codes "title") (at (Title folio))
    ++ flat_map (λ x. right_lines (at (Right folio x.id)) x) (live_rights at folio)))))

-- the extract of a folio; none where the folio is not open
abbrev pub extract : (Key → List Entry) → ℕ → Option (List ℕ)
extract at folio = if is_open (at (Title folio)) then Some (extract_text at folio) else None
