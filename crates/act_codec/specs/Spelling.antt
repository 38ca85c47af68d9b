-- Receipts as bytes, a definition a row: each receipt has one spelling.
use Rattle.std.specs.Prelude.{ℕ, Bool, true, false, List, [], ◌∷◌, ◌++◌, length, Option, Some, None}
use Rattle.std.specs.List.{flat_map}
use Rattle.std.specs.Int.{w16, w32, w64, to_be_bytes}
use Rattle.gb_base.specs.RightNo.{RightNo}
use Rattle.gb_base.specs.DayMinute.{DayMinute}
use Rattle.act_model.specs.declared.land.Inventory.{Inventory}
use Rattle.act_model.specs.declared.rights.RightKind.{RightKind}
use Rattle.act_model.specs.declared.rights.RightKind.TheVariants as kind
use Rattle.act_model.specs.declared.rights.RightSpec.{RightSpec}
use Rattle.act_model.specs.declared.filing_acts.Act.{Act}
use Rattle.act_model.specs.declared.filing_acts.Act.TheVariants.{Open, Transfer, Create, NoticeFor, Convert, Assign, Cancel, Exchange, Exercise}
use Rattle.act_model.specs.declared.documents.Form.{Form}
use Rattle.act_model.specs.declared.documents.Form.TheVariants as form
use Rattle.act_model.specs.declared.documents.Doc.{Doc}
use Rattle.act_model.specs.declared.documents.Doc.TheVariants as doc
use Rattle.act_model.specs.declared.sales.Basis.{Basis}
use Rattle.act_model.specs.declared.sales.Basis.TheVariants as basis
use Rattle.act_model.specs.declared.sales.Registration.{Registration}
use Rattle.act_model.specs.declared.sales.Registration.TheVariants as registration
use Rattle.act_model.specs.declared.items.Filing.{Filing}
use Rattle.act_model.specs.declared.items.Item.{Item}
use Rattle.act_model.specs.declared.items.Item.TheVariants as item
use Rattle.act_model.specs.declared.receipts.Receipt.{Receipt}

-- a number of one byte
abbrev pub u8_bytes : ℕ → List ℕ
u8_bytes n = n ∷ []

-- a number of two bytes, the most significant one first
unfoldable pub u16_bytes : ℕ → List ℕ
u16_bytes n = to_be_bytes w16 n

-- a number of four bytes, the most significant one first
unfoldable pub u32_bytes : ℕ → List ℕ
u32_bytes n = to_be_bytes w32 n

-- a number of eight bytes, the most significant one first
unfoldable pub u64_bytes : ℕ → List ℕ
u64_bytes n = to_be_bytes w64 n

-- how many elements there are, and then each element
abbrev pub counted : {X : Type 0} → (X → List ℕ) → List X → List ℕ
counted spelled xs = u8_bytes (length xs) ++ flat_map spelled xs

-- how many owners, and the number of each
abbrev pub owners_bytes : List ℕ → List ℕ
owners_bytes persons = counted u32_bytes persons

-- the receipt and the act of a right
abbrev pub right_bytes : RightNo → List ℕ
right_bytes r = u32_bytes r.receipt ++ u8_bytes r.act

-- the kind of a right, with its rate where it bears interest
abbrev pub kind_bytes : RightKind → List ℕ
kind_bytes kind.PersonalEasement = u8_bytes 1
kind_bytes kind.Usufruct = u8_bytes 2
kind_bytes (kind.Mortgage rate) = u8_bytes 3 ++ u16_bytes rate
kind_bytes (kind.LandCharge rate) = u8_bytes 4 ++ u16_bytes rate

-- a right as an act describes it
abbrev pub spec_bytes : RightSpec → List ℕ
spec_bytes s = kind_bytes s.kind ++ (u64_bytes s.capital ++ (u32_bytes s.holder ++ u8_bytes s.group))

-- a parcel as an opening describes it
abbrev pub inventory_bytes : Inventory → List ℕ
inventory_bytes i = u16_bytes i.district ++ (u32_bytes i.parcel ++ (u16_bytes i.sub ++ u32_bytes i.area))

-- 0, or 1 and the amount of a reservation
abbrev pub reserve_bytes : Option ℕ → List ℕ
reserve_bytes None = u8_bytes 0
reserve_bytes (Some cents) = u8_bytes 1 ++ u64_bytes cents

-- the kind of an act, its folio, and what it says
abbrev pub act_bytes : Act → List ℕ
act_bytes (Open folio inventory owners) = u8_bytes 1 ++ (u32_bytes folio ++ (inventory_bytes inventory ++ owners_bytes owners))
act_bytes (Transfer folio owners) = u8_bytes 2 ++ (u32_bytes folio ++ owners_bytes owners)
act_bytes (Create folio spec reserve) = u8_bytes 3 ++ (u32_bytes folio ++ (spec_bytes spec ++ reserve_bytes reserve))
act_bytes (NoticeFor folio spec) = u8_bytes 4 ++ (u32_bytes folio ++ spec_bytes spec)
act_bytes (Convert folio right) = u8_bytes 5 ++ (u32_bytes folio ++ right_bytes right)
act_bytes (Assign folio right holder) = u8_bytes 6 ++ (u32_bytes folio ++ (right_bytes right ++ u32_bytes holder))
act_bytes (Cancel folio right) = u8_bytes 7 ++ (u32_bytes folio ++ right_bytes right)
act_bytes (Exchange folio recede rise) = u8_bytes 8 ++ (u32_bytes folio ++ (right_bytes recede ++ right_bytes rise))
act_bytes (Exercise folio behind spec) = u8_bytes 9 ++ (u32_bytes folio ++ (right_bytes behind ++ spec_bytes spec))

-- the form of a consent
abbrev pub form_bytes : Form → List ℕ
form_bytes form.Certified = u8_bytes 1
form_bytes form.Plain = u8_bytes 2

-- the kind of a document, its act, and what it says
abbrev pub doc_bytes : Doc → List ℕ
doc_bytes (doc.Consent act person form) = u8_bytes 1 ++ (u8_bytes act ++ (u32_bytes person ++ form_bytes form))
doc_bytes (doc.Agreement act) = u8_bytes 2 ++ u8_bytes act
doc_bytes (doc.TaxClearance act) = u8_bytes 3 ++ u8_bytes act
doc_bytes (doc.ExpiryProof act) = u8_bytes 4 ++ u8_bytes act

-- whether a filing is under a condition
abbrev pub condition_bytes : Bool → List ℕ
condition_bytes false = u8_bytes 0
condition_bytes true = u8_bytes 1

-- a filing: the applicant, the condition, the acts, the documents
abbrev pub filing_bytes : Filing → List ℕ
filing_bytes f = u32_bytes f.applicant ++ (condition_bytes f.conditional ++ (counted act_bytes f.acts ++ counted doc_bytes f.docs))

-- what a seizure rests on
abbrev pub basis_bytes : Basis → List ℕ
basis_bytes (basis.Personal creditor claim) = u8_bytes 1 ++ (u32_bytes creditor ++ u64_bytes claim)
basis_bytes (basis.FromRight right) = u8_bytes 2 ++ right_bytes right

-- what is registered
abbrev pub registration_bytes : Registration → List ℕ
registration_bytes (registration.Advance person amount) = u8_bytes 1 ++ (u32_bytes person ++ u64_bytes amount)
registration_bytes (registration.PublicCharge person amount due) = u8_bytes 2 ++ (u32_bytes person ++ (u64_bytes amount ++ u32_bytes due))
registration_bytes (registration.Arrears right from until) = u8_bytes 3 ++ (right_bytes right ++ (u32_bytes from ++ u32_bytes until))

-- the kind of an item, and what it says
abbrev pub item_bytes : Item → List ℕ
item_bytes (item.Filing filing) = u8_bytes 1 ++ filing_bytes filing
item_bytes (item.Cure filing docs) = u8_bytes 2 ++ (u32_bytes filing ++ counted doc_bytes docs)
item_bytes (item.Lapse filing) = u8_bytes 3 ++ u32_bytes filing
item_bytes (item.Seize folio basis served) = u8_bytes 4 ++ (u32_bytes folio ++ (basis_bytes basis ++ u32_bytes served))
item_bytes (item.Register folio what) = u8_bytes 5 ++ (u32_bytes folio ++ registration_bytes what)
item_bytes (item.OpenBids folio costs) = u8_bytes 6 ++ (u32_bytes folio ++ u64_bytes costs)
item_bytes (item.Award folio buyer bid) = u8_bytes 7 ++ (u32_bytes folio ++ (u32_bytes buyer ++ u64_bytes bid))
item_bytes (item.Distribute folio) = u8_bytes 8 ++ u32_bytes folio
item_bytes (item.Extend filing days) = u8_bytes 9 ++ (u32_bytes filing ++ u16_bytes days)

-- the day and the minute of a stamp
abbrev pub stamp_bytes : DayMinute → List ℕ
stamp_bytes t = u32_bytes t.day ++ u16_bytes t.minute

-- the one spelling of a receipt
abbrev pub spelling : Receipt → List ℕ
spelling r = stamp_bytes r.stamp ++ (u32_bytes r.sender ++ (u64_bytes r.reference ++ item_bytes r.item))

-- the most bytes that a spelling has
abbrev pub longest_spelling : ℕ
longest_spelling = 522
