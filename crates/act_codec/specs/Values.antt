-- What the types of a receipt hold by themselves: which values the definitions of its spelling are meant for.
use Rattle.std.specs.Prelude.{ℕ, ◌<◌, ◌≤◌, ◌^◌, List, length, IsTrue, Option, Some, None}
use Rattle.std.specs.List.{AllByRecursion}
use Rattle.gb_base.specs.Limits.{last_day, minutes_of_day, most_acts, most_cents}
use Rattle.gb_base.specs.RightNo.{RightNo}
use Rattle.gb_base.specs.DayMinute.{DayMinute, IsStampDay}
use Rattle.act_model.specs.Limits.{most_docs, most_owners}
use Rattle.act_model.specs.Persons.{AreOwners}
use Rattle.act_model.specs.WellFormed.{well_formed}
use Rattle.act_model.specs.declared.land.Inventory.{Inventory}
use Rattle.act_model.specs.declared.rights.RightKind.{RightKind}
use Rattle.act_model.specs.declared.rights.RightKind.TheVariants as kind
use Rattle.act_model.specs.declared.rights.RightSpec.{RightSpec}
use Rattle.act_model.specs.declared.filing_acts.Act.{Act}
use Rattle.act_model.specs.declared.filing_acts.Act.TheVariants.{Open, Transfer, Create, NoticeFor, Convert, Assign, Cancel, Exchange, Exercise}
use Rattle.act_model.specs.declared.documents.Doc.{Doc}
use Rattle.act_model.specs.declared.documents.Doc.TheVariants as doc
use Rattle.act_model.specs.declared.sales.Basis.{Basis}
use Rattle.act_model.specs.declared.sales.Basis.TheVariants as basis
use Rattle.act_model.specs.declared.sales.Registration.{Registration}
use Rattle.act_model.specs.declared.sales.Registration.TheVariants as registration
use Rattle.act_model.specs.declared.items.Filing.{Filing}
use Rattle.act_model.specs.declared.items.Item.{Item}
use Rattle.act_model.specs.declared.items.Item.TheVariants as item
use Rattle.act_model.specs.declared.receipts.Receipt.{Receipt}

-- the number of a folio, a person or a receipt
abbrev pub IsNumber : ℕ → Type 0
IsNumber n = (0 < n) × (n < 2 ^ 32)

-- an amount
abbrev pub IsCents : ℕ → Type 0
IsCents cents = cents ≤ most_cents

-- a day
abbrev pub IsDay : ℕ → Type 0
IsDay day = day ≤ last_day

-- a right's number
abbrev pub IsRight : RightNo → Type 0
IsRight r = IsNumber r.receipt × (1 ≤ r.act) × (r.act ≤ most_acts)

-- one to four different persons
abbrev pub IsOwners : List ℕ → Type 0
IsOwners persons = (length persons ≤ most_owners) × AreOwners persons × AllByRecursion IsNumber persons

-- a parcel
abbrev pub IsInventory : Inventory → Type 0
IsInventory i = (i.district < 2 ^ 16) × (i.parcel < 2 ^ 32) × (i.sub < 2 ^ 16) × (i.area < 2 ^ 32)

-- a kind of right, with any rate
abbrev pub IsKind : RightKind → Type 0
IsKind kind.PersonalEasement = Unit {0}
IsKind kind.Usufruct = Unit {0}
IsKind (kind.Mortgage rate) = rate < 2 ^ 16
IsKind (kind.LandCharge rate) = rate < 2 ^ 16

-- a right as an act may describe it
abbrev pub IsSpec : RightSpec → Type 0
IsSpec s = IsKind s.kind × IsCents s.capital × IsNumber s.holder × (s.group < 2 ^ 8)

-- no reservation, or one of an amount
abbrev pub IsReserve : Option ℕ → Type 0
IsReserve None = Unit {0}
IsReserve (Some cents) = IsCents cents

-- an act
abbrev pub IsAct : Act → Type 0
IsAct (Open folio inventory owners) = IsNumber folio × IsInventory inventory × IsOwners owners
IsAct (Transfer folio owners) = IsNumber folio × IsOwners owners
IsAct (Create folio spec reserve) = IsNumber folio × IsSpec spec × IsReserve reserve
IsAct (NoticeFor folio spec) = IsNumber folio × IsSpec spec
IsAct (Convert folio right) = IsNumber folio × IsRight right
IsAct (Assign folio right holder) = IsNumber folio × IsRight right × IsNumber holder
IsAct (Cancel folio right) = IsNumber folio × IsRight right
IsAct (Exchange folio recede rise) = IsNumber folio × IsRight recede × IsRight rise
IsAct (Exercise folio behind spec) = IsNumber folio × IsRight behind × IsSpec spec

-- a document of any act
abbrev pub IsDoc : Doc → Type 0
IsDoc (doc.Consent act person form) = (act < 2 ^ 8) × IsNumber person
IsDoc (doc.Agreement act) = act < 2 ^ 8
IsDoc (doc.TaxClearance act) = act < 2 ^ 8
IsDoc (doc.ExpiryProof act) = act < 2 ^ 8

-- at most 32 documents
abbrev pub AreDocs : List Doc → Type 0
AreDocs docs = (length docs ≤ most_docs) × AllByRecursion IsDoc docs

-- at most eight acts
abbrev pub AreActs : List Act → Type 0
AreActs acts = (length acts ≤ most_acts) × AllByRecursion IsAct acts

-- a filing
abbrev pub IsFiling : Filing → Type 0
IsFiling f = IsNumber f.applicant × AreActs f.acts × AreDocs f.docs

-- what a seizure may rest on
abbrev pub IsBasis : Basis → Type 0
IsBasis (basis.Personal creditor claim) = IsNumber creditor × IsCents claim
IsBasis (basis.FromRight right) = IsRight right

-- what may be registered
abbrev pub IsRegistration : Registration → Type 0
IsRegistration (registration.Advance person amount) = IsNumber person × IsCents amount
IsRegistration (registration.PublicCharge person amount due) = IsNumber person × IsCents amount × IsDay due
IsRegistration (registration.Arrears right from until) = IsRight right × IsDay from × IsDay until

-- an item
abbrev pub IsItem : Item → Type 0
IsItem (item.Filing filing) = IsFiling filing
IsItem (item.Cure filing docs) = IsNumber filing × AreDocs docs
IsItem (item.Lapse filing) = IsNumber filing
IsItem (item.Seize folio basis served) = IsNumber folio × IsBasis basis × IsDay served
IsItem (item.Register folio registered) = IsNumber folio × IsRegistration registered
IsItem (item.OpenBids folio costs) = IsNumber folio × IsCents costs
IsItem (item.Award folio buyer bid) = IsNumber folio × IsNumber buyer × IsCents bid
IsItem (item.Distribute folio) = IsNumber folio
IsItem (item.Extend filing days) = IsNumber filing × (days < 2 ^ 16)

-- a day on which receipts are stamped, and a minute of the day
abbrev pub IsStamp : DayMinute → Type 0
IsStamp t = IsStampDay t.day × (t.minute < minutes_of_day)

-- what the type of a receipt holds by itself
abbrev pub IsReceiptValue : Receipt → Type 0
IsReceiptValue r = IsStamp r.stamp × (r.sender < 2 ^ 32) × (r.reference < 2 ^ 64) × IsItem r.item

-- a receipt of a well-formed item
abbrev pub IsReceipt : Receipt → Type 0
IsReceipt r = IsReceiptValue r × IsTrue (well_formed r.item)
