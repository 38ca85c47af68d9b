-- Reading from left to right, part by part: a value and the bytes behind it, or none. What is promised of reading does not
-- rest on these definitions: it is said by the spelling alone.
use Rattle.std.specs.Prelude.{◌≡◌, ◌<◌, ◌^◌, ◌++◌, ℕ, zero, suc, Bool, true, false, ◌&&◌, ◌==◌, nat_lt, nat_le, if◌then◌else◌, List, [], ◌∷◌, length, take, drop, Option, Some, None}
use Rattle.std.specs.Int.{Width, w16, w32, w64, byte_len, from_be_bytes}
use Rattle.gb_base.specs.Limits.{first_stamp_day, is_between, last_day, last_stamp_day, minutes_of_day, most_acts, most_cents}
use Rattle.gb_base.specs.Optional.{◌>>=◌}
use Rattle.gb_base.specs.RightNo.{RightNo}
use Rattle.gb_base.specs.DayMinute.{DayMinute}
use Rattle.act_model.specs.declared.land.Inventory.{Inventory}
use Rattle.act_model.specs.declared.rights.RightKind.{RightKind}
use Rattle.act_model.specs.declared.rights.RightKind.TheVariants as kind
use Rattle.act_model.specs.declared.rights.RightSpec.{RightSpec}
use Rattle.act_model.specs.declared.filing_acts.Act.{Act}
use Rattle.act_model.specs.declared.filing_acts.Act.TheVariants.{Open, Transfer, Create, NoticeFor, Convert, Assign, Cancel, Exchange, Exercise}
use Rattle.act_model.specs.declared.documents.Form.{Form}
use Rattle.act_model.specs.declared.documents.Form.TheVariants as form
use Rattle.act_model.specs.declared.documents.Doc.{Doc}
use Rattle.act_model.specs.declared.documents.Doc.TheVariants as doc
use Rattle.act_model.specs.declared.sales.Basis.{Basis}
use Rattle.act_model.specs.declared.sales.Basis.TheVariants as basis
use Rattle.act_model.specs.declared.sales.Registration.{Registration}
use Rattle.act_model.specs.declared.sales.Registration.TheVariants as registration
use Rattle.act_model.specs.declared.items.Filing.{Filing}
use Rattle.act_model.specs.declared.items.Item.{Item}
use Rattle.act_model.specs.declared.items.Item.TheVariants as item
use Rattle.act_model.specs.declared.receipts.Receipt.{Receipt}
use Rattle.act_model.specs.Limits.{most_docs, most_owners}
use Rattle.act_model.specs.Persons.{is_distinct}
use Rattle.act_model.specs.WellFormed.{well_formed}
use Rattle.act_codec.specs.Spelling.{u32_bytes, act_bytes, doc_bytes}
use Rattle.act_codec.specs.Values.{IsNumber, IsAct, IsDoc}

-- A reader that gave this result, and left these bytes, did what this reading does.
abbrev pub Gives : {X : Type 0} → Option X → List ℕ → Option (X × List ℕ) → Type 0
Gives (Some x) left read = read ≡ Some (x, left)
Gives None left read = read ≡ None

-- any value of its type
abbrev pub IsAny : {X : Type 0} → X → Type 0
IsAny x = Unit {0}

-- Where a reader gave a value, it found the value's spelling before the bytes that are left.
abbrev pub Found : {X : Type 0} → Option X → List ℕ → List ℕ → (X → List ℕ) → (X → Type 0) → Type 0
Found (Some x) old new spelled IsX = (old ≡ spelled x ++ new) × IsX x
Found None old new spelled IsX = Unit {0}

-- Where a reader gave a value whose tag had been read before, tag and bytes are its spelling before the bytes that are left.
abbrev pub FoundTagged : {X : Type 0} → ℕ → Option X → List ℕ → List ℕ → (X → List ℕ) → (X → Type 0) → Type 0
FoundTagged tag (Some x) old new spelled IsX = (tag ∷ old ≡ spelled x ++ new) × IsX x
FoundTagged tag None old new spelled IsX = Unit {0}

-- where a reader gave an act whose tag and folio had been read before, these and its bytes are the act's spelling
abbrev pub FoundAct : ℕ → ℕ → Option Act → List ℕ → List ℕ → Type 0
FoundAct tag folio (Some act) old new = IsNumber folio → (tag ∷ u32_bytes folio ++ old ≡ act_bytes act ++ new) × IsAct act
FoundAct tag folio None old new = Unit {0}

-- where a reader gave a document whose tag and act had been read before, these and its bytes are the document's spelling
abbrev pub FoundDoc : ℕ → ℕ → Option Doc → List ℕ → List ℕ → Type 0
FoundDoc tag act (Some doc) old new = act < 2 ^ 8 → (tag ∷ act ∷ old ≡ doc_bytes doc ++ new) × IsDoc doc
FoundDoc tag act None old new = Unit {0}

-- a number of one byte
abbrev pub read_u8 : List ℕ → Option (ℕ × List ℕ)
read_u8 [] = None
read_u8 (b ∷ bytes) = Some (b, bytes)

-- a number of so many bytes
unfoldable pub read_number : Width → List ℕ → Option (ℕ × List ℕ)
read_number w bytes = if nat_lt (length bytes) (byte_len w) then None else Some (from_be_bytes w (take (byte_len w) bytes), drop (byte_len w) bytes)

-- the number of a folio, a person or a receipt
unfoldable pub read_id : List ℕ → Option (ℕ × List ℕ)
read_id bytes = do
  n ← read_number w32 bytes
  if n.0 == 0 then None else Some n

-- a day
unfoldable pub read_day : List ℕ → Option (ℕ × List ℕ)
read_day bytes = do
  n ← read_number w32 bytes
  if nat_le n.0 last_day then Some n else None

-- an amount
unfoldable pub read_cents : List ℕ → Option (ℕ × List ℕ)
read_cents bytes = do
  n ← read_number w64 bytes
  if nat_le n.0 most_cents then Some n else None

-- a right's number
unfoldable pub read_right : List ℕ → Option (RightNo × List ℕ)
read_right bytes = do
  receipt ← read_id bytes
  act ← read_u8 receipt.1
  if is_between 1 most_acts act.0 then Some (record { receipt = receipt.0; act = act.0 }, act.1) else None

-- a kind of right by its first byte
abbrev pub kind_by : ℕ → List ℕ → Option (RightKind × List ℕ)
kind_by tag bytes =
    if tag == 1 then Some (kind.PersonalEasement, bytes)
    else if tag == 2 then Some (kind.Usufruct, bytes)
    else if tag == 3 then (read_number w16 bytes >>= λ rate. Some (kind.Mortgage rate.0, rate.1))
    else if tag == 4 then (read_number w16 bytes >>= λ rate. Some (kind.LandCharge rate.0, rate.1))
    else None

-- a kind of right
unfoldable pub read_kind : List ℕ → Option (RightKind × List ℕ)
read_kind bytes = do
  tag ← read_u8 bytes
  kind_by tag.0 tag.1

-- a right as an act describes it
unfoldable pub read_spec : List ℕ → Option (RightSpec × List ℕ)
read_spec bytes = do
  kind ← read_kind bytes
  capital ← read_cents kind.1
  holder ← read_id capital.1
  group ← read_u8 holder.1
  Some (record { kind = kind.0; capital = capital.0; holder = holder.0; group = group.0 }, group.1)

-- a parcel
unfoldable pub read_inventory : List ℕ → Option (Inventory × List ℕ)
read_inventory bytes = do
  district ← read_number w16 bytes
  parcel ← read_number w32 district.1
  sub ← read_number w16 parcel.1
  area ← read_number w32 sub.1
  Some (record { district = district.0; parcel = parcel.0; sub = sub.0; area = area.0 }, area.1)

-- a reservation by its first byte
abbrev pub reserve_by : ℕ → List ℕ → Option (Option ℕ × List ℕ)
reserve_by tag bytes =
    if tag == 0 then Some (None, bytes)
    else if tag == 1 then (read_cents bytes >>= λ cents. Some (Some cents.0, cents.1))
    else None

-- a reservation, or none
unfoldable pub read_reserve : List ℕ → Option (Option ℕ × List ℕ)
read_reserve bytes = do
  tag ← read_u8 bytes
  reserve_by tag.0 tag.1

-- a given number of parts, one after another
abbrev pub read_times : {X : Type 0} → (List ℕ → Option (X × List ℕ)) → ℕ → List ℕ → Option (List X × List ℕ)
read_times part_at zero bytes = Some ([], bytes)
read_times part_at (suc n) bytes = part_at bytes >>= λ x. read_times part_at n x.1 >>= λ xs. Some (x.0 ∷ xs.0, xs.1)

-- a count, which may be no more than given, and then that many parts
abbrev pub read_counted : {X : Type 0} → ℕ → (List ℕ → Option (X × List ℕ)) → List ℕ → Option (List X × List ℕ)
read_counted limit part_at bytes = read_u8 bytes >>= λ count. if nat_le count.0 limit then read_times part_at count.0 count.1 else None

-- one to four different persons
unfoldable pub read_owners : List ℕ → Option (List ℕ × List ℕ)
read_owners bytes = do
  persons ← read_counted most_owners read_id bytes
  if nat_lt 0 (length persons.0) && is_distinct persons.0 then Some persons else None

-- an opening of this folio
unfoldable pub read_open : ℕ → List ℕ → Option (Act × List ℕ)
read_open folio bytes = do
  inventory ← read_inventory bytes
  owners ← read_owners inventory.1
  Some (Open folio inventory.0 owners.0, owners.1)

-- a transfer of this folio
unfoldable pub read_transfer : ℕ → List ℕ → Option (Act × List ℕ)
read_transfer folio bytes = do
  owners ← read_owners bytes
  Some (Transfer folio owners.0, owners.1)

-- a right that is created in this folio
unfoldable pub read_create : ℕ → List ℕ → Option (Act × List ℕ)
read_create folio bytes = do
  spec ← read_spec bytes
  reserve ← read_reserve spec.1
  Some (Create folio spec.0 reserve.0, reserve.1)

-- a priority notice in this folio
unfoldable pub read_notice : ℕ → List ℕ → Option (Act × List ℕ)
read_notice folio bytes = do
  spec ← read_spec bytes
  Some (NoticeFor folio spec.0, spec.1)

-- a conversion in this folio
unfoldable pub read_convert : ℕ → List ℕ → Option (Act × List ℕ)
read_convert folio bytes = do
  right ← read_right bytes
  Some (Convert folio right.0, right.1)

-- an assignment in this folio
unfoldable pub read_assign : ℕ → List ℕ → Option (Act × List ℕ)
read_assign folio bytes = do
  right ← read_right bytes
  holder ← read_id right.1
  Some (Assign folio right.0 holder.0, holder.1)

-- a cancellation in this folio
unfoldable pub read_cancel : ℕ → List ℕ → Option (Act × List ℕ)
read_cancel folio bytes = do
  right ← read_right bytes
  Some (Cancel folio right.0, right.1)

-- an exchange of ranks in this folio
unfoldable pub read_exchange : ℕ → List ℕ → Option (Act × List ℕ)
read_exchange folio bytes = do
  recede ← read_right bytes
  rise ← read_right recede.1
  Some (Exchange folio recede.0 rise.0, rise.1)

-- a right in the rank of a reservation in this folio
unfoldable pub read_exercise : ℕ → List ℕ → Option (Act × List ℕ)
read_exercise folio bytes = do
  behind ← read_right bytes
  spec ← read_spec behind.1
  Some (Exercise folio behind.0 spec.0, spec.1)

-- an act of this folio by its first byte
abbrev pub act_by : ℕ → ℕ → List ℕ → Option (Act × List ℕ)
act_by tag folio bytes =
    if tag == 1 then read_open folio bytes
    else if tag == 2 then read_transfer folio bytes
    else if tag == 3 then read_create folio bytes
    else if tag == 4 then read_notice folio bytes
    else if tag == 5 then read_convert folio bytes
    else if tag == 6 then read_assign folio bytes
    else if tag == 7 then read_cancel folio bytes
    else if tag == 8 then read_exchange folio bytes
    else if tag == 9 then read_exercise folio bytes
    else None

-- an act
unfoldable pub read_act : List ℕ → Option (Act × List ℕ)
read_act bytes = do
  tag ← read_u8 bytes
  folio ← read_id tag.1
  act_by tag.0 folio.0 folio.1

-- a form by its byte
abbrev pub form_by : ℕ → List ℕ → Option (Form × List ℕ)
form_by tag bytes =
    if tag == 1 then Some (form.Certified, bytes)
    else if tag == 2 then Some (form.Plain, bytes)
    else None

-- the form of a consent
unfoldable pub read_form : List ℕ → Option (Form × List ℕ)
read_form bytes = do
  tag ← read_u8 bytes
  form_by tag.0 tag.1

-- a consent for this act
unfoldable pub read_consent : ℕ → List ℕ → Option (Doc × List ℕ)
read_consent act bytes = do
  person ← read_id bytes
  form ← read_form person.1
  Some (doc.Consent act person.0 form.0, form.1)

-- a document for this act by its first byte
abbrev pub doc_by : ℕ → ℕ → List ℕ → Option (Doc × List ℕ)
doc_by tag act bytes =
    if tag == 1 then read_consent act bytes
    else if tag == 2 then Some (doc.Agreement act, bytes)
    else if tag == 3 then Some (doc.TaxClearance act, bytes)
    else if tag == 4 then Some (doc.ExpiryProof act, bytes)
    else None

-- a document
unfoldable pub read_doc : List ℕ → Option (Doc × List ℕ)
read_doc bytes = do
  tag ← read_u8 bytes
  act ← read_u8 tag.1
  doc_by tag.0 act.0 act.1

-- a condition by its byte
abbrev pub condition_by : ℕ → List ℕ → Option (Bool × List ℕ)
condition_by tag bytes =
    if tag == 0 then Some (false, bytes)
    else if tag == 1 then Some (true, bytes)
    else None

-- whether a filing is under a condition
unfoldable pub read_condition : List ℕ → Option (Bool × List ℕ)
read_condition bytes = do
  tag ← read_u8 bytes
  condition_by tag.0 tag.1

-- a filing
unfoldable pub read_filing : List ℕ → Option (Filing × List ℕ)
read_filing bytes = do
  applicant ← read_id bytes
  conditional ← read_condition applicant.1
  acts ← read_counted most_acts read_act conditional.1
  docs ← read_counted most_docs read_doc acts.1
  Some (record { applicant = applicant.0; conditional = conditional.0; acts = acts.0; docs = docs.0 }, docs.1)

-- a personal claim
unfoldable pub read_personal : List ℕ → Option (Basis × List ℕ)
read_personal bytes = do
  creditor ← read_id bytes
  claim ← read_cents creditor.1
  Some (basis.Personal creditor.0 claim.0, claim.1)

-- a right that a seizure rests on
unfoldable pub read_from_right : List ℕ → Option (Basis × List ℕ)
read_from_right bytes = do
  right ← read_right bytes
  Some (basis.FromRight right.0, right.1)

-- what a seizure rests on by its first byte
abbrev pub basis_by : ℕ → List ℕ → Option (Basis × List ℕ)
basis_by tag bytes =
    if tag == 1 then read_personal bytes
    else if tag == 2 then read_from_right bytes
    else None

-- what a seizure rests on
unfoldable pub read_basis : List ℕ → Option (Basis × List ℕ)
read_basis bytes = do
  tag ← read_u8 bytes
  basis_by tag.0 tag.1

-- an advance
unfoldable pub read_advance : List ℕ → Option (Registration × List ℕ)
read_advance bytes = do
  person ← read_id bytes
  amount ← read_cents person.1
  Some (registration.Advance person.0 amount.0, amount.1)

-- a public charge
unfoldable pub read_charge : List ℕ → Option (Registration × List ℕ)
read_charge bytes = do
  person ← read_id bytes
  amount ← read_cents person.1
  due ← read_day amount.1
  Some (registration.PublicCharge person.0 amount.0 due.0, due.1)

-- arrears of a right
unfoldable pub read_arrears : List ℕ → Option (Registration × List ℕ)
read_arrears bytes = do
  right ← read_right bytes
  from ← read_day right.1
  until ← read_day from.1
  Some (registration.Arrears right.0 from.0 until.0, until.1)

-- what is registered by its first byte
abbrev pub registration_by : ℕ → List ℕ → Option (Registration × List ℕ)
registration_by tag bytes =
    if tag == 1 then read_advance bytes
    else if tag == 2 then read_charge bytes
    else if tag == 3 then read_arrears bytes
    else None

-- what is registered
unfoldable pub read_registration : List ℕ → Option (Registration × List ℕ)
read_registration bytes = do
  tag ← read_u8 bytes
  registration_by tag.0 tag.1

-- an item that is a filing
unfoldable pub read_filing_item : List ℕ → Option (Item × List ℕ)
read_filing_item bytes = do
  filing ← read_filing bytes
  Some (item.Filing filing.0, filing.1)

-- a cure
unfoldable pub read_cure : List ℕ → Option (Item × List ℕ)
read_cure bytes = do
  filing ← read_id bytes
  docs ← read_counted most_docs read_doc filing.1
  Some (item.Cure filing.0 docs.0, docs.1)

-- a lapse
unfoldable pub read_lapse : List ℕ → Option (Item × List ℕ)
read_lapse bytes = do
  filing ← read_id bytes
  Some (item.Lapse filing.0, filing.1)

-- a seizure
unfoldable pub read_seize : List ℕ → Option (Item × List ℕ)
read_seize bytes = do
  folio ← read_id bytes
  basis ← read_basis folio.1
  served ← read_day basis.1
  Some (item.Seize folio.0 basis.0 served.0, served.1)

-- a registration
unfoldable pub read_register : List ℕ → Option (Item × List ℕ)
read_register bytes = do
  folio ← read_id bytes
  what ← read_registration folio.1
  Some (item.Register folio.0 what.0, what.1)

-- a call to bid
unfoldable pub read_open_bids : List ℕ → Option (Item × List ℕ)
read_open_bids bytes = do
  folio ← read_id bytes
  costs ← read_cents folio.1
  Some (item.OpenBids folio.0 costs.0, costs.1)

-- an award
unfoldable pub read_award : List ℕ → Option (Item × List ℕ)
read_award bytes = do
  folio ← read_id bytes
  buyer ← read_id folio.1
  bid ← read_cents buyer.1
  Some (item.Award folio.0 buyer.0 bid.0, bid.1)

-- a distribution
unfoldable pub read_distribute : List ℕ → Option (Item × List ℕ)
read_distribute bytes = do
  folio ← read_id bytes
  Some (item.Distribute folio.0, folio.1)

-- an extension
unfoldable pub read_extend : List ℕ → Option (Item × List ℕ)
read_extend bytes = do
  filing ← read_id bytes
  days ← read_number w16 filing.1
  Some (item.Extend filing.0 days.0, days.1)

-- an item by its first byte
abbrev pub item_by : ℕ → List ℕ → Option (Item × List ℕ)
item_by tag bytes =
    if tag == 1 then read_filing_item bytes
    else if tag == 2 then read_cure bytes
    else if tag == 3 then read_lapse bytes
    else if tag == 4 then read_seize bytes
    else if tag == 5 then read_register bytes
    else if tag == 6 then read_open_bids bytes
    else if tag == 7 then read_award bytes
    else if tag == 8 then read_distribute bytes
    else if tag == 9 then read_extend bytes
    else None

-- an item
unfoldable pub read_item : List ℕ → Option (Item × List ℕ)
read_item bytes = do
  tag ← read_u8 bytes
  item_by tag.0 tag.1

-- a stamp
unfoldable pub read_stamp : List ℕ → Option (DayMinute × List ℕ)
read_stamp bytes = do
  day ← read_day bytes
  minute ← read_number w16 day.1
  if is_between first_stamp_day last_stamp_day day.0 && nat_lt minute.0 minutes_of_day then Some (record { day = day.0; minute = minute.0 }, minute.1) else None

-- a receipt
unfoldable pub read_receipt : List ℕ → Option (Receipt × List ℕ)
read_receipt bytes = do
  stamp ← read_stamp bytes
  sender ← read_number w32 stamp.1
  reference ← read_number w64 sender.1
  item ← read_item reference.1
  Some (record { stamp = stamp.0; sender = sender.0; reference = reference.0; item = item.0 }, item.1)

-- the receipt that all of the bytes are, where its item is well formed
unfoldable pub read_whole : List ℕ → Option Receipt
read_whole bytes = do
  receipt ← read_receipt bytes
  if length receipt.1 == 0 && well_formed receipt.0.item then Some receipt.0 else None
