-- The grammar of items: for each object its members in their order, and after the last one the test that there is no other.
use Rattle.std.specs.Prelude.{ℕ, List, [], ◌∷◌, Bool, true, false, Ok, codes}
use Rattle.serde_json.specs.Data.{Data}
use Rattle.gb_base.specs.Limits.{most_cents, most_acts}
use Rattle.act_model.specs.Limits.{most_extension_days}
use Rattle.gb_base.specs.RightNo.{RightNo}
use Rattle.act_model.specs.Persons.{is_distinct}
use Rattle.act_model.specs.WellFormed.{keeps_rules}
use Rattle.act_model.specs.declared.land.Inventory.{Inventory}
use Rattle.act_model.specs.declared.rights.RightKind.{RightKind}
use Rattle.act_model.specs.declared.rights.RightKind.TheVariants as kind
use Rattle.act_model.specs.declared.rights.RightSpec.{RightSpec}
use Rattle.act_model.specs.declared.filing_acts.Act.{Act}
use Rattle.act_model.specs.declared.filing_acts.Act.TheVariants as act
use Rattle.act_model.specs.declared.documents.Form.{Form}
use Rattle.act_model.specs.declared.documents.Form.TheVariants as form
use Rattle.act_model.specs.declared.documents.Doc.{Doc}
use Rattle.act_model.specs.declared.documents.Doc.TheVariants as doc
use Rattle.act_model.specs.declared.sales.Basis.{Basis}
use Rattle.act_model.specs.declared.sales.Basis.TheVariants as basis
use Rattle.act_model.specs.declared.sales.Registration.{Registration}
use Rattle.act_model.specs.declared.sales.Registration.TheVariants as registered
use Rattle.act_model.specs.declared.items.Item.{Item}
use Rattle.act_model.specs.declared.items.Item.TheVariants as item
use Rattle.act_json.specs.declared.words.RightWord.{RightWord}
use Rattle.act_json.specs.declared.words.RightWord.TheVariants as right_word
use Rattle.act_json.specs.declared.words.ActWord.{ActWord}
use Rattle.act_json.specs.declared.words.ActWord.TheVariants as act_word
use Rattle.act_json.specs.declared.words.DocWord.{DocWord}
use Rattle.act_json.specs.declared.words.DocWord.TheVariants as doc_word
use Rattle.act_json.specs.declared.words.BasisWord.{BasisWord}
use Rattle.act_json.specs.declared.words.BasisWord.TheVariants as basis_word
use Rattle.act_json.specs.declared.words.RegistrationWord.{RegistrationWord}
use Rattle.act_json.specs.declared.words.RegistrationWord.TheVariants as registration_word
use Rattle.act_json.specs.declared.words.ItemWord.{ItemWord}
use Rattle.act_json.specs.declared.words.ItemWord.TheVariants as item_word
use Rattle.act_json.specs.Reading.{Read, ◌>>=◌, ◌>>◌, within, wants, an_object, member, optional, only, array_of, read_whole, truth, word_of, kind_word}
use Rattle.act_json.specs.Dates.{read_day}

-- a person, a folio or a receipt
abbrev pub serial : Data → Read ℕ
serial = read_whole 1 4294967295

-- cents
abbrev pub amount : Data → Read ℕ
amount = read_whole 1 most_cents

-- ---- rights and persons

-- the number of a right
unfoldable pub read_right : Data → Read RightNo
read_right d = do
  an_object d
  receipt ← member (codes "receipt") serial d
  act ← member (codes "act") (read_whole 1 most_acts) d
  only (codes "receipt" ∷ codes "act" ∷ []) d
  Ok (record { receipt = receipt; act = act })

-- one to four different persons
unfoldable pub read_owners : Data → Read (List ℕ)
read_owners d = do
  persons ← array_of 1 4 serial d
  wants (is_distinct persons)
  Ok persons

-- the words for the kinds of rights
abbrev pub right_words : List (List ℕ × RightWord)
right_words =
    (codes "personal-easement", right_word.PersonalEasement)
    ∷ (codes "usufruct", right_word.Usufruct)
    ∷ (codes "mortgage", right_word.Mortgage)
    ∷ (codes "land-charge", right_word.LandCharge)
    ∷ []

-- a right of this kind is a mortgage or a land charge
abbrev pub is_charge : RightWord → Bool
is_charge right_word.PersonalEasement = false
is_charge right_word.Usufruct = false
is_charge right_word.Mortgage = true
is_charge right_word.LandCharge = true

-- interest, in hundredths of a percent a year
abbrev pub rate : Data → Read ℕ
rate = member (codes "rate") (read_whole 0 2000)

-- the kind of a right; only the last two kinds have the member `rate`
unfoldable pub read_kind : RightWord → Data → Read RightKind
read_kind right_word.PersonalEasement d = Ok kind.PersonalEasement
read_kind right_word.Usufruct d = Ok kind.Usufruct
read_kind right_word.Mortgage d = rate d >>= λ bp. Ok (kind.Mortgage bp)
read_kind right_word.LandCharge d = rate d >>= λ bp. Ok (kind.LandCharge bp)

-- the members of a right that an act describes, of the kind that this word stands for
unfoldable pub read_spec : RightWord → Data → Read RightSpec
read_spec word d = do
  kind ← read_kind word d
  capital ← member (codes "capital") amount d
  holder ← member (codes "holder") serial d
  group ← member (codes "group") (read_whole 1 8) d
  Ok (record { kind = kind; capital = capital; holder = holder; group = group })

-- the members of a right of this kind
abbrev pub spec_names : RightWord → List (List ℕ)
spec_names right_word.PersonalEasement = codes "kind" ∷ codes "capital" ∷ codes "holder" ∷ codes "group" ∷ []
spec_names right_word.Usufruct = codes "kind" ∷ codes "capital" ∷ codes "holder" ∷ codes "group" ∷ []
spec_names right_word.Mortgage = codes "kind" ∷ codes "rate" ∷ codes "capital" ∷ codes "holder" ∷ codes "group" ∷ []
spec_names right_word.LandCharge = codes "kind" ∷ codes "rate" ∷ codes "capital" ∷ codes "holder" ∷ codes "group" ∷ []

-- ---- acts

-- the words for the acts
abbrev pub act_words : List (List ℕ × ActWord)
act_words =
    (codes "open", act_word.Open)
    ∷ (codes "transfer", act_word.Transfer)
    ∷ (codes "create", act_word.Create)
    ∷ (codes "notice", act_word.Notice)
    ∷ (codes "convert", act_word.Convert)
    ∷ (codes "assign", act_word.Assign)
    ∷ (codes "cancel", act_word.Cancel)
    ∷ (codes "exchange", act_word.Exchange)
    ∷ (codes "exercise", act_word.Exercise)
    ∷ []

-- the inventory of a folio
abbrev pub read_inventory : Data → Read Inventory
read_inventory d = do
  district ← member (codes "district") (read_whole 1 65535) d
  parcel ← member (codes "parcel") (read_whole 1 4294967295) d
  sub ← member (codes "sub") (read_whole 0 65535) d
  area ← member (codes "area") (read_whole 1 1000000000) d
  Ok (record { district = district; parcel = parcel; sub = sub; area = area })

-- Each of the readers that follow reads the members of an act after `act` and `folio`.

-- the opening of a folio
unfoldable pub read_open : ℕ → Data → Read Act
read_open folio d = do
  inventory ← read_inventory d
  owners ← member (codes "owners") read_owners d
  only (codes "act" ∷ codes "folio" ∷ codes "district" ∷ codes "parcel" ∷ codes "sub" ∷ codes "area" ∷ codes "owners" ∷ []) d
  Ok (act.Open folio inventory owners)

-- a transfer
unfoldable pub read_transfer : ℕ → Data → Read Act
read_transfer folio d = do
  owners ← member (codes "owners") read_owners d
  only (codes "act" ∷ codes "folio" ∷ codes "owners" ∷ []) d
  Ok (act.Transfer folio owners)

-- the creation of a right, maybe with a reserve
unfoldable pub read_create : ℕ → Data → Read Act
read_create folio d = do
  word ← member (codes "kind") (word_of right_words) d
  spec ← read_spec word d
  reserve ← optional (codes "reserve") amount d
  only (codes "act" ∷ codes "folio" ∷ codes "reserve" ∷ spec_names word) d
  Ok (act.Create folio spec reserve)

-- a priority notice
unfoldable pub read_notice : ℕ → Data → Read Act
read_notice folio d = do
  word ← member (codes "kind") (word_of right_words) d
  spec ← read_spec word d
  only (codes "act" ∷ codes "folio" ∷ spec_names word) d
  Ok (act.NoticeFor folio spec)

-- the conversion of a priority notice
unfoldable pub read_convert : ℕ → Data → Read Act
read_convert folio d = do
  right ← member (codes "right") read_right d
  only (codes "act" ∷ codes "folio" ∷ codes "right" ∷ []) d
  Ok (act.Convert folio right)

-- the assignment of a right
unfoldable pub read_assign : ℕ → Data → Read Act
read_assign folio d = do
  right ← member (codes "right") read_right d
  holder ← member (codes "holder") serial d
  only (codes "act" ∷ codes "folio" ∷ codes "right" ∷ codes "holder" ∷ []) d
  Ok (act.Assign folio right holder)

-- the cancellation of a right
unfoldable pub read_cancel : ℕ → Data → Read Act
read_cancel folio d = do
  right ← member (codes "right") read_right d
  only (codes "act" ∷ codes "folio" ∷ codes "right" ∷ []) d
  Ok (act.Cancel folio right)

-- an exchange of ranks
unfoldable pub read_exchange : ℕ → Data → Read Act
read_exchange folio d = do
  recede ← member (codes "recede") read_right d
  rise ← member (codes "rise") read_right d
  only (codes "act" ∷ codes "folio" ∷ codes "recede" ∷ codes "rise" ∷ []) d
  Ok (act.Exchange folio recede rise)

-- the use of a reserve, by a right of division III
unfoldable pub read_exercise : ℕ → Data → Read Act
read_exercise folio d = do
  behind ← member (codes "behind") read_right d
  word ← member (codes "kind") (word_of right_words) d
  within (codes "kind") (wants (is_charge word))
  spec ← read_spec word d
  only (codes "act" ∷ codes "folio" ∷ codes "behind" ∷ spec_names word) d
  Ok (act.Exercise folio behind spec)

-- the act of this folio that this word stands for
abbrev pub act_called : ActWord → ℕ → Data → Read Act
act_called act_word.Open = read_open
act_called act_word.Transfer = read_transfer
act_called act_word.Create = read_create
act_called act_word.Notice = read_notice
act_called act_word.Convert = read_convert
act_called act_word.Assign = read_assign
act_called act_word.Cancel = read_cancel
act_called act_word.Exchange = read_exchange
act_called act_word.Exercise = read_exercise

-- an act
unfoldable pub read_act : Data → Read Act
read_act d = do
  word ← kind_word (codes "act") (word_of act_words) d
  folio ← member (codes "folio") serial d
  act_called word folio d

-- ---- documents

-- the words for the documents
abbrev pub doc_words : List (List ℕ × DocWord)
doc_words =
    (codes "consent", doc_word.Consent)
    ∷ (codes "agreement", doc_word.Agreement)
    ∷ (codes "clearance", doc_word.Clearance)
    ∷ (codes "expiry", doc_word.Expiry)
    ∷ []

-- the words for the forms of a consent
abbrev pub forms : List (List ℕ × Form)
forms = (codes "certified", form.Certified) ∷ (codes "plain", form.Plain) ∷ []

-- a consent to this act
unfoldable pub read_consent : ℕ → Data → Read Doc
read_consent act d = do
  person ← member (codes "person") serial d
  form ← member (codes "form") (word_of forms) d
  only (codes "doc" ∷ codes "act" ∷ codes "person" ∷ codes "form" ∷ []) d
  Ok (doc.Consent act person form)

-- a document that has no members besides `doc` and `act`
abbrev pub bare : Doc → Data → Read Doc
bare document d = only (codes "doc" ∷ codes "act" ∷ []) d >> Ok document

-- the document for this act that this word stands for
abbrev pub doc_called : DocWord → ℕ → Data → Read Doc
doc_called doc_word.Consent act d = read_consent act d
doc_called doc_word.Agreement act d = bare (doc.Agreement act) d
doc_called doc_word.Clearance act d = bare (doc.TaxClearance act) d
doc_called doc_word.Expiry act d = bare (doc.ExpiryProof act) d

-- a document
unfoldable pub read_doc : Data → Read Doc
read_doc d = do
  word ← kind_word (codes "doc") (word_of doc_words) d
  act ← member (codes "act") (read_whole 1 most_acts) d
  doc_called word act d

-- ---- the forced sale

-- the words for what a seizure rests on
abbrev pub basis_words : List (List ℕ × BasisWord)
basis_words = (codes "personal", basis_word.Personal) ∷ (codes "right", basis_word.Right) ∷ []

-- a creditor's claim
unfoldable pub read_personal : Data → Read Basis
read_personal d = do
  creditor ← member (codes "creditor") serial d
  claim ← member (codes "claim") amount d
  only (codes "type" ∷ codes "creditor" ∷ codes "claim" ∷ []) d
  Ok (basis.Personal creditor claim)

-- a right that is registered
unfoldable pub read_from_right : Data → Read Basis
read_from_right d = do
  right ← member (codes "right") read_right d
  only (codes "type" ∷ codes "right" ∷ []) d
  Ok (basis.FromRight right)

-- what a seizure rests on, of the kind that this word stands for
abbrev pub basis_called : BasisWord → Data → Read Basis
basis_called basis_word.Personal = read_personal
basis_called basis_word.Right = read_from_right

-- what a seizure rests on
unfoldable pub read_basis : Data → Read Basis
read_basis d = do
  word ← kind_word (codes "type") (word_of basis_words) d
  basis_called word d

-- the words for what is registered for a sale
abbrev pub registration_words : List (List ℕ × RegistrationWord)
registration_words = (codes "advance", registration_word.Advance) ∷ (codes "charge", registration_word.Charge) ∷ (codes "arrears", registration_word.Arrears) ∷ []

-- an advance
unfoldable pub read_advance : Data → Read Registration
read_advance d = do
  person ← member (codes "person") serial d
  cents ← member (codes "amount") amount d
  only (codes "type" ∷ codes "person" ∷ codes "amount" ∷ []) d
  Ok (registered.Advance person cents)

-- a public charge
unfoldable pub read_charge : Data → Read Registration
read_charge d = do
  person ← member (codes "person") serial d
  cents ← member (codes "amount") amount d
  due ← member (codes "due") read_day d
  only (codes "type" ∷ codes "person" ∷ codes "amount" ∷ codes "due" ∷ []) d
  Ok (registered.PublicCharge person cents due)

-- arrears of a right
unfoldable pub read_arrears : Data → Read Registration
read_arrears d = do
  right ← member (codes "right") read_right d
  from ← member (codes "from") read_day d
  until ← member (codes "until") read_day d
  only (codes "type" ∷ codes "right" ∷ codes "from" ∷ codes "until" ∷ []) d
  Ok (registered.Arrears right from until)

-- the registration that this word stands for
abbrev pub registration_called : RegistrationWord → Data → Read Registration
registration_called registration_word.Advance = read_advance
registration_called registration_word.Charge = read_charge
registration_called registration_word.Arrears = read_arrears

-- a registration
unfoldable pub read_registration : Data → Read Registration
read_registration d = do
  word ← kind_word (codes "type") (word_of registration_words) d
  registration_called word d

-- ---- items

-- the words for the items
abbrev pub item_words : List (List ℕ × ItemWord)
item_words =
    (codes "filing", item_word.Filing)
    ∷ (codes "cure", item_word.Cure)
    ∷ (codes "lapse", item_word.Lapse)
    ∷ (codes "seize", item_word.Seize)
    ∷ (codes "register", item_word.Register)
    ∷ (codes "open-bids", item_word.OpenBids)
    ∷ (codes "award", item_word.Award)
    ∷ (codes "distribute", item_word.Distribute)
    ∷ (codes "extend", item_word.Extend)
    ∷ []

-- the acts of a filing
abbrev pub read_acts : Data → Read (List Act)
read_acts = array_of 1 most_acts read_act

-- the documents of a filing or a cure
abbrev pub read_docs : Data → Read (List Doc)
read_docs = array_of 0 32 read_doc

-- a filing; the rules over a whole filing are tested last
unfoldable pub read_filing : Data → Read Item
read_filing d = do
  applicant ← member (codes "applicant") serial d
  conditional ← member (codes "conditional") truth d
  acts ← member (codes "acts") read_acts d
  docs ← member (codes "docs") read_docs d
  only (codes "kind" ∷ codes "applicant" ∷ codes "conditional" ∷ codes "acts" ∷ codes "docs" ∷ []) d
  within (codes "acts") (wants (keeps_rules acts))
  Ok (item.Filing (record { applicant = applicant; conditional = conditional; acts = acts; docs = docs }))

-- a cure
unfoldable pub read_cure : Data → Read Item
read_cure d = do
  filing ← member (codes "filing") serial d
  docs ← member (codes "docs") read_docs d
  only (codes "kind" ∷ codes "filing" ∷ codes "docs" ∷ []) d
  Ok (item.Cure filing docs)

-- a lapse
unfoldable pub read_lapse : Data → Read Item
read_lapse d = do
  filing ← member (codes "filing") serial d
  only (codes "kind" ∷ codes "filing" ∷ []) d
  Ok (item.Lapse filing)

-- a seizure
unfoldable pub read_seize : Data → Read Item
read_seize d = do
  folio ← member (codes "folio") serial d
  basis ← member (codes "basis") read_basis d
  served ← member (codes "served") read_day d
  only (codes "kind" ∷ codes "folio" ∷ codes "basis" ∷ codes "served" ∷ []) d
  Ok (item.Seize folio basis served)

-- a registration for a sale
unfoldable pub read_register : Data → Read Item
read_register d = do
  folio ← member (codes "folio") serial d
  registration ← member (codes "what") read_registration d
  only (codes "kind" ∷ codes "folio" ∷ codes "what" ∷ []) d
  Ok (item.Register folio registration)

-- the call to bid
unfoldable pub read_open_bids : Data → Read Item
read_open_bids d = do
  folio ← member (codes "folio") serial d
  costs ← member (codes "costs") amount d
  only (codes "kind" ∷ codes "folio" ∷ codes "costs" ∷ []) d
  Ok (item.OpenBids folio costs)

-- an award
unfoldable pub read_award : Data → Read Item
read_award d = do
  folio ← member (codes "folio") serial d
  buyer ← member (codes "buyer") serial d
  bid ← member (codes "bid") amount d
  only (codes "kind" ∷ codes "folio" ∷ codes "buyer" ∷ codes "bid" ∷ []) d
  Ok (item.Award folio buyer bid)

-- the distribution of the proceeds
unfoldable pub read_distribute : Data → Read Item
read_distribute d = do
  folio ← member (codes "folio") serial d
  only (codes "kind" ∷ codes "folio" ∷ []) d
  Ok (item.Distribute folio)

-- the extension of a deadline
unfoldable pub read_extend : Data → Read Item
read_extend d = do
  filing ← member (codes "filing") serial d
  days ← member (codes "days") (read_whole 1 most_extension_days) d
  only (codes "kind" ∷ codes "filing" ∷ codes "days" ∷ []) d
  Ok (item.Extend filing days)

-- the item that this word stands for
abbrev pub item_called : ItemWord → Data → Read Item
item_called item_word.Filing = read_filing
item_called item_word.Cure = read_cure
item_called item_word.Lapse = read_lapse
item_called item_word.Seize = read_seize
item_called item_word.Register = read_register
item_called item_word.OpenBids = read_open_bids
item_called item_word.Award = read_award
item_called item_word.Distribute = read_distribute
item_called item_word.Extend = read_extend

-- an item
unfoldable pub any_item : Data → Read Item
any_item d = do
  word ← kind_word (codes "kind") (word_of item_words) d
  item_called word d
