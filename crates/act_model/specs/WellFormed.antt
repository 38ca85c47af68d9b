-- Which items are well formed: the ranges of their values, and four rules over a whole filing.
-- What the types hold by themselves is not repeated here: numbers from 1, owners, the length of lists.
use Rattle.std.specs.Prelude.{ℕ, ◌+◌, Bool, true, false, not, ◌&&◌, ◌||◌, ◌==◌, nat_le, if◌then◌else◌, List, [], ◌∷◌, map, length, Option, Some, None}
use Rattle.std.specs.List.{list_any, list_all, filter_map, flat_map}
use Rattle.gb_base.specs.Limits.{is_between, most_acts, most_cents}
use Rattle.gb_base.specs.RightNo.{RightNo, same_right}
use Rattle.act_model.specs.Persons.{is_distinct}
use Rattle.act_model.specs.declared.land.Inventory.{Inventory}
use Rattle.act_model.specs.declared.rights.RightKind.{RightKind}
use Rattle.act_model.specs.declared.rights.RightKind.TheVariants as kind
use Rattle.act_model.specs.declared.rights.RightSpec.{RightSpec}
use Rattle.act_model.specs.declared.filing_acts.Act.{Act}
use Rattle.act_model.specs.declared.filing_acts.Act.TheVariants.{Open, Transfer, Create, NoticeFor, Convert, Assign, Cancel, Exchange, Exercise}
use Rattle.act_model.specs.declared.documents.Doc.{Doc}
use Rattle.act_model.specs.declared.documents.Doc.TheVariants as doc
use Rattle.act_model.specs.declared.sales.Basis.{Basis}
use Rattle.act_model.specs.declared.sales.Basis.TheVariants as basis
use Rattle.act_model.specs.declared.sales.Registration.{Registration}
use Rattle.act_model.specs.declared.sales.Registration.TheVariants as registration
use Rattle.act_model.specs.declared.items.Filing.{Filing}
use Rattle.act_model.specs.declared.items.Item.{Item}
use Rattle.act_model.specs.declared.items.Item.TheVariants as item
use Rattle.act_model.specs.Limits.{most_folios, most_extension_days, most_groups, highest_rate, greatest_area}
use Rattle.act_model.specs.Acts.{folio_of, right_created, is_in_division_three}

-- an amount that is claimed, bid or secured: from one cent to 10^13
abbrev pub is_amount : ℕ → Bool
is_amount cents = is_between 1 most_cents cents

-- the number of an act in its filing, from 1 to 8
abbrev pub is_act_number : ℕ → Bool
is_act_number act = is_between 1 most_acts act

-- a parcel as it may be described
abbrev pub is_inventory : Inventory → Bool
is_inventory i = is_between 1 65535 i.district && is_between 1 4294967295 i.parcel && is_between 1 greatest_area i.area

-- a kind of right, with interest of at most 20 percent a year
abbrev pub is_right_kind : RightKind → Bool
is_right_kind kind.PersonalEasement = true
is_right_kind kind.Usufruct = true
is_right_kind (kind.Mortgage rate) = nat_le rate highest_rate
is_right_kind (kind.LandCharge rate) = nat_le rate highest_rate

-- a right as an act may describe it
abbrev pub is_right_spec : RightSpec → Bool
is_right_spec s = is_right_kind s.kind && is_amount s.capital && is_between 1 most_groups s.group

-- no reservation, or one of an amount
abbrev pub is_reserve : Option ℕ → Bool
is_reserve None = true
is_reserve (Some cents) = is_amount cents

-- the values of an act are in their ranges, and a right that takes up a reservation is of division III
abbrev pub is_act : Act → Bool
is_act (Open folio inventory owners) = is_inventory inventory
is_act (Transfer folio owners) = true
is_act (Create folio spec reserve) = is_right_spec spec && is_reserve reserve
is_act (NoticeFor folio spec) = is_right_spec spec
is_act (Convert folio right) = true
is_act (Assign folio right holder) = true
is_act (Cancel folio right) = true
is_act (Exchange folio recede rise) = true
is_act (Exercise folio behind spec) = is_right_spec spec && is_in_division_three spec.kind

-- a document for one of the acts 1 to 8
abbrev pub is_doc : Doc → Bool
is_doc (doc.Consent act person form) = is_act_number act
is_doc (doc.Agreement act) = is_act_number act
is_doc (doc.TaxClearance act) = is_act_number act
is_doc (doc.ExpiryProof act) = is_act_number act

-- how many different numbers there are
abbrev pub different : List ℕ → ℕ
different [] = 0
different (n ∷ ns) = if list_any (λ m. m == n) ns then different ns else different ns + 1

-- the acts name at most two different folios
abbrev pub names_few_folios : List Act → Bool
names_few_folios acts = nat_le (different (map folio_of acts)) most_folios

-- the folio that an act opens or gives to new owners
abbrev pub folio_with_new_owners : Act → Option ℕ
folio_with_new_owners (Open folio inventory owners) = Some folio
folio_with_new_owners (Transfer folio owners) = Some folio
folio_with_new_owners (Create folio spec reserve) = None
folio_with_new_owners (NoticeFor folio spec) = None
folio_with_new_owners (Convert folio right) = None
folio_with_new_owners (Assign folio right holder) = None
folio_with_new_owners (Cancel folio right) = None
folio_with_new_owners (Exchange folio recede rise) = None
folio_with_new_owners (Exercise folio behind spec) = None

-- no folio is named by two openings or transfers
abbrev pub gives_owners_once : List Act → Bool
gives_owners_once acts = is_distinct (filter_map folio_with_new_owners acts)

-- the rights that an act names
abbrev pub rights_named : Act → List RightNo
rights_named (Open folio inventory owners) = []
rights_named (Transfer folio owners) = []
rights_named (Create folio spec reserve) = []
rights_named (NoticeFor folio spec) = []
rights_named (Convert folio right) = right ∷ []
rights_named (Assign folio right holder) = right ∷ []
rights_named (Cancel folio right) = right ∷ []
rights_named (Exchange folio recede rise) = recede ∷ rise ∷ []
rights_named (Exercise folio behind spec) = behind ∷ []

-- no right stands twice
abbrev pub are_different : List RightNo → Bool
are_different [] = true
are_different (r ∷ rs) = not (list_any (same_right r) rs) && are_different rs

-- no right is named twice by the acts of the filing
abbrev pub names_rights_once : List Act → Bool
names_rights_once acts = are_different (flat_map rights_named acts)

-- the act creates a right that reserves, or one that takes up a reservation: such a right stands alone in its group
abbrev pub wants_own_group : Act → Bool
wants_own_group (Open folio inventory owners) = false
wants_own_group (Transfer folio owners) = false
wants_own_group (Create folio spec None) = false
wants_own_group (Create folio spec (Some cents)) = true
wants_own_group (NoticeFor folio spec) = false
wants_own_group (Convert folio right) = false
wants_own_group (Assign folio right holder) = false
wants_own_group (Cancel folio right) = false
wants_own_group (Exchange folio recede rise) = false
wants_own_group (Exercise folio behind spec) = true

-- both rights are there, and of one group
abbrev pub same_group : Option RightSpec → Option RightSpec → Bool
same_group (Some s) (Some t) = s.group == t.group
same_group (Some s) None = false
same_group None t = false

-- two acts create rights of one group in one folio
abbrev pub share_group : Act → Act → Bool
share_group a b = folio_of a == folio_of b && same_group (right_created a) (right_created b)

-- no two acts create rights of one group in one folio where one of the two wants a group of its own
abbrev pub keep_groups_apart : List Act → Bool
keep_groups_apart [] = true
keep_groups_apart (a ∷ acts) =
    list_all (λ b. not ((wants_own_group a || wants_own_group b) && share_group a b)) acts && keep_groups_apart acts

-- the four rules over a whole filing
abbrev pub keeps_rules : List Act → Bool
keeps_rules acts = names_few_folios acts && gives_owners_once acts && names_rights_once acts && keep_groups_apart acts

-- one to eight acts that keep the rules; all acts and documents are in their ranges
abbrev pub is_filing : Filing → Bool
is_filing f = is_between 1 most_acts (length f.acts) && list_all is_act f.acts && list_all is_doc f.docs && keeps_rules f.acts

-- a personal claim of an amount, or a right
abbrev pub is_basis : Basis → Bool
is_basis (basis.Personal creditor claim) = is_amount claim
is_basis (basis.FromRight right) = true

-- a registration of an amount, or of arrears
abbrev pub is_registration : Registration → Bool
is_registration (registration.Advance person amount) = is_amount amount
is_registration (registration.PublicCharge person amount due) = is_amount amount
is_registration (registration.Arrears right from until) = true

-- a deadline is extended to a day at least after the item, and to so many at most
abbrev pub is_extension : ℕ → Bool
is_extension days = is_between 1 most_extension_days days

-- the values of an item are in their ranges, and a filing keeps the rules
abbrev pub well_formed : Item → Bool
well_formed (item.Filing f) = is_filing f
well_formed (item.Cure filing docs) = list_all is_doc docs
well_formed (item.Lapse filing) = true
well_formed (item.Seize folio basis served) = is_basis basis
well_formed (item.Register folio registered) = is_registration registered
well_formed (item.OpenBids folio costs) = is_amount costs
well_formed (item.Award folio buyer bid) = is_amount bid
well_formed (item.Distribute folio) = true
well_formed (item.Extend filing days) = is_extension days
