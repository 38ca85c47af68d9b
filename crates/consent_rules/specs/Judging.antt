-- How a filing is judged on the register as it stands. Of the grounds for rejection the first that holds is named; of the
-- curable defects all that are there are listed (GBO § 18).
use Rattle.std.specs.Prelude.{◌≡◌, ℕ, Bool, true, false, not, ◌&&◌, ◌||◌, ◌==◌, nat_lt, List, [], ◌∷◌, filter, flat_map, find, map, Option, Some, None, option_map, is_some, is_none, All, IfSome}
use Rattle.std.specs.Option.{option_map_or}
use Rattle.std.specs.List.{enumerate_from, list_any}
use Rattle.gb_base.specs.RightNo.{RightNo}
use Rattle.gb_base.specs.declared.keys.Key.{Key}
use Rattle.gb_base.specs.declared.keys.Key.TheVariants.{Title, Right}
use Rattle.gb_base.specs.declared.sections.Section.{Section}
use Rattle.act_model.specs.declared.documents.Doc.{Doc}
use Rattle.act_model.specs.declared.filing_acts.Act.{Act}
use Rattle.act_model.specs.declared.filing_acts.Act.TheVariants.{Open, Transfer, Create, NoticeFor, Convert, Assign, Cancel, Exchange, Exercise}
use Rattle.act_model.specs.declared.items.Filing.{Filing}
use Rattle.act_model.specs.declared.receipts.Receipt.{Receipt}
use Rattle.act_model.specs.Acts.{is_in_division_three}
use Rattle.act_model.specs.Creations.{creating_rank}
use Rattle.act_model.specs.Touches.{acts_of, created_before, filing_at, new_right}
use Rattle.act_model.specs.Documents.{documents, given, is_agreement, is_clearance, is_plain, is_strangers_consent}
use Rattle.act_model.specs.Groups.{shares_its_group}
use Rattle.act_model.specs.Limits.{most_creations}
use Rattle.consent_rules.specs.Persons.{acts_before, affected, applicants, needed, others, owner_side}
use Rattle.folio_sections.specs.Rights.{is_full, is_live, is_spent, live_right}
use Rattle.folio_sections.specs.Titles.{is_open}
use Rattle.folio_sections.specs.declared.entries.Entry.{Entry}
use Rattle.consent_rules.specs.declared.judgements.Defect.{Defect}
use Rattle.consent_rules.specs.declared.judgements.Judgement.{Judgement}
use Rattle.consent_rules.specs.declared.judgements.Judgement.TheVariants.{Enter, Reject, Interim}
use Rattle.gb_base.specs.declared.sections.Section.TheVariants as section

-- ---- grounds for rejection, each of an act of filing m with its number there, from 1

-- the creating act is beyond the 256th of its folio, whatever became of the others
abbrev pub is_beyond_limit : List Receipt → ℕ → ℕ → Bool
is_beyond_limit journal m a = option_map_or (nat_lt most_creations) (creating_rank journal (new_right m a)) false

-- the act opens the folio
abbrev pub opens : ℕ → Act → Bool
opens folio (Open f inventory owners) = f == folio
opens folio (Transfer f owners) = false
opens folio (Create f spec reserve) = false
opens folio (NoticeFor f spec) = false
opens folio (Convert f right) = false
opens folio (Assign f right holder) = false
opens folio (Cancel f right) = false
opens folio (Exchange f recede rise) = false
opens folio (Exercise f behind spec) = false

-- the folio is open, or opened by one of the acts before act a
abbrev pub is_open_as_of : (Key → List Entry) → List Act → ℕ → ℕ → Bool
is_open_as_of at acts a folio = is_open (at (Title folio)) || list_any (opens folio) (acts_before a acts)

-- GBO § 3: the act opens an open folio, or names one that is not open as of the act
abbrev pub lacks_folio : (Key → List Entry) → List Act → ℕ → Act → Bool
lacks_folio at acts a (Open folio inventory owners) = is_open (at (Title folio))
lacks_folio at acts a (Transfer folio owners) = not (is_open_as_of at acts a folio)
lacks_folio at acts a (Create folio spec reserve) = not (is_open_as_of at acts a folio)
lacks_folio at acts a (NoticeFor folio spec) = not (is_open_as_of at acts a folio)
lacks_folio at acts a (Convert folio right) = not (is_open_as_of at acts a folio)
lacks_folio at acts a (Assign folio right holder) = false
lacks_folio at acts a (Cancel folio right) = not (is_open_as_of at acts a folio)
lacks_folio at acts a (Exchange folio recede rise) = false
lacks_folio at acts a (Exercise folio behind spec) = not (is_open_as_of at acts a folio)

-- the right is live in the folio
abbrev pub lives : (Key → List Entry) → ℕ → RightNo → Bool
lives at folio right = is_live (at (Right folio right))

-- BGB § 873: a right that the act names is not live in the folio
abbrev pub lacks_right : (Key → List Entry) → Act → Bool
lacks_right at (Convert folio right) = not (lives at folio right)
lacks_right at (Assign folio right holder) = not (lives at folio right)
lacks_right at (Cancel folio right) = not (lives at folio right)
lacks_right at (Exchange folio recede rise) = not (lives at folio recede) || not (lives at folio rise)
lacks_right at (Exercise folio behind spec) = not (lives at folio behind)
lacks_right at (Open folio inventory owners) = false
lacks_right at (Transfer folio owners) = false
lacks_right at (Create folio spec reserve) = false
lacks_right at (NoticeFor folio spec) = false

-- BGB § 883: the act converts a right that is no priority notice
abbrev pub converts_full_right : (Key → List Entry) → Act → Bool
converts_full_right at (Convert folio right) = is_full (at (Right folio right))
converts_full_right at (Open folio inventory owners) = false
converts_full_right at (Transfer folio owners) = false
converts_full_right at (Create folio spec reserve) = false
converts_full_right at (NoticeFor folio spec) = false
converts_full_right at (Assign folio right holder) = false
converts_full_right at (Cancel folio right) = false
converts_full_right at (Exchange folio recede rise) = false
converts_full_right at (Exercise folio behind spec) = false

-- The right may take no part in an exchange: it is a priority notice, or shares its group with another right of its filing and
-- folio, or has a reservation, or stands in the rank of one.
abbrev pub is_barred_from_exchange : List Receipt → (Key → List Entry) → ℕ → RightNo → Bool
is_barred_from_exchange journal at folio right =
    not (is_full (at (Right folio right))) || shares_its_group journal right
    || option_map_or (λ made. is_some made.reserve || is_some made.ahead_of) (live_right (at (Right folio right))) false

-- BGB § 880: one of the rights of the exchange may take no part in one
abbrev pub exchanges_unfit_right : List Receipt → (Key → List Entry) → Act → Bool
exchanges_unfit_right journal at (Exchange folio recede rise) =
    is_barred_from_exchange journal at folio recede || is_barred_from_exchange journal at folio rise
exchanges_unfit_right journal at (Open folio inventory owners) = false
exchanges_unfit_right journal at (Transfer folio owners) = false
exchanges_unfit_right journal at (Create folio spec reserve) = false
exchanges_unfit_right journal at (NoticeFor folio spec) = false
exchanges_unfit_right journal at (Convert folio right) = false
exchanges_unfit_right journal at (Assign folio right holder) = false
exchanges_unfit_right journal at (Cancel folio right) = false
exchanges_unfit_right journal at (Exercise folio behind spec) = false

-- the reservation is of less than the capital; where there is none, it always is
abbrev pub reserves_less : Option ℕ → ℕ → Bool
reserves_less (Some reserved) capital = nat_lt reserved capital
reserves_less None capital = true

-- BGB § 881: the right that an exercise names has no reservation, has spent it, or reserved less than the new capital
abbrev pub lacks_reservation : (Key → List Entry) → Act → Bool
lacks_reservation at (Exercise folio behind spec) =
    is_spent (at (Right folio behind))
    || option_map_or (λ made. reserves_less made.reserve spec.capital) (live_right (at (Right folio behind))) true
lacks_reservation at (Open folio inventory owners) = false
lacks_reservation at (Transfer folio owners) = false
lacks_reservation at (Create folio spec reserve) = false
lacks_reservation at (NoticeFor folio spec) = false
lacks_reservation at (Convert folio right) = false
lacks_reservation at (Assign folio right holder) = false
lacks_reservation at (Cancel folio right) = false
lacks_reservation at (Exchange folio recede rise) = false

-- BGB §§ 1059, 1092: the act assigns a right of division II
abbrev pub assigns_division_two : (Key → List Entry) → Act → Bool
assigns_division_two at (Assign folio right holder) =
    option_map_or (λ made. not (is_in_division_three made.spec.kind)) (live_right (at (Right folio right))) false
assigns_division_two at (Open folio inventory owners) = false
assigns_division_two at (Transfer folio owners) = false
assigns_division_two at (Create folio spec reserve) = false
assigns_division_two at (NoticeFor folio spec) = false
assigns_division_two at (Convert folio right) = false
assigns_division_two at (Cancel folio right) = false
assigns_division_two at (Exchange folio recede rise) = false
assigns_division_two at (Exercise folio behind spec) = false

-- GBO § 13: the applicant may not apply for the act
abbrev pub may_not_apply : ℕ → ℕ → (Key → List Entry) → List Act → ℕ → Act → Bool
may_not_apply m applicant at acts a act = not (list_any (λ p. p == applicant) (applicants m at acts a act))

-- GBO § 20: a transfer without agreement
abbrev pub lacks_agreement : List Doc → ℕ → Act → Bool
lacks_agreement docs a (Transfer folio owners) = not (list_any (is_agreement a) docs)
lacks_agreement docs a (Open folio inventory owners) = false
lacks_agreement docs a (Create folio spec reserve) = false
lacks_agreement docs a (NoticeFor folio spec) = false
lacks_agreement docs a (Convert folio right) = false
lacks_agreement docs a (Assign folio right holder) = false
lacks_agreement docs a (Cancel folio right) = false
lacks_agreement docs a (Exchange folio recede rise) = false
lacks_agreement docs a (Exercise folio behind spec) = false

-- one of these persons has given no consent for the act
abbrev pub is_silent_among : List Doc → ℕ → List ℕ → Bool
is_silent_among docs a people = list_any (λ p. is_none (given docs a p)) people

-- somebody whose consent the act does not need has consented to it
abbrev pub has_stranger : List Receipt → ℕ → List Doc → (Key → List Entry) → List Act → ℕ → Act → Bool
has_stranger journal m docs at acts a act = list_any (is_strangers_consent a (needed journal m docs at acts a act)) docs

-- somebody affected has given no consent for the act
abbrev pub lacks_consent : ℕ → List Doc → (Key → List Entry) → List Act → ℕ → Act → Bool
lacks_consent m docs at acts a act = is_silent_among docs a (affected m docs at acts a act)

-- The ground holds for act a of the filing. Only the grounds of an act are asked here: all of `grounds` but GBO § 16.
abbrev pub holds : List Receipt → ℕ → Filing → List Doc → (Key → List Entry) → Section → ℕ → Act → Bool
holds journal m f docs at section.Limit a act = is_beyond_limit journal m a
holds journal m f docs at section.Gbo3 a act = lacks_folio at f.acts a act
holds journal m f docs at section.Bgb873 a act = lacks_right at act
holds journal m f docs at section.Bgb883 a act = converts_full_right at act
holds journal m f docs at section.Bgb880 a act = exchanges_unfit_right journal at act
holds journal m f docs at section.Bgb881 a act = lacks_reservation at act
holds journal m f docs at section.Bgb1059 a act = assigns_division_two at act
holds journal m f docs at section.Gbo13 a act = may_not_apply m f.applicant at f.acts a act
holds journal m f docs at section.Gbo20 a act = lacks_agreement docs a act
holds journal m f docs at section.Gbo19 a act =
    lacks_consent m docs at f.acts a act && not (has_stranger journal m docs at f.acts a act)
holds journal m f docs at other a act = false

-- the grounds for rejection, in the order in which they are tested
abbrev pub grounds : List Section
grounds =
    section.Gbo16 ∷ section.Limit ∷ section.Gbo3 ∷ section.Bgb873 ∷ section.Bgb883 ∷ section.Bgb880 ∷ section.Bgb881
    ∷ section.Bgb1059 ∷ section.Gbo13 ∷ section.Gbo20 ∷ section.Gbo19 ∷ []

-- the filing is rejected on this ground: GBO § 16 is a ground of the whole filing, each other ground is one of some act
abbrev pub is_rejected_under : List Receipt → ℕ → Filing → List Doc → (Key → List Entry) → Section → Bool
is_rejected_under journal m f docs at section.Gbo16 = f.conditional
is_rejected_under journal m f docs at s = list_any (λ p. holds journal m f docs at s p.0 p.1) (enumerate_from 1 f.acts)

-- the first ground that holds
abbrev pub rejection : List Receipt → ℕ → Filing → List Doc → (Key → List Entry) → Option Section
rejection journal m f docs at = find (is_rejected_under journal m f docs at) grounds

-- ---- curable defects

-- one of these persons has consented to the act in plain form alone
abbrev pub is_plain_among : List Doc → ℕ → List ℕ → Bool
is_plain_among docs a people = list_any (λ p. is_plain (given docs a p)) people

-- GBO § 27: an owner's consent to a cancellation is missing
abbrev pub lacks_owner : ℕ → List Doc → (Key → List Entry) → List Act → ℕ → Act → Bool
lacks_owner m docs at acts a (Cancel folio right) =
    is_silent_among docs a (owner_side m docs at acts a (Cancel folio right))
lacks_owner m docs at acts a (Open folio inventory owners) = false
lacks_owner m docs at acts a (Transfer folio owners) = false
lacks_owner m docs at acts a (Create folio spec reserve) = false
lacks_owner m docs at acts a (NoticeFor folio spec) = false
lacks_owner m docs at acts a (Convert folio right) = false
lacks_owner m docs at acts a (Assign folio right holder) = false
lacks_owner m docs at acts a (Exchange folio recede rise) = false
lacks_owner m docs at acts a (Exercise folio behind spec) = false

-- BGB § 880(2): an owner's consent to an exchange is missing
abbrev pub lacks_owner_of_exchange : ℕ → List Doc → (Key → List Entry) → List Act → ℕ → Act → Bool
lacks_owner_of_exchange m docs at acts a (Exchange folio recede rise) =
    is_silent_among docs a (owner_side m docs at acts a (Exchange folio recede rise))
lacks_owner_of_exchange m docs at acts a (Open folio inventory owners) = false
lacks_owner_of_exchange m docs at acts a (Transfer folio owners) = false
lacks_owner_of_exchange m docs at acts a (Create folio spec reserve) = false
lacks_owner_of_exchange m docs at acts a (NoticeFor folio spec) = false
lacks_owner_of_exchange m docs at acts a (Convert folio right) = false
lacks_owner_of_exchange m docs at acts a (Assign folio right holder) = false
lacks_owner_of_exchange m docs at acts a (Cancel folio right) = false
lacks_owner_of_exchange m docs at acts a (Exercise folio behind spec) = false

-- GrEStG § 22: a transfer without clearance
abbrev pub lacks_clearance : List Doc → ℕ → Act → Bool
lacks_clearance docs a (Transfer folio owners) = not (list_any (is_clearance a) docs)
lacks_clearance docs a (Open folio inventory owners) = false
lacks_clearance docs a (Create folio spec reserve) = false
lacks_clearance docs a (NoticeFor folio spec) = false
lacks_clearance docs a (Convert folio right) = false
lacks_clearance docs a (Assign folio right holder) = false
lacks_clearance docs a (Cancel folio right) = false
lacks_clearance docs a (Exchange folio recede rise) = false
lacks_clearance docs a (Exercise folio behind spec) = false

-- The defect is there at act a of the filing. Only those of `curables` are asked.
abbrev pub is_defective : List Receipt → ℕ → Filing → List Doc → (Key → List Entry) → Section → ℕ → Act → Bool
is_defective journal m f docs at section.Gbo29 a act = is_plain_among docs a (needed journal m docs at f.acts a act)
is_defective journal m f docs at section.Gbo39 a act =
    lacks_consent m docs at f.acts a act && has_stranger journal m docs at f.acts a act
is_defective journal m f docs at section.Gbo27 a act = lacks_owner m docs at f.acts a act
is_defective journal m f docs at section.Bgb876 a act = is_silent_among docs a (others journal m docs at a act)
is_defective journal m f docs at section.Bgb880 a act = lacks_owner_of_exchange m docs at f.acts a act
is_defective journal m f docs at section.Grest22 a act = lacks_clearance docs a act
is_defective journal m f docs at other a act = false

-- the curable defects, in the order in which they are listed
abbrev pub curables : List Section
curables = section.Gbo29 ∷ section.Gbo39 ∷ section.Gbo27 ∷ section.Bgb876 ∷ section.Bgb880 ∷ section.Grest22 ∷ []

-- the defects of one section, by act
abbrev pub defects_under : List Receipt → ℕ → Filing → List Doc → (Key → List Entry) → Section → List Defect
defects_under journal m f docs at s =
    map (λ p. record { section = s; act = p.0 })
    (filter (λ p. is_defective journal m f docs at s p.0 p.1) (enumerate_from 1 f.acts))

-- all defects, by section and then by act
abbrev pub defects : List Receipt → ℕ → Filing → List Doc → (Key → List Entry) → List Defect
defects journal m f docs at = flat_map (defects_under journal m f docs at) curables

-- ---- the judgement

-- a filing waits for cures where it has defects
abbrev pub interim_or_enter : List Defect → Judgement
interim_or_enter [] = Enter
interim_or_enter (d ∷ ds) = Interim (d ∷ ds)

-- a ground for rejection comes before all defects
abbrev pub judgement_by : Option Section → List Defect → Judgement
judgement_by (Some s) found = Reject s
judgement_by None found = interim_or_enter found

-- filing m, which is f, judged with its documents up to receipt i
abbrev pub judged_filing : List Receipt → ℕ → Filing → ℕ → (Key → List Entry) → Judgement
judged_filing journal m f i at =
    judgement_by (rejection journal m f (documents journal m f i) at) (defects journal m f (documents journal m f i) at)

-- filing m, judged with its documents up to receipt i; none where receipt m is no filing
abbrev pub judged : List Receipt → ℕ → ℕ → (Key → List Entry) → Option Judgement
judged journal m i at = option_map (λ f. judged_filing journal m f i at) (filing_at journal m)

-- ---- what a judge may rely on

-- where the act exchanges ranks, the receding right, if it is live, is as an earlier filing's act of the journal created it here
abbrev pub IsKnownExchange : List Receipt → ℕ → (Key → List Entry) → Act → Type 0
IsKnownExchange journal m at (Exchange folio recede rise) =
    IfSome (live_right (at (Right folio recede))) (λ made. created_before journal m folio recede ≡ Some made.spec)
IsKnownExchange journal m at (Open folio inventory owners) = Unit {0}
IsKnownExchange journal m at (Transfer folio owners) = Unit {0}
IsKnownExchange journal m at (Create folio spec reserve) = Unit {0}
IsKnownExchange journal m at (NoticeFor folio spec) = Unit {0}
IsKnownExchange journal m at (Convert folio right) = Unit {0}
IsKnownExchange journal m at (Assign folio right holder) = Unit {0}
IsKnownExchange journal m at (Cancel folio right) = Unit {0}
IsKnownExchange journal m at (Exercise folio behind spec) = Unit {0}

-- where an act of filing m exchanges ranks, the receding right, if it is live, is as an earlier filing's act created it here
abbrev pub KnowsExchanges : List Receipt → ℕ → (Key → List Entry) → Type 0
KnowsExchanges journal m at = All (IsKnownExchange journal m at) (acts_of journal m)
