-- On which grounds items of a forced sale are refused (ZVG §§ 15, 23, 43, 44, 66, 81, 113). Each kind has its grounds in order, and
-- the first that holds is named.
use Rattle.std.specs.Prelude.{ℕ, Bool, false, not, ◌&&◌, ◌||◌, nat_le, nat_lt, if◌then◌else◌, List, [], ◌∷◌, find, slice_get, Option, Some, None, option_and_then, option_map, is_none, is_some}
use Rattle.std.specs.List.{list_any}
use Rattle.std.specs.Option.{option_map_or}
use Rattle.gb_base.specs.RightNo.{RightNo, same_right}
use Rattle.gb_base.specs.declared.keys.Key.TheVariants.{Right, Title}
use Rattle.gb_base.specs.declared.sections.Section.{Section}
use Rattle.gb_base.specs.declared.sections.Section.TheVariants as section
use Rattle.act_model.specs.Acts.{is_in_division_three}
use Rattle.act_model.specs.Receiving.{item_at}
use Rattle.act_model.specs.declared.sales.Basis.{Basis}
use Rattle.act_model.specs.declared.sales.Basis.TheVariants as basis
use Rattle.act_model.specs.declared.sales.Registration.{Registration}
use Rattle.act_model.specs.declared.sales.Registration.TheVariants as registration
use Rattle.folio_sections.specs.Cases.{award, call, is_running, registration_numbers, registrations, seizure_numbers, seizures}
use Rattle.folio_sections.specs.Limits.{most_registrations, most_seizures}
use Rattle.folio_sections.specs.Rights.{is_full, live_right}
use Rattle.folio_sections.specs.Titles.{is_open}
use Rattle.folio_sections.specs.declared.entries.Entry.{Entry}
use Rattle.kept_registers.specs.KeptCases.{arrears_of}
use Rattle.auction_classes.specs.LowestBid.{lowest_bid}
use Rattle.auction_classes.specs.SaleClaims.{claimed_in}
use Rattle.auction_classes.specs.Sales.{Sale, at_case}
use Rattle.auction_classes.specs.declared.lowest_bids.Lowest.{Lowest}
use Rattle.sale_rules.specs.declared.awards.AwardRefusal.{AwardRefusal}
use Rattle.sale_rules.specs.declared.awards.AwardRefusal.TheVariants as refusal

-- the first of these sections whose ground holds
abbrev pub first_ground : List (Bool × Section) → Option Section
first_ground grounds = option_map (λ g. g.1) (find (λ g. g.0) grounds)

-- ---- what the case says

-- ZVG § 15: no case runs
abbrev pub lacks_case : Sale → Bool
lacks_case s = not (is_running (at_case s))

-- ZVG § 81: the land was awarded in the case
abbrev pub is_awarded : Sale → Bool
is_awarded s = is_some (award (at_case s))

-- ZVG § 66: nobody was called to bid in the case
abbrev pub lacks_call : Sale → Bool
lacks_call s = is_none (call (at_case s))

-- the lowest bid as the item finds it; none where no seizure is served (ZVG §§ 43, 44)
abbrev pub lowest : Sale → Option Lowest
lowest s = lowest_bid (claimed_in s)

-- ZVG § 43: no claim for which the sale goes on is served in time (ZVG §§ 43(2), 44(2)), so that there is no lowest bid
abbrev pub lacks_served_claim : Sale → Bool
lacks_served_claim s = is_none (lowest s)

-- ---- seizures

-- GBO § 3: the folio is not open
abbrev pub lacks_folio : Sale → Bool
lacks_folio s = not (is_open (s.at (Title s.folio)))

-- the case has as many seizures as it may
abbrev pub has_all_seizures : Sale → Bool
has_all_seizures s = nat_le most_seizures (seizures (at_case s))

-- a right with these entries is live, entered itself and not only by a priority notice, and a mortgage or land charge
abbrev pub is_seizable : List Entry → Bool
is_seizable entries = is_full entries && option_map_or (λ made. is_in_division_three made.spec.kind) (live_right entries) false

-- BGB § 873: the right from which land is seized is not one that can be seized from
abbrev pub lacks_right : Sale → Basis → Bool
lacks_right s (basis.Personal creditor claim) = false
lacks_right s (basis.FromRight right) = not (is_seizable (s.at (Right s.folio right)))

-- ZVG § 23: that right was filed after the case's first seizure
abbrev pub is_filed_later : Sale → Basis → Bool
is_filed_later s (basis.Personal creditor claim) = false
is_filed_later s (basis.FromRight right) =
    option_map_or (λ first. nat_lt first right.receipt) (slice_get (seizure_numbers (at_case s)) 0) false

-- why a seizure is refused; none where it is let in (ZVG § 20)
abbrev pub refusal_of_seizure : Sale → Basis → Option Section
refusal_of_seizure s b =
    first_ground
    ((lacks_folio s, section.Gbo3) ∷ (is_awarded s, section.Zvg81) ∷ (has_all_seizures s, section.Limit) ∷ (lacks_right s b, section.Bgb873)
    ∷ (is_filed_later s b, section.Zvg23) ∷ [])

-- ---- registrations

-- the case has as many registrations as it may
abbrev pub has_all_registrations : Sale → Bool
has_all_registrations s = nat_le most_registrations (registrations (at_case s))

-- receipt n registers arrears of the right
abbrev pub registers_arrears : Sale → RightNo → ℕ → Bool
registers_arrears s right n = option_map_or (same_right right) (option_and_then arrears_of (item_at s.journal n)) false

-- arrears of this right are registered in the case already
abbrev pub repeats_arrears : Sale → Registration → Bool
repeats_arrears s (registration.Advance person amount) = false
repeats_arrears s (registration.PublicCharge person amount due) = false
repeats_arrears s (registration.Arrears right from until) = list_any (registers_arrears s right) (registration_numbers (at_case s))

-- why a registration is refused; none where it is let in (ZVG § 37)
abbrev pub refusal_of_registration : Sale → Registration → Option Section
refusal_of_registration s r =
    first_ground ((lacks_case s, section.Zvg15) ∷ (has_all_registrations s || repeats_arrears s r, section.Limit) ∷ [])

-- ---- calls to bid

-- why a call to bid is refused; none where it is let in (ZVG § 66)
abbrev pub refusal_of_call : Sale → Option Section
refusal_of_call s =
    first_ground ((lacks_case s, section.Zvg15) ∷ (is_awarded s, section.Zvg81) ∷ (lacks_served_claim s, section.Zvg43) ∷ [])

-- ---- awards

-- the section under which an award is refused, whatever the bid
abbrev pub section_against_award : Sale → Option Section
section_against_award s =
    first_ground
    ((lacks_case s, section.Zvg15) ∷ (is_awarded s, section.Zvg81) ∷ (lacks_call s, section.Zvg66) ∷ (lacks_served_claim s, section.Zvg43) ∷ [])

-- ZVG §§ 44, 49: the bid is below the part of the lowest bid that is paid in cash
abbrev pub short_of_cash : ℕ → Lowest → Option AwardRefusal
short_of_cash bid least = if nat_lt bid least.cash then Some (refusal.BidTooLow least.cash) else None

-- the section, where there is one; else the refusal of a bid that is too low, where there is that
abbrev pub refusal_by : Option Section → Option AwardRefusal → Option AwardRefusal
refusal_by (Some s) low = Some (refusal.Ground s)
refusal_by None low = low

-- why an award at this bid is refused; none where it is given (ZVG § 81)
abbrev pub refusal_of_award : Sale → ℕ → Option AwardRefusal
refusal_of_award s bid = refusal_by (section_against_award s) (option_and_then (short_of_cash bid) (lowest s))

-- ---- distributions

-- why a distribution is refused, such as under ZVG § 113 where the land was not awarded in the case; none where the proceeds are
-- distributed (ZVG § 105)
abbrev pub refusal_of_distribution : Sale → Option Section
refusal_of_distribution s = first_ground ((lacks_case s, section.Zvg15) ∷ (not (is_awarded s), section.Zvg113) ∷ [])
