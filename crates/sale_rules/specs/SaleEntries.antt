-- What items of a forced sale bring (ZVG §§ 20, 37, 66, 81, 90, 91, 105): nothing where they are refused.
use Rattle.std.specs.Prelude.{ℕ, ◌==◌, if◌then◌else◌, List, [], ◌∷◌, map, Option, Some, None}
use Rattle.std.specs.Option.{option_map_or}
use Rattle.gb_base.specs.RightNo.{RightNo}
use Rattle.gb_base.specs.declared.keys.Key.{Key}
use Rattle.gb_base.specs.declared.keys.Key.TheVariants.{Case, Right, Title}
use Rattle.act_model.specs.declared.sales.Basis.{Basis}
use Rattle.act_model.specs.declared.sales.Registration.{Registration}
use Rattle.folio_line.specs.FolioRights.{live_by_act}
use Rattle.folio_sections.specs.Entries.{entry_by}
use Rattle.folio_sections.specs.declared.entries.Entry.{Entry}
use Rattle.folio_sections.specs.declared.entries.What.{What}
use Rattle.folio_sections.specs.declared.entries.What.TheVariants as what
use Rattle.auction_classes.specs.LowestBid.{remaining}
use Rattle.auction_classes.specs.SaleClaims.{claimed_in}
use Rattle.auction_classes.specs.Sales.{Sale}
use Rattle.auction_classes.specs.declared.lowest_bids.Lowest.{Lowest}
use Rattle.sale_rules.specs.SaleGrounds.{lowest, refusal_of_award, refusal_of_call, refusal_of_distribution, refusal_of_registration, refusal_of_seizure}

-- an entry by the item
abbrev pub entry_in_sale : Sale → Key → What → Entry
entry_in_sale s key content = entry_by s.journal s.item key content

-- these entries, where nothing refuses the item
abbrev pub unless_refused : {R : Type 0} → Option R → List Entry → List Entry
unless_refused None entries = entries
unless_refused (Some refusal) entries = []

-- a seizure stands at the case
abbrev pub seizure_brought : Sale → Basis → List Entry
seizure_brought s b = unless_refused (refusal_of_seizure s b) (entry_in_sale s (Case s.folio) what.Seized ∷ [])

-- a registration stands at the case
abbrev pub registration_brought : Sale → Registration → List Entry
registration_brought s r = unless_refused (refusal_of_registration s r) (entry_in_sale s (Case s.folio) what.Registered ∷ [])

-- a call to bid stands at the case, with the costs that it names
abbrev pub call_brought : Sale → ℕ → List Entry
call_brought s costs = unless_refused (refusal_of_call s) (entry_in_sale s (Case s.folio) (what.Bids costs) ∷ [])

-- ---- awards

-- what an award leaves of a right: so much as its new capital, or nothing (ZVG §§ 52, 91)
abbrev pub left_with : ℕ → What
left_with cents = if cents == 0 then what.Expired else what.Remains cents

-- what an award leaves of the right of this number, by how much the base's cover has on the line of class 4
abbrev pub left_of : Sale → ℕ → RightNo → Entry
left_of s cover right = entry_in_sale s (Right s.folio right) (left_with (remaining (claimed_in s) cover right))

-- the rights that are live when the land is awarded, each with what is left of it
abbrev pub rights_left : Sale → Lowest → List Entry
rights_left s least = map (λ x. left_of s least.cover x.id) (live_by_act s.at s.folio)

-- The award stands at the case, the buyer at the title as its owner (ZVG § 90), and at each live right what is left of it.
abbrev pub award_entries : Sale → ℕ → ℕ → Lowest → List Entry
award_entries s buyer bid least =
    entry_in_sale s (Case s.folio) (what.Awarded buyer bid) ∷ entry_in_sale s (Title s.folio) (what.AwardOwner buyer) ∷ rights_left s least

-- an award brings these entries where nothing refuses it; then there is a lowest bid
abbrev pub award_brought : Sale → ℕ → ℕ → List Entry
award_brought s buyer bid = unless_refused (refusal_of_award s bid) (option_map_or (award_entries s buyer bid) (lowest s) [])

-- ---- distributions

-- a distribution stands at the case, which ends by it (ZVG § 105)
abbrev pub distribution_brought : Sale → List Entry
distribution_brought s = unless_refused (refusal_of_distribution s) (entry_in_sale s (Case s.folio) what.Distributed ∷ [])
