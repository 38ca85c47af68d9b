-- An award that is given brings the entries that are made.
use Rattle.std.proofs.Common.{◌≡◌, ℕ, List, [], ◌∷◌, flat_map, map, Option, Some, sym, subst}
use Rattle.std.specs.Option.{option_map_or}
use Rattle.gb_base.specs.RightNo.{RightNo}
use Rattle.gb_base.specs.declared.keys.Key.{Key}
use Rattle.gb_base.specs.declared.keys.Key.TheVariants.{Case, Title}
use Rattle.act_model.specs.declared.receipts.Receipt.{Receipt}
use Rattle.folio_line.specs.FolioRights.{live_by_act}
use Rattle.folio_sections.specs.Adding.{AddsList}
use Rattle.folio_sections.specs.Entries.{entry_by}
use Rattle.folio_sections.specs.Fronts.{below}
use Rattle.folio_sections.specs.declared.entries.Entry.{Entry}
use Rattle.folio_sections.specs.declared.entries.What.TheVariants as what
use Rattle.auction_classes.specs.SaleClaims.{SaleClaims}
use Rattle.auction_classes.specs.Sales.{sale_at}
use Rattle.auction_classes.specs.declared.lowest_bids.Lowest.{Lowest}
use Rattle.sale_rules.specs.SaleEntries.{award_entries, left_of}
use Rattle.sale_rules.specs.inner.RightsLeft.{left_at}

pub award_given : (journal : List Receipt) (item folio buyer bid : ℕ) (least : Lowest) (claimed : SaleClaims) (register : Key → List Entry) (low : Option Lowest) (ids : List RightNo) (at0 at1 : Key → List Entry) (room0 room1 : Key → ℕ)
    → low ≡ Some least
    → flat_map (left_at journal item folio claimed least.cover at0) ids
    ≡ map (λ x. left_of (sale_at journal register folio item) least.cover x.id) (live_by_act (λ k. below item (register k)) folio)
    → AddsList at0 at1 room0 room1 (entry_by journal item (Case folio) (what.Awarded buyer bid) ∷ entry_by journal item (Title folio) (what.AwardOwner buyer)
    ∷ flat_map (left_at journal item folio claimed least.cover at0) ids)
    → AddsList at0 at1 room0 room1 (option_map_or (award_entries (sale_at journal register folio item) buyer bid) low [])
award_given journal item folio buyer bid least claimed register low ids at0 at1 room0 room1 is left added =
    let s = sale_at journal register folio item in
    subst (λ o. AddsList at0 at1 room0 room1 (option_map_or (award_entries s buyer bid) o [])) (sym is)
    (subst (λ es. AddsList at0 at1 room0 room1 (entry_by journal item (Case folio) (what.Awarded buyer bid) ∷ entry_by journal item (Title folio) (what.AwardOwner buyer) ∷ es)) left added)
