-- The places of a folio (BGB § 879, GBO § 45). A filing's place is set by its official notice or by its Placed.
use Rattle.std.specs.Prelude.{ℕ, Bool, true, false, ◌&&◌, ◌==◌, if◌then◌else◌, List, filter_map, find, fold, Option, Some, None, option_and_then}
use Rattle.std.specs.List.{before_first}
use Rattle.gb_base.specs.declared.keys.Key.{Key}
use Rattle.gb_base.specs.declared.keys.Key.TheVariants.{Title}
use Rattle.act_model.specs.declared.receipts.Receipt.{Receipt}
use Rattle.act_model.specs.Touches.{acts_of}
use Rattle.folio_sections.specs.declared.entries.Entry.{Entry}
use Rattle.folio_sections.specs.declared.entries.What.{What}
use Rattle.folio_sections.specs.declared.title_places.TitlePlace.{TitlePlace}
use Rattle.act_model.specs.Divisions.{create_in_division, creates_there}
use Rattle.folio_sections.specs.declared.entries.What.TheVariants as what

-- the place of filing n in the folio on this day
abbrev pub place_of : List Receipt → ℕ → ℕ → ℕ → TitlePlace
place_of journal folio day n = record {
  filing = n;
  day = day;
  second = create_in_division false folio (acts_of journal n);
  third = create_in_division true folio (acts_of journal n);
}

-- the place that the official notice of filing n sets on this day, where the filing creates a right in the folio
abbrev pub noticed_place : List Receipt → ℕ → ℕ → ℕ → Option TitlePlace
noticed_place journal folio day n = if creates_there journal folio n then Some (place_of journal folio day n) else None

-- the place that a content sets on this day
abbrev pub place_by : List Receipt → ℕ → ℕ → What → Option TitlePlace
place_by journal folio day (what.Placed filing second third) =
    Some (record { filing = filing; day = day; second = second; third = third })
place_by journal folio day (what.Notice filing) = noticed_place journal folio day filing
place_by journal folio day other = None

-- the places that entries at the title of a folio set, in order
abbrev pub places_among : List Receipt → ℕ → List Entry → List TitlePlace
places_among journal folio entries = filter_map (λ e. place_by journal folio e.day e.what) entries

-- the places of a folio, in order
abbrev pub places : List Receipt → (Key → List Entry) → ℕ → List TitlePlace
places journal at folio = places_among journal folio (at (Title folio))

-- the place of filing m among these
abbrev pub own_place : ℕ → List TitlePlace → Option TitlePlace
own_place m standing = find (λ p. p.filing == m) standing

-- the filing of this place where it is of the other division and set on this day, else the one before
abbrev pub behind_by : Bool → ℕ → Option ℕ → TitlePlace → Option ℕ
behind_by third day before p = if p.day == day && (if third then p.second else p.third) then Some p.filing else before

-- The filing of the last place of the other division ahead of filing m's own that was set on the same day (GBO § 45(2)), for
-- a right of division III, or else of division II.
abbrev pub behind : Bool → ℕ → List TitlePlace → Option ℕ
behind third m standing =
    option_and_then (λ own. fold (behind_by third own.day) None (before_first (λ p. p.filing == m) standing)) (own_place m standing)
