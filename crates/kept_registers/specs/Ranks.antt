-- Which of two rights of a folio stands ahead (BGB §§ 879, 883(3); GBO § 45), read from the places at its title.
-- Why so: docs/DECISIONS.md, "Rank is read from the places".
use Rattle.std.specs.Prelude.{ℕ, Bool, true, false, not, ◌==◌, ◌&&◌, ◌||◌, nat_le, nat_lt, if◌then◌else◌, List}
use Rattle.std.specs.List.{before_first, list_any}
use Rattle.std.specs.Option.{option_map_or}
use Rattle.gb_base.specs.RightNo.{RightNo}
use Rattle.act_model.specs.Acts.{is_in_division_three}
use Rattle.folio_sections.specs.Places.{behind, own_place}
use Rattle.folio_sections.specs.declared.entries.Created.{Created}
use Rattle.folio_sections.specs.declared.title_places.TitlePlace.{TitlePlace}

-- what the rank of a right is read by: its filing, its group there, and whether it is of division III
pub record Ranked : Type 0 where
  pub filing : ℕ
  pub group : ℕ
  pub third : Bool

-- what the rank of a right is read by, of a right as it was created
abbrev pub ranked : RightNo → Created → Ranked
ranked right made = record { filing = right.receipt; group = made.spec.group; third = is_in_division_three made.spec.kind }

-- both are of division III, or both of division II
abbrev pub same_division : Bool → Bool → Bool
same_division true third = third
same_division false third = not third

-- filing m's place stands ahead of filing n's
abbrev pub is_placed_ahead : List TitlePlace → ℕ → ℕ → Bool
is_placed_ahead standing m n = list_any (λ p. p.filing == m) (before_first (λ p. p.filing == n) standing)

-- both filings have places, and the test holds of the two
abbrev pub places_are : (TitlePlace → TitlePlace → Bool) → List TitlePlace → ℕ → ℕ → Bool
places_are test standing m n = option_map_or (λ p. option_map_or (test p) (own_place n standing) false) (own_place m standing) false

-- filing m's place is of an earlier day than filing n's
abbrev pub is_of_earlier_day : List TitlePlace → ℕ → ℕ → Bool
is_of_earlier_day standing m n = places_are (λ p q. nat_lt p.day q.day) standing m n

-- both are of one day
abbrev pub are_of_one_day : List TitlePlace → ℕ → ℕ → Bool
are_of_one_day standing m n = places_are (λ p q. p.day == q.day) standing m n

-- the right stands behind filing m or a later one of the other division, on the day of its place
abbrev pub is_behind : List TitlePlace → ℕ → Ranked → Bool
is_behind standing m x = option_map_or (λ n. nat_le m n) (behind x.third x.filing standing) false

-- Right x stands ahead of right y. Within one filing the smaller group is ahead, in one division the earlier place, else the
-- earlier day. On one day x is ahead where y stands behind x's filing, or behind a later one.
abbrev pub is_ahead : List TitlePlace → Ranked → Ranked → Bool
is_ahead standing x y =
    if x.filing == y.filing then nat_lt x.group y.group
    else (if same_division x.third y.third then is_placed_ahead standing x.filing y.filing
    else is_of_earlier_day standing x.filing y.filing || (are_of_one_day standing x.filing y.filing && is_behind standing x.filing y))

-- right x is ahead of right y in the order of filing and group
abbrev pub is_filed_ahead : Ranked → Ranked → Bool
is_filed_ahead x y = nat_lt x.filing y.filing || (x.filing == y.filing && nat_lt x.group y.group)
