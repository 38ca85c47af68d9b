-- The line of a folio in lists that have room.
use Rattle.std.specs.Prelude.{◌≡◌, ℕ, List, [], filter_map, flat_map, sum_by}
use Rattle.gb_base.specs.RightNo.{RightNo}
use Rattle.gb_base.specs.declared.keys.Key.{Key}
use Rattle.gb_base.specs.declared.keys.Key.TheVariants.{Right}
use Rattle.folio_sections.specs.Rights.{exchanges}
use Rattle.folio_sections.specs.declared.entries.Entry.{Entry}
use Rattle.rank_slots.specs.declared.places.Knot.{Knot}
use Rattle.folio_line.specs.Exchanges.{counted_exchanges, counted_exercises, rise_by}
use Rattle.folio_line.specs.FolioRights.{live_rights, rights_where}
use Rattle.folio_line.specs.FolioSlots.{stands_on_line}
use Rattle.folio_line.specs.declared.exchanges.Exchange.{Exchange}
use Rattle.folio_line.specs.declared.folio_rights.CreatedRight.{CreatedRight}

-- what the lists have, what they have room for, and how much memory they have
pub record LineState : Type 0 where
  pub rights : List CreatedRight
  pub live : List CreatedRight
  pub exchanges : List Exchange
  pub exercises : List Knot
  pub right_room : ℕ
  pub exchange_room : ℕ
  pub capacity : ℕ

-- nothing stands on the line
pub record IsEmpty (line : LineState) : Type 0 where
  pub rights : line.rights ≡ []
  pub live : line.live ≡ []
  pub exchanges : line.exchanges ≡ []
  pub exercises : line.exercises ≡ []

-- The lists are the line of the folio: the rights that stand on it and those of them that are live, by filing, group and act, the
-- exchanges that count, by item and act, and the exercised reservations that count.
pub record IsLineOf (at : Key → List Entry) (folio : ℕ) (line : LineState) : Type 0 where
  pub rights : line.rights ≡ rights_where (stands_on_line (counted_exchanges at folio)) at folio
  pub live : line.live ≡ live_rights at folio
  pub exchanges : line.exchanges ≡ counted_exchanges at folio
  pub exercises : line.exercises ≡ counted_exercises at folio

-- the exchanges by which the right rises, whether they count or not
abbrev pub rises_of : (Key → List Entry) → ℕ → RightNo → List Exchange
rises_of at folio id = filter_map (λ e. rise_by id e.receipt e.what) (at (Right folio id))

-- the exchanges by which one of these rights rises, whether they count or not
abbrev pub all_rises : (Key → List Entry) → ℕ → List RightNo → List Exchange
all_rises at folio ids = flat_map (rises_of at folio) ids

-- how many exchanges these rights are in, each exchange at both of its rights, whether they count or not
abbrev pub all_exchanges : (Key → List Entry) → ℕ → List RightNo → ℕ
all_exchanges at folio ids = sum_by (λ id. exchanges (at (Right folio id))) ids
