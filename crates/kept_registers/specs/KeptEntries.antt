-- What holds of the entries at each key of a register that comes about.
use Rattle.std.specs.Prelude.{◌≡◌, ℕ, ◌≤◌, List, All, AllPairs, IfSome, Some, option_map}
use Rattle.gb_base.specs.declared.keys.Key.{Key}
use Rattle.gb_base.specs.declared.keys.Key.TheVariants.{Title, Right, Case}
use Rattle.act_model.specs.declared.receipts.Receipt.{Receipt}
use Rattle.act_model.specs.Receiving.{receipt_at}
use Rattle.folio_sections.specs.Places.{place_by}
use Rattle.folio_sections.specs.declared.entries.Entry.{Entry}
use Rattle.folio_sections.specs.declared.entries.What.{What}
use Rattle.folio_sections.specs.declared.entries.What.TheVariants as what

-- the filing of a place that an entry sets is its receipt or an earlier one
abbrev pub IsPlacedInTime : List Receipt → Entry → Key → Type 0
IsPlacedInTime journal e (Title folio) = IfSome (place_by journal folio e.day e.what) (λ p. p.filing ≤ e.receipt)
IsPlacedInTime journal e (Right folio right) = Unit {0}
IsPlacedInTime journal e (Case folio) = Unit {0}

-- the filing that an entry sets to wait is its receipt or an earlier one
abbrev pub WaitsInTime : ℕ → What → Type 0
WaitsInTime receipt (what.Pending filing until) = filing ≤ receipt
WaitsInTime receipt other = Unit {0}

-- the filing of a right that an entry creates is its receipt or an earlier one
abbrev pub IsCreatedInTime : ℕ → Key → What → Type 0
IsCreatedInTime receipt (Right folio right) (what.Created made) = right.receipt ≤ receipt
IsCreatedInTime receipt key other = Unit {0}

-- the journal has the entry's receipt, and the entry is of that receipt's stamp day
abbrev pub IsStamped : List Receipt → Entry → Type 0
IsStamped journal e = option_map (λ r. r.stamp.day) (receipt_at journal e.receipt) ≡ Some e.day

-- At each key receipts never fall, each entry is of the stamp day of its receipt, and what it names was received before it or
-- with it.
pub record ReceiptsRise (journal : List Receipt) (at : Key → List Entry) : Type 0 where
  pub never_fall : (k : Key) → AllPairs (λ e later. e.receipt ≤ later.receipt) (at k)
  pub days : (k : Key) → All (IsStamped journal) (at k)
  pub placed : (k : Key) → All (λ e. IsPlacedInTime journal e k) (at k)
  pub waiting : (k : Key) → All (λ e. WaitsInTime e.receipt e.what) (at k)
  pub created : (k : Key) → All (λ e. IsCreatedInTime e.receipt k e.what) (at k)
