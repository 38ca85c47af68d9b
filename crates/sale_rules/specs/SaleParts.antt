-- The parts on which an item of a forced sale is settled.
use Rattle.std.specs.Prelude.{ℕ, ◌≤◌, ◌<◌, Bool, List, All, Contains, IsTrue}
use Rattle.gb_base.specs.declared.keys.Key.{Key}
use Rattle.act_model.specs.declared.receipts.Receipt.{Receipt}
use Rattle.folio_sections.specs.declared.entries.Entry.{Entry}
use Rattle.kept_registers.specs.Kept.{Kept}
use Rattle.kept_registers.specs.Standing.{StandsFor, StandsForKept}

-- The parts hold the item's keys, with room for an entry at each; all that stands at these is by earlier items; and the parts stand
-- for a kept register.
pub record CanSettle (journal : List Receipt) (item : ℕ) (keys : List Key) (holds : Key → Bool) (at : Key → List Entry) (room : Key → ℕ) : Type 0 where
  pub held : (k : Key) → Contains keys k → IsTrue (holds k)
  pub has_room : (k : Key) → Contains keys k → 1 ≤ room k
  pub earlier : (k : Key) → Contains keys k → All (λ e. e.receipt < item) (at k)
  pub kept : StandsForKept journal holds at

-- the statement holds of each kept register that the parts stand for
abbrev pub OfEachKept : List Receipt → (Key → Bool) → (Key → List Entry) → ((Key → List Entry) → Type 0) → Type 0
OfEachKept journal holds at Q = (register : Key → List Entry) → StandsFor holds at register → Kept journal register → Q register
