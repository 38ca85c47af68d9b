-- The registers that parts stand for.
-- Why so: docs/DECISIONS.md, "A step speaks of every register that its parts stand for".
use Rattle.std.specs.Prelude.{◌≡◌, Bool, List, IsTrue}
use Rattle.gb_base.specs.declared.keys.Key.{Key}
use Rattle.act_model.specs.declared.receipts.Receipt.{Receipt}
use Rattle.kept_registers.specs.Kept.{Kept}
use Rattle.folio_sections.specs.declared.entries.Entry.{Entry}

-- at each key that is held the parts say what the register says
abbrev pub StandsFor : (Key → Bool) → (Key → List Entry) → (Key → List Entry) → Type 0
StandsFor holds at register = (k : Key) → IsTrue (holds k) → at k ≡ register k

-- the parts stand for a kept register
pub record StandsForKept (journal : List Receipt) (holds : Key → Bool) (at : Key → List Entry) : Type 0 where
  pub register : Key → List Entry
  pub stands : StandsFor holds at register
  pub kept : Kept journal register
