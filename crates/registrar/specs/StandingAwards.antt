-- The registers that parts stand for, of which an item may be settled.
-- Why so: docs/DECISIONS.md, "A step speaks of every register that its parts stand for".
use Rattle.std.specs.Prelude.{Bool, List}
use Rattle.gb_base.specs.declared.keys.Key.{Key}
use Rattle.act_model.specs.declared.receipts.Receipt.{Receipt}
use Rattle.folio_sections.specs.declared.entries.Entry.{Entry}
use Rattle.kept_registers.specs.Kept.{Kept}
use Rattle.kept_registers.specs.Standing.{StandsFor}
use Rattle.registrar.specs.KeptAwards.{AwardsKept}

-- the parts stand for a kept register that keeps its awards
pub record StandsForKeptAwards (journal : List Receipt) (holds : Key → Bool) (at : Key → List Entry) : Type 0 where
  pub register : Key → List Entry
  pub stands : StandsFor holds at register
  pub kept : Kept journal register
  pub awards : AwardsKept journal register
