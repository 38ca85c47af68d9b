-- Scratches, as a round prepares them.
use Rattle.std.specs.Prelude.{ℕ, ◌-◌, ◌≤◌, List, length}
use Rattle.gb_base.specs.declared.keys.Key.{Key}
use Rattle.gb_base.specs.declared.keys.Key.TheVariants.{Case}
use Rattle.act_model.specs.declared.receipts.Receipt.{Receipt}
use Rattle.folio_sections.specs.Entries.{at}
use Rattle.registrar.specs.HasSettled.{settled_first}
use Rattle.registrar.specs.Rooms.{IsForFolio}
use Rattle.sale_rules.specs.ScratchRoom.{ScratchRoom}

-- the scratch has room for each item that computes a lowest bid in the folio
abbrev pub ServesFolio : List Receipt → ℕ → ScratchRoom → Type 0
ServesFolio journal folio scratch = (i : ℕ) → i ≤ length journal → IsForFolio journal i folio (at (settled_first journal (i - 1)).entries) scratch

-- where the key is that of a sale, the scratch has room for each item that computes a lowest bid in its folio
abbrev pub ServesAt : List Receipt → Key → ScratchRoom → Type 0
ServesAt journal (Case folio) scratch = ServesFolio journal folio scratch
ServesAt journal other scratch = Unit {0}

-- The new scratch has at least the room of the old one.
pub record IsNoSmaller (old new : ScratchRoom) : Type 0 where
  pub rights : old.rights ≤ new.rights
  pub exchanges : old.exchanges ≤ new.exchanges
