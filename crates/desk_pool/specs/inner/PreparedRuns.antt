-- How far a settlement in prepared parts has come.
use Rattle.std.specs.Prelude.{◌≡◌, ℕ, ◌-◌, List, Contains, Some, slice_get}
use Rattle.gb_base.specs.declared.keys.Key.{Key}
use Rattle.act_model.specs.declared.receipts.Receipt.{Receipt}
use Rattle.folio_sections.specs.Entries.{at}
use Rattle.folio_sections.specs.Held.{entries_at}
use Rattle.registrar.specs.Brings.{brings}
use Rattle.registrar.specs.HasSettled.{settled_first}
use Rattle.registrar.specs.Settling.{settled_in_order}
use Rattle.desk_pool.specs.Preparing.{HasPlaces}
use Rattle.desk_pool.specs.declared.register_frames.RegisterFrame.{RegisterFrame}

-- the items of these numbers are settled, in this order, and each has the verdict that it has in the order of receipts
pub record HasTaken (journal : List Receipt) (done : List ℕ) (s : RegisterFrame) : Type 0 where
  pub places : HasPlaces journal s
  pub entries : (k : Key) → entries_at s.parts k ≡ at (settled_in_order journal done).entries k
  pub verdicts : (n : ℕ) → Contains done n → slice_get s.verdicts.items (n - 1) ≡ Some (brings journal n (at (settled_first journal (n - 1)).entries)).verdict
