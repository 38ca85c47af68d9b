-- How far a settlement has come, which may go on.
use Rattle.std.specs.Prelude.{◌≡◌, ◌+◌, List, length}
use Rattle.std.specs.List.{enumerate_from}
use Rattle.gb_base.specs.declared.keys.Key.{Key}
use Rattle.act_model.specs.declared.receipts.Receipt.{Receipt}
use Rattle.conflict_queue.specs.ItemKeys.{keys_of_item}
use Rattle.folio_sections.specs.Held.{WidensBy, entries_at, is_given, is_held}
use Rattle.registrar.specs.HeldKeys.{keys_of_first}
use Rattle.registrar.specs.RegisterState.{RegisterState}
use Rattle.registrar.specs.declared.settled.Settled.{Settled}
use Rattle.registrar.specs.inner.Listed.{AreListed}
use Rattle.registrar.specs.inner.SettledTo.{SettledTo}

-- the first items are settled, as many as have a verdict; the list of open folios is in any order
pub record IsBehind (journal : List Receipt) (s : Settled) : Type 0 where
  pub settled : SettledTo journal (length s.verdicts.items) (entries_at s.parts) s.verdicts.items
  pub held : (k : Key) → is_held s.parts k ≡ is_given (keys_of_first journal (length s.verdicts.items)) k
  pub listed : AreListed s.folios.items (entries_at s.parts)

-- the settlement as a register
abbrev pub register_of : Settled → RegisterState
register_of s = record { parts = s.parts; verdicts = enumerate_from 1 s.verdicts.items; folios = s.folios.items }

-- nothing that is settled has changed; only keys of the next item may be held besides
pub record Remains (journal : List Receipt) (before after : Settled) : Type 0 where
  pub keys : WidensBy (is_given (keys_of_item journal (length before.verdicts.items + 1))) before.parts after.parts
  pub entries : entries_at after.parts ≡ entries_at before.parts
  pub verdicts : after.verdicts.items ≡ before.verdicts.items
  pub folios : after.folios.items ≡ before.folios.items
