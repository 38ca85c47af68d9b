-- A register after the first items of a journal.
use Rattle.std.specs.Prelude.{◌≡◌, ℕ, List, length}
use Rattle.std.specs.List.{range_with_len}
use Rattle.gb_base.specs.declared.keys.Key.{Key}
use Rattle.act_model.specs.declared.receipts.Receipt.{Receipt}
use Rattle.folio_sections.specs.Entries.{at}
use Rattle.folio_sections.specs.Held.{entries_at, is_given, is_held}
use Rattle.registrar.specs.HeldKeys.{keys_of_first}
use Rattle.registrar.specs.OpenFolios.{open_folios}
use Rattle.registrar.specs.RegisterState.{RegisterState}
use Rattle.registrar.specs.Settling.{Settlement, settled_in_order}

-- what settling the first n items in the order of their receipts comes to
abbrev pub settled_first : List Receipt → ℕ → Settlement
settled_first journal n = settled_in_order journal (range_with_len 1 n)

-- the register is what the one registrar has after the first items, as many as have a verdict
pub record HasSettled (journal : List Receipt) (register : RegisterState) : Type 0 where
  pub entries : entries_at register.parts ≡ at (settled_first journal (length register.verdicts)).entries
  pub verdicts : register.verdicts ≡ (settled_first journal (length register.verdicts)).verdicts
  pub folios : register.folios ≡ open_folios (settled_first journal (length register.verdicts)).entries
  pub held : (k : Key) → is_held register.parts k ≡ is_given (keys_of_first journal (length register.verdicts)) k

-- the register is that of the one registrar, who has settled the whole journal
pub record IsRegisterOf (journal : List Receipt) (register : RegisterState) : Type 0 where
  pub settled : HasSettled journal register
  pub whole : length register.verdicts ≡ length journal
