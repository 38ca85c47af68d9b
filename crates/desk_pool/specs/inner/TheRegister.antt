-- The register of the one registrar, with all that clauses say of it.
use Rattle.std.specs.Prelude.{◌≡◌, List, length}
use Rattle.gb_base.specs.declared.keys.Key.{Key}
use Rattle.act_model.specs.declared.receipts.Receipt.{Receipt}
use Rattle.folio_sections.specs.Entries.{at}
use Rattle.folio_sections.specs.Held.{entries_at, is_given, is_held}
use Rattle.kept_registers.specs.Kept.{Kept}
use Rattle.registrar.specs.HasSettled.{HasSettled, IsRegisterOf}
use Rattle.registrar.specs.HeldKeys.{keys_of_first}
use Rattle.registrar.specs.KeptAwards.{AwardsKept}
use Rattle.registrar.specs.OpenFolios.{open_folios}
use Rattle.registrar.specs.RegisterState.{RegisterState}
use Rattle.registrar.specs.Settling.{registrar}

-- This is the register that the one registrar leaves of the journal.
pub record IsTheRegister (journal : List Receipt) (register : RegisterState) : Type 0 where
  pub settled : HasSettled journal register
  pub whole : IsRegisterOf journal register
  pub entries : entries_at register.parts ≡ at (registrar journal).entries
  pub verdicts : register.verdicts ≡ (registrar journal).verdicts
  pub folios : register.folios ≡ open_folios (registrar journal).entries
  pub held : (k : Key) → is_held register.parts k ≡ is_given (keys_of_first journal (length journal)) k
  pub kept : Kept journal (entries_at register.parts)
  pub awards : AwardsKept journal (entries_at register.parts)
