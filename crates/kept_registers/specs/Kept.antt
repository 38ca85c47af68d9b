-- What every register that comes about keeps, whatever was filed.
-- Why so: docs/DECISIONS.md, "`Kept` says of rights what their places say".
use Rattle.std.specs.Prelude.{List}
use Rattle.gb_base.specs.declared.keys.Key.{Key}
use Rattle.act_model.specs.declared.receipts.Receipt.{Receipt}
use Rattle.kept_registers.specs.KeptCases.{CaseInOrder}
use Rattle.kept_registers.specs.KeptEntries.{ReceiptsRise}
use Rattle.kept_registers.specs.KeptPlaces.{PendingEverywhere, PlacesAscend}
use Rattle.kept_registers.specs.KeptRights.{CreatedAsFiled, EnteredInPlace, ExchangedAreUntied}
use Rattle.folio_sections.specs.declared.entries.Entry.{Entry}

-- All that is kept, of a journal and of what stands at each key.
pub record Kept (journal : List Receipt) (at : Key → List Entry) : Type 0 where
  pub receipts_rise : ReceiptsRise journal at
  pub places_ascend : PlacesAscend journal at
  pub pending_everywhere : PendingEverywhere journal at
  pub created_as_filed : CreatedAsFiled journal at
  pub entered_in_place : EnteredInPlace journal at
  pub exchanged_are_untied : ExchangedAreUntied journal at
  pub case_in_order : CaseInOrder journal at
