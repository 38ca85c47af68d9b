-- The rights of a folio as a sale reads them.
use Rattle.std.specs.Prelude.{◌≡◌, ◌≤◌, Bool, List, Some}
use Rattle.gb_base.specs.Limits.{most_rate}
use Rattle.gb_base.specs.RightNo.{RightNo}
use Rattle.gb_base.specs.declared.keys.Key.{Key}
use Rattle.gb_base.specs.declared.keys.Key.TheVariants.{Right}
use Rattle.folio_sections.specs.Rights.{created}
use Rattle.folio_sections.specs.declared.entries.Entry.{Entry}
use Rattle.folio_line.specs.FolioReading.{reads}
use Rattle.folio_line.specs.declared.folio_rights.CreatedRight.{CreatedRight}
use Rattle.folio_line.specs.declared.readings.FolioReading.{FolioReading}
use Rattle.auction_classes.specs.Interest.{rate_of}

-- what a reading reads at a right
abbrev pub rights_read : {P : Type 0} → (P → Key → Bool) → (P → Key → List Entry) → FolioReading P → RightNo → List Entry
rights_read holds at reading id = reads holds at reading (Right reading.folio id)

-- a right is as it is read, and its rate is none above 20 percent
pub record IsReadAs (read : RightNo → List Entry) (x : CreatedRight) : Type 0 where
  pub made : created (read x.id) ≡ Some x.made
  pub rate : rate_of x.made.spec.kind ≤ most_rate
