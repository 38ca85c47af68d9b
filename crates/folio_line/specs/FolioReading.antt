-- What is read of a folio: its entries as they stand, or as they stood before a receipt.
use Rattle.std.specs.Prelude.{ℕ, Bool, if◌then◌else◌, List, [], Option, Some, None, IfSome, IsTrue}
use Rattle.gb_base.specs.RightNo.{RightNo}
use Rattle.gb_base.specs.declared.keys.Key.{Key}
use Rattle.gb_base.specs.declared.keys.Key.TheVariants.{Right}
use Rattle.folio_sections.specs.Fronts.{NeverFall, below}
use Rattle.folio_sections.specs.declared.entries.Entry.{Entry}
use Rattle.folio_line.specs.declared.readings.FolioReading.{FolioReading}

-- what is read at a key: the entries there, or where a reading stops before receipt n, those of them by receipts below n
abbrev pub read_at : Option ℕ → (Key → List Entry) → Key → List Entry
read_at None at key = at key
read_at (Some n) at key = below n (at key)

-- the entries at a key that is held, and none at any other
abbrev pub where_held : (Key → Bool) → (Key → List Entry) → Key → List Entry
where_held holds at key = if holds key then at key else []

-- what a reading of parts reads at a key: nothing where the key is not held
abbrev pub reads : {P : Type 0} → (P → Key → Bool) → (P → Key → List Entry) → FolioReading P → Key → List Entry
reads holds at reading = read_at reading.before (where_held (holds reading.parts.now) (at reading.parts.now))

-- where a reading stops before a receipt, receipts never fall at the rights of the folio that are held
abbrev pub CanBeRead : {P : Type 0} → (P → Key → Bool) → (P → Key → List Entry) → FolioReading P → Type 0
CanBeRead holds at reading =
    IfSome reading.before (λ _. (id : RightNo) → IsTrue (holds reading.parts.now (Right reading.folio id)) → NeverFall (at reading.parts.now (Right reading.folio id)))
