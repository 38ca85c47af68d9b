-- Texts of folios that are shared out, one after the other.
use Rattle.std.specs.Prelude.{◌≡◌, ◌≤◌, ◌*◌, ℕ, IfOk, List, Result, Some, drop, length, max, slice_get, take}
use Rattle.std.specs.Int.{div_ceil}
use Rattle.gb_base.specs.declared.keys.Key.{Key}
use Rattle.act_model.specs.declared.receipts.Receipt.{Receipt}
use Rattle.folio_sections.specs.declared.entries.Entry.{Entry}
use Rattle.folio_extract.specs.Reports.{folio_texts}

-- how many of so many folios each desk writes at most
unfoldable pub folios_each : ℕ → ℕ → ℕ
folios_each folios desks = max (div_ceil folios desks) 1

-- What so many desks wrote of these folios: each text that was written is that of the next so many, together they are the texts of all, and
-- there are no more than one for each desk.
pub record AreTextsOf {S E : Type 0} (bytes : S → List ℕ) (journal : List Receipt) (at : Key → List Entry) (folios : List ℕ) (desks : ℕ)
    (texts : List (Result S E)) : Type 0 where
  pub written : (n : ℕ) (text : Result S E) → slice_get texts n ≡ Some text
      → IfOk text (λ s. bytes s ≡ folio_texts journal at (take (folios_each (length folios) desks) (drop (n * folios_each (length folios) desks) folios)))
  pub all : length folios ≤ length texts * folios_each (length folios) desks
  pub one_each : length texts ≤ desks
