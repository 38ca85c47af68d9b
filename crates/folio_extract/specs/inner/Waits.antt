-- The filings that wait at a key, found in one walk over its entries.
use Rattle.std.specs.Prelude.{◌≡◌, ℕ, ◌<◌, List, fold, if◌then◌else◌, ◌&&◌, is_none, Option, Some, None}
use Rattle.folio_sections.specs.HeldRights.{last_number}
use Rattle.folio_sections.specs.Waiting.{is_notice_of}
use Rattle.folio_sections.specs.declared.entries.Entry.{Entry}
use Rattle.folio_extract.specs.declared.waiting.WaitingFiling.{WaitingFiling}

-- The map has nothing under 0, nor under a number beyond those of receipts.
pub record AreReceipts (days : ℕ → Option ℕ) : Type 0 where
  pub from_one : days 0 ≡ None
  pub to_last : (n : ℕ) → last_number < n → days n ≡ None

-- the day of the first official notice of filing n, after one entry more
abbrev pub notice_by : ℕ → Option ℕ → Entry → Option ℕ
notice_by n before e = if is_none before && is_notice_of n e.what then Some e.day else before

-- the day of the first official notice of filing n among these entries
abbrev pub first_notice : ℕ → List Entry → Option ℕ
first_notice n entries = fold (notice_by n) None entries

-- a filing that waits until this day, with its notice
abbrev pub with_notice : (ℕ → Option ℕ) → ℕ × ℕ → WaitingFiling
with_notice notices e = record { filing = e.0; until = e.1; notice = notices e.0 }
