-- The filings that wait at a key, with the days of their official notices (GBO § 18).
use Rattle.std.specs.Prelude.{ℕ, List, filter_map, Option, option_map}
use Rattle.folio_sections.specs.HeldRights.{receipt_numbers}
use Rattle.folio_sections.specs.Waiting.{notice, pending}
use Rattle.folio_sections.specs.declared.entries.Entry.{Entry}
use Rattle.folio_extract.specs.declared.waiting.WaitingFiling.{WaitingFiling}

-- filing n, where it waits
abbrev pub waiting_at : List Entry → ℕ → Option WaitingFiling
waiting_at entries n = option_map (λ until. record { filing = n; until = until; notice = notice n entries }) (pending n entries)

-- the filings that wait, ascending
abbrev pub waiting_filings : List Entry → List WaitingFiling
waiting_filings entries = filter_map (waiting_at entries) receipt_numbers
