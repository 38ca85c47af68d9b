-- The earlier filings that wait at a right and stand above a number, and their applicants: those whom a walk still has to ask.
use Rattle.std.specs.Prelude.{ℕ, List, filter, filter_map, Option}
use Rattle.act_model.specs.declared.receipts.Receipt.{Receipt}
use Rattle.act_model.specs.Touches.{applicant_of}
use Rattle.folio_sections.specs.Waiting.{is_above, waiting_before}
use Rattle.folio_sections.specs.declared.entries.Entry.{Entry}

-- the earlier filings that wait above the number; all that wait where there is no number
abbrev pub left_above : Option ℕ → ℕ → List Entry → List ℕ
left_above after m entries = filter (is_above after) (waiting_before m entries)

-- the applicants of the earlier filings that wait above the number
abbrev pub applicants_above : List Receipt → Option ℕ → ℕ → List Entry → List ℕ
applicants_above journal after m entries = filter_map (applicant_of journal) (left_above after m entries)
