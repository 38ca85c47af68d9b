-- The filings of an applicant (GBO § 13).
use Rattle.std.specs.Prelude.{ℕ, Bool, false, ◌==◌, if◌then◌else◌, List, filter_map, Option, Some, None}
use Rattle.std.specs.List.{enumerate_from}
use Rattle.act_model.specs.declared.items.Item.{Item}
use Rattle.act_model.specs.declared.items.Item.TheVariants as item
use Rattle.act_model.specs.declared.receipts.Receipt.{Receipt}

-- the item is a filing of this applicant
abbrev pub is_filed_by : ℕ → Item → Bool
is_filed_by person (item.Filing f) = f.applicant == person
is_filed_by person other = false

-- the number of a numbered receipt, where it is a filing of this applicant
abbrev pub filing_of : ℕ → ℕ × Receipt → Option ℕ
filing_of person numbered = if is_filed_by person numbered.1.item then Some numbered.0 else None

-- the numbers of the filings of an applicant, ascending
abbrev pub filings_of : List Receipt → ℕ → List ℕ
filings_of journal person = filter_map (filing_of person) (enumerate_from 1 journal)
