-- The summary: how many receipts became what, and what stands in the register at the end.
use Rattle.std.specs.Prelude.{ℕ, ◌+◌, Bool, true, false, ◌||◌, not, List, ◌++◌, codes, length, map, count_by, sum_by}
use Rattle.std.specs.Fmt.{decimal}
use Rattle.gb_base.specs.Texts.{euro}
use Rattle.gb_base.specs.declared.keys.Key.{Key}
use Rattle.folio_sections.specs.Entries.{at as at_key}
use Rattle.folio_sections.specs.declared.entries.Entry.{Entry}
use Rattle.folio_line.specs.FolioRights.{live_rights}
use Rattle.folio_line.specs.FolioSlots.{capital_at}
use Rattle.registrar.specs.OpenFolios.{open_folios}
use Rattle.registrar.specs.Settling.{Settlement}
use Rattle.registrar.specs.declared.verdicts.Verdict.{Verdict}
use Rattle.registrar.specs.declared.verdicts.Verdict.TheVariants as verdict

-- ---- what a verdict counts as

-- the filing is entered at once
abbrev pub is_entered : Verdict → Bool
is_entered verdict.Entered = true
is_entered other = false

-- the filing, the filing that a cure names, the item of a forced sale or the bid is rejected
abbrev pub is_rejected : Verdict → Bool
is_rejected (verdict.Rejected section) = true
is_rejected (verdict.CureRejected section) = true
is_rejected (verdict.BidTooLow bid cash) = true
is_rejected other = false

-- the filing waits by an interim order
abbrev pub is_interim : Verdict → Bool
is_interim (verdict.Interim until defects) = true
is_interim other = false

-- the filing that the cure names is entered
abbrev pub is_cured : Verdict → Bool
is_cured verdict.Cured = true
is_cured other = false

-- it is neither entered, rejected, interim nor cured
abbrev pub is_other : Verdict → Bool
is_other v = not (is_entered v || (is_rejected v || (is_interim v || is_cured v)))

-- the money that is distributed, in cents; 0 of every other verdict
abbrev pub money_of : Verdict → ℕ
money_of (verdict.Distributed money) = money
money_of other = 0

-- ---- what stands in a folio

-- how many rights are live in a folio
abbrev pub rights_in : (Key → List Entry) → ℕ → ℕ
rights_in at folio = length (live_rights at folio)

-- the capitals of a folio's live rights together, in cents
abbrev pub capital_in : (Key → List Entry) → ℕ → ℕ
capital_in at folio = sum_by (λ x. capital_at at folio x.id) (live_rights at folio)

-- ---- the lines

-- a number behind a word and a space
abbrev pub number_line : List ℕ → ℕ → List ℕ
number_line word number = word ++ (decimal number ++ codes "\n")

-- an amount of cents behind a word and a space
abbrev pub amount_line : List ℕ → ℕ → List ℕ
amount_line word cents = word ++ (euro cents ++ codes "\n")

-- how many receipts there are, are entered, and are rejected
abbrev pub decided_lines : List Verdict → List ℕ
decided_lines verdicts =
    number_line (codes "receipts ") (length verdicts) ++ (number_line (codes "entered ") (count_by is_entered verdicts)
    ++ number_line (codes "rejected ") (count_by is_rejected verdicts))

-- how many wait, are cured, and became anything else
abbrev pub other_lines : List Verdict → List ℕ
other_lines verdicts =
    number_line (codes "interim ") (count_by is_interim verdicts) ++ (number_line (codes "cured ") (count_by is_cured verdicts)
    ++ number_line (codes "other ") (count_by is_other verdicts))

-- how many folios are open, how many rights are live in them, and the capitals of these
abbrev pub standing_lines : (Key → List Entry) → List ℕ → List ℕ
standing_lines at folios =
    number_line (codes "folios ") (length folios) ++ (number_line (codes "rights ") (sum_by (rights_in at) folios)
    ++ amount_line (codes "capital ") (sum_by (capital_in at) folios))

-- the summary of these verdicts, of what stands at each key, and of these folios; the last line is the money of all distributions
unfoldable pub summary_text : List Verdict → (Key → List Entry) → List ℕ → List ℕ
summary_text verdicts at folios =
    decided_lines verdicts ++ (other_lines verdicts ++ (standing_lines at folios ++ amount_line (codes "paid ") (sum_by money_of verdicts)))

-- the summary of what is settled
abbrev pub summary : Settlement → List ℕ
summary settled = summary_text (map (λ v. v.1) settled.verdicts) (at_key settled.entries) (open_folios settled.entries)
