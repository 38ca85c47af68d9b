-- What is read from the entries at a forced sale.
use Rattle.std.specs.Prelude.{ℕ, Bool, true, false, List, count_by, filter, fold, map, Option, Some, None}
use Rattle.std.specs.List.{list_any, after_last}
use Rattle.folio_sections.specs.Fronts.{below}
use Rattle.folio_sections.specs.declared.entries.Entry.{Entry}
use Rattle.folio_sections.specs.declared.entries.What.{What}
use Rattle.folio_sections.specs.declared.entries.What.TheVariants as what

-- a content distributes the proceeds (ZVG § 105)
abbrev pub is_distribution : What → Bool
is_distribution what.Distributed = true
is_distribution other = false

-- the case: what stands after the last distribution
abbrev pub case : List Entry → List Entry
case entries = after_last (λ e. is_distribution e.what) entries

-- the case, as it stood before receipt n
abbrev pub case_below : ℕ → List Entry → List Entry
case_below n entries = case (below n entries)

-- a content seizes the land (ZVG § 20)
abbrev pub is_seizure : What → Bool
is_seizure what.Seized = true
is_seizure other = false

-- the case runs: the land is seized in it (ZVG § 20)
abbrev pub is_running : List Entry → Bool
is_running entries = list_any (λ e. is_seizure e.what) (case entries)

-- how many seizures the case has (ZVG §§ 20, 27)
abbrev pub seizures : List Entry → ℕ
seizures entries = count_by (λ e. is_seizure e.what) (case entries)

-- the receipts of the case's seizures, in order (ZVG §§ 20, 27)
abbrev pub seizure_numbers : List Entry → List ℕ
seizure_numbers entries = map (λ e. e.receipt) (filter (λ e. is_seizure e.what) (case entries))

-- a content registers a claim (ZVG § 37)
abbrev pub is_registration : What → Bool
is_registration what.Registered = true
is_registration other = false

-- how many registrations the case has (ZVG § 37)
abbrev pub registrations : List Entry → ℕ
registrations entries = count_by (λ e. is_registration e.what) (case entries)

-- the receipts of the case's registrations, in order (ZVG § 37)
abbrev pub registration_numbers : List Entry → List ℕ
registration_numbers entries = map (λ e. e.receipt) (filter (λ e. is_registration e.what) (case entries))

-- the receipt of the last award after an entry: the entry's own where it is an award, else the one before
abbrev pub award_by : ℕ → Option ℕ → What → Option ℕ
award_by receipt before (what.Awarded buyer bid) = Some receipt
award_by receipt before other = before

-- the receipt of the case's last award (ZVG § 81)
abbrev pub award : List Entry → Option ℕ
award entries = fold (λ before e. award_by e.receipt before e.what) None (case entries)

-- the receipt of the last call to bid after an entry: the entry's own where it is a call, else the one before
abbrev pub call_by : ℕ → Option ℕ → What → Option ℕ
call_by receipt before (what.Bids costs) = Some receipt
call_by receipt before other = before

-- the receipt of the case's last call to bid (ZVG § 66)
abbrev pub call : List Entry → Option ℕ
call entries = fold (λ before e. call_by e.receipt before e.what) None (case entries)
