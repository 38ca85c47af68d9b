-- Lists with a value of each of several filings.
use Rattle.std.specs.Prelude.{ℕ, ◌==◌, List, if◌then◌else◌, Option, Some, None, find, option_map}
use Rattle.gb_base.specs.Ascending.{AscendsBy}
use Rattle.folio_sections.specs.declared.filing_list.OfFiling.{OfFiling}

-- the filings ascend, and none is below n
abbrev pub Ascends : {V : Type 0} → ℕ → List (OfFiling V) → Type 0
Ascends n xs = AscendsBy (λ x. x.filing) n xs

-- what stands there of filing m
abbrev pub of_filing : {V : Type 0} → ℕ → List (OfFiling V) → Option (OfFiling V)
of_filing m xs = find (λ x. x.filing == m) xs

-- this one, where it is of filing m
abbrev pub at_filing : {V : Type 0} → ℕ → Option (OfFiling V) → Option (OfFiling V)
at_filing m (Some x) = if x.filing == m then Some x else None
at_filing m None = None

-- the value of filing m
abbrev pub value_in : {V : Type 0} → ℕ → List (OfFiling V) → Option V
value_in m xs = option_map (λ x. x.value) (of_filing m xs)
