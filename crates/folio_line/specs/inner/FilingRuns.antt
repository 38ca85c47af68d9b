-- The rights of one filing.
use Rattle.std.specs.Prelude.{◌≡◌, ℕ, Bool, true, ◌==◌, List}
use Rattle.std.specs.List.{AllByRecursion}
use Rattle.folio_line.specs.declared.folio_rights.CreatedRight.{CreatedRight}

-- the right is of this filing
abbrev pub is_of_filing : ℕ → CreatedRight → Bool
is_of_filing filing x = x.id.receipt == filing

-- the rights at each number are of the filing of that number
abbrev pub AreOfFilings : (ℕ → List CreatedRight) → Type 0
AreOfFilings rights = (m : ℕ) → AllByRecursion (λ x. is_of_filing m x ≡ true) (rights m)
