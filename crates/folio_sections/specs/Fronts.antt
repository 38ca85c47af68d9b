-- The entries at a key as they stood before a receipt.
use Rattle.std.specs.Prelude.{ℕ, ◌≤◌, nat_lt, List, AllPairs, filter}
use Rattle.folio_sections.specs.declared.entries.Entry.{Entry}

-- the entries by receipts below n
abbrev pub below : ℕ → List Entry → List Entry
below n entries = filter (λ e. nat_lt e.receipt n) entries

-- the receipts never fall, as at each key of a register that comes about
abbrev pub NeverFall : List Entry → Type 0
NeverFall entries = AllPairs (λ e later. e.receipt ≤ later.receipt) entries
