-- A sale of which its case is known, and not yet the rest of the register.
use Rattle.std.specs.Prelude.{ℕ, ◌≤◌, List, length, slice_get, IsSome, IsSomeAnd}
use Rattle.act_model.specs.Receiving.{receipt_at}
use Rattle.act_model.specs.declared.receipts.Receipt.{Receipt}
use Rattle.folio_sections.specs.Cases.{registration_numbers, seizure_numbers}
use Rattle.folio_sections.specs.Limits.{most_registrations, most_seizures}
use Rattle.folio_sections.specs.declared.entries.Entry.{Entry}
use Rattle.auction_classes.specs.Sales.{Sale, at_case}

-- the sale as item a finds it where these entries stand at the case; its folio and its other keys say nothing
abbrev pub sale_of_case : List Receipt → List Entry → ℕ → Sale
sale_of_case journal entries a = record { journal = journal; at = λ k. entries; folio = 0; item = a }

-- What lets a sale be found: the journal has the receipt of the case's first seizure, and the case has no more seizures and
-- registrations than one may have.
pub record CanFind (s : Sale) : Type 0 where
  pub seized : IsSomeAnd (slice_get (seizure_numbers (at_case s)) 0) (λ n. IsSome (receipt_at s.journal n))
  pub seizures : length (seizure_numbers (at_case s)) ≤ most_seizures
  pub registrations : length (registration_numbers (at_case s)) ≤ most_registrations
