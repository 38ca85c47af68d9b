-- What a register tells of distributions, so that each is paid by a plan.
use Rattle.std.specs.Prelude.{◌≡◌, ◌≤◌, ℕ, List, Contains, IsTrue, Some, length}
use Rattle.gb_base.specs.declared.keys.Key.{Key}
use Rattle.act_model.specs.declared.receipts.Receipt.{Receipt}
use Rattle.conflict_queue.specs.ItemKeys.{keys_of_item}
use Rattle.folio_sections.specs.Held.{entries_at, is_held}
use Rattle.kept_registers.specs.Kept.{Kept}
use Rattle.auction_classes.specs.SaleClaims.{ClaimsState}
use Rattle.registrar.specs.KeptDistributions.{DistributionsKept, IsDistributed}
use Rattle.registrar.specs.RegisterState.{RegisterState}
use Rattle.folio_extract.specs.Plans.{distributed_by}

-- It is a kept register that holds the keys of every item. Each of its distributions is covered by its money, and each distribution
-- that a verdict tells stands in it.
pub record TellsPlans (journal : List Receipt) (register : RegisterState) : Type 0 where
  pub kept : Kept journal (entries_at register.parts)
  pub held : (n : ℕ) (k : Key) → Contains (keys_of_item journal n) k → IsTrue (is_held register.parts k)
  pub distributions : DistributionsKept journal (entries_at register.parts)
  pub verdicts : (n cents : ℕ) → distributed_by register.verdicts n ≡ Some cents → (folio : ℕ) × IsDistributed journal (entries_at register.parts) folio n cents

-- The lines of classes 4 and 6 are within the room that the claims have.
pub record LinesFit (claims : ClaimsState) : Type 0 where
  pub places_four : length claims.claimed.line_four.places ≤ claims.right_room
  pub swaps_four : length claims.claimed.line_four.swaps ≤ claims.exchange_room
  pub places_six : length claims.claimed.line_six.places ≤ claims.right_room
  pub swaps_six : length claims.claimed.line_six.swaps ≤ claims.exchange_room
