-- The sums so far, to which each registration adds a bounded number.
use Rattle.std.proofs.Common.{◌≡◌, ℕ, ◌+◌, ◌*◌, ◌≤◌, Bool, true, false, take}
use Rattle.auction_classes.specs.Claims.{arrears_found}
use Rattle.auction_classes.specs.Interest.{arrears_in_class, old_arrears}
use Rattle.auction_classes.specs.inner.InterestLimits.{most_of_term}
use Rattle.auction_classes.specs.declared.accruals.Accrual.{Accrual}
use Rattle.auction_classes.specs.declared.rights_found.ArrearsFound.{ArrearsFound}
use Rattle.auction_classes.proofs.rights_found.arrears_found.Given as goal

-- all four sums, of as many registrations as are read, where a part of those that are timely, or late, comes to so much
pub record AreSums (read : (Accrual → ℕ → ℕ → ℕ) → Bool → ℕ) (index : ℕ) (found : ArrearsFound) : Type 0 where
  pub timely : found.timely.in_class ≡ read arrears_in_class false
  pub timely_older : found.timely.older ≡ read old_arrears false
  pub late : found.late.in_class ≡ read arrears_in_class true
  pub late_older : found.late.older ≡ read old_arrears true
  pub few : found.timely.in_class + found.late.in_class ≤ index * most_of_term
  pub few_older : found.timely.older + found.late.older ≤ index * most_of_term

abbrev pub invariant-loop-registered : goal.invariant-loop-registered
invariant-loop-registered l =
    AreSums (λ part late. arrears_found part late l.accrual l.right (take l.registered-index l.registrations)) l.registered-index l.found
