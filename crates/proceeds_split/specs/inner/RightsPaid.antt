-- What is needed to pay the rights of a class along its line.
use Rattle.std.specs.Prelude.{◌≡◌, ◌-◌, ◌≤◌, true, IfSome}
use Rattle.rank_slots.specs.Filled.{Filled}
use Rattle.rank_slots.specs.Groups.{keeps_place}
use Rattle.auction_classes.specs.SaleClaims.{SaleClaims}
use Rattle.auction_classes.specs.declared.claim_items.ClaimItem.{ClaimItem}
use Rattle.auction_classes.specs.declared.lowest_bids.Lowest.{Lowest}
use Rattle.proceeds_split.specs.Plan.{remaining_in_all}

-- the claim's right, if it is of one, stands on the line
abbrev pub IsOnLine : Filled → ClaimItem → Type 0
IsOnLine line claim = IfSome claim.right (λ id. keeps_place line.places id ≡ true)

-- what the lowest bid leaves out of its part in cash is all that remains of rights
pub record IsTakenOut (c : SaleClaims) (lowest : Lowest) : Type 0 where
  pub less : lowest.cash ≤ lowest.total
  pub taken : lowest.total - lowest.cash ≡ remaining_in_all c lowest.cover
