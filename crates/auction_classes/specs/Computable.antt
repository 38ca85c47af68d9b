-- What is needed to compute with claims: lines that can be filled, and sums that do not overflow.
use Rattle.std.specs.Prelude.{◌≡◌, ◌<◌, true, List, All, sum_by}
use Rattle.gb_base.specs.Limits.{most_sum}
use Rattle.act_model.specs.declared.sales.Basis.{Basis}
use Rattle.act_model.specs.declared.sales.Basis.TheVariants as basis
use Rattle.rank_slots.specs.CanFill.{CanFill}
use Rattle.rank_slots.specs.Filled.{Filled}
use Rattle.rank_slots.specs.Groups.{keeps_place}
use Rattle.auction_classes.specs.LowestBid.{cents_ahead, personal_amount}
use Rattle.auction_classes.specs.SaleClaims.{SaleClaims}
use Rattle.auction_classes.specs.declared.claim_items.RightClaimed.{RightClaimed}
use Rattle.auction_classes.specs.declared.claim_items.SeizedFor.{SeizedFor}
use Rattle.auction_classes.specs.declared.class_lines.ClassLine.{ClassLine}

-- what a class's lists fill a line with
abbrev pub filled_of : ClassLine → Filled
filled_of line = record { places = line.places.items; swaps = line.swaps.items; knots = line.knots.items }

-- the right from which is seized has a place on the line
abbrev pub CanCover : Filled → Basis → Type 0
CanCover filled (basis.Personal creditor claim) = Unit {0}
CanCover filled (basis.FromRight right) = keeps_place filled.places right ≡ true

-- each seizure that is served can be covered on the line
abbrev pub CanCoverServed : Filled → List SeizedFor → Type 0
CanCoverServed filled seizures = All (λ z. z.served ≡ true → CanCover filled z.basis) seizures

-- each of these rights stands on the line
abbrev pub AreOnLine : Filled → List RightClaimed → Type 0
AreOnLine filled rights = All (λ x. keeps_place filled.places x.right ≡ true) rights

pub record IsComputable (c : SaleClaims) : Type 0 where
  pub four : CanFill c.line_four
  pub six : CanFill c.line_six
  pub costs : c.costs < most_sum
  pub ahead : sum_by cents_ahead c.items < most_sum
  pub personal : sum_by (λ z. personal_amount z.basis) c.seizures < most_sum
  pub seized : CanCoverServed c.line_four c.seizures
  pub rights : AreOnLine c.line_four c.rights
