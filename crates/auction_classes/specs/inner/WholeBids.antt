-- The lowest bid where each seizure that is served is a personal creditor's (ZVG §§ 44, 49, 52): it is computed from what is claimed, without the line.
use Rattle.std.specs.Prelude.{ℕ, ◌+◌, ◌-◌, ◌<◌, Bool, true, false, not, ◌==◌, ◌||◌, if◌then◌else◌, List, [], ◌∷◌, All, sum_by, Option, Some, None, option_map}
use Rattle.std.specs.List.{list_all}
use Rattle.gb_base.specs.Limits.{most_sum}
use Rattle.act_model.specs.declared.sales.Basis.{Basis}
use Rattle.act_model.specs.declared.sales.Basis.TheVariants as basis
use Rattle.auction_classes.specs.LowestBid.{cents_ahead, personal_amount}
use Rattle.auction_classes.specs.inner.LinesRead.{HasLowInterest}
use Rattle.auction_classes.specs.declared.claim_items.ClaimItem.{ClaimItem}
use Rattle.auction_classes.specs.declared.claim_items.SeizedFor.{SeizedFor}
use Rattle.auction_classes.specs.declared.claim_lists.ClaimLists.{ClaimLists}
use Rattle.auction_classes.specs.declared.lowest_bids.Lowest.{Lowest}
use Rattle.auction_classes.specs.declared.rights_found.RightFound.{RightFound}

-- ---- the seizures

-- a personal creditor seizes
abbrev pub is_personal : Basis → Bool
is_personal (basis.Personal creditor claim) = true
is_personal (basis.FromRight right) = false

-- each of these seizures that is served is a personal creditor's
abbrev pub are_personal : List SeizedFor → Bool
are_personal seizures = list_all (λ z. is_personal z.basis || not z.served) seizures

-- what personal creditors seized for before the first of these seizures that is served, with so much before them all; none where none is served
abbrev pub before_served : ℕ → List SeizedFor → Option ℕ
before_served before [] = None
before_served before (z ∷ zs) = if z.served then Some before else before_served (before + personal_amount z.basis) zs

-- ---- the rights

-- what a right of class 4 claims, interest and capital; nothing where it is of class 6
abbrev pub claim_in_four : RightFound → ℕ
claim_in_four x = if x.class == 4 then x.interest + x.capital else 0

-- the capital of a right of class 4, which remains; nothing where it is of class 6
abbrev pub capital_in_four : RightFound → ℕ
capital_in_four x = if x.class == 4 then x.capital else 0

-- ---- the bid

-- the lowest bid where personal creditors seized for so much before the base: all that rights of class 4 claim is covered, and their capital remains
abbrev pub whole_bid_by : ℕ → List ClaimItem → List RightFound → ℕ → Lowest
whole_bid_by costs items found before = record {
  total = costs + (sum_by cents_ahead items + (sum_by claim_in_four found + before));
  cash = costs + (sum_by cents_ahead items + (sum_by claim_in_four found + before)) - sum_by capital_in_four found;
  cover = sum_by claim_in_four found;
}

abbrev pub whole_bid : ℕ → List ClaimItem → List SeizedFor → List RightFound → Option Lowest
whole_bid costs items seizures found = option_map (whole_bid_by costs items found) (before_served 0 seizures)

-- the sums of these lists are in range
pub record HaveWholeBid (lists : ClaimLists) : Type 0 where
  pub ahead : sum_by cents_ahead lists.items.items < most_sum
  pub personal : sum_by (λ z. personal_amount z.basis) lists.seizures.items < most_sum
  pub four : sum_by claim_in_four lists.found.items < most_sum
  pub interest : All HasLowInterest lists.found.items
