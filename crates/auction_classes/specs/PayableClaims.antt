-- What is needed to pay claims by a plan: amounts and sums in range, few enough claims that share, and rights that stand on their lines.
use Rattle.std.specs.Prelude.{◌≡◌, ℕ, ◌+◌, ◌<◌, ◌≤◌, Bool, true, false, not, ◌==◌, ◌&&◌, ◌||◌, List, All, filter, length, map, sum_by, Some}
use Rattle.std.specs.List.{IsDistinct}
use Rattle.gb_base.specs.Limits.{most_sharing, most_sum}
use Rattle.gb_base.specs.RightNo.{RightNo, same_right}
use Rattle.rank_slots.specs.Filled.{Filled}
use Rattle.rank_slots.specs.Groups.{keeps_place}
use Rattle.auction_classes.specs.Claims.{are_both}
use Rattle.auction_classes.specs.SaleClaims.{SaleClaims}
use Rattle.auction_classes.specs.declared.claim_items.ClaimItem.{ClaimItem}

-- what is claimed: interest and capital together
abbrev pub amount_claimed : ClaimItem → ℕ
amount_claimed c = c.interest + c.capital

-- the claim is of the class, and late or timely as asked
abbrev pub is_in_class : Bool → ℕ → ClaimItem → Bool
is_in_class late class c = are_both late c.late && c.class == class

-- the timely claims of a class, or the late ones (ZVG §§ 10, 110)
abbrev pub claims_in : Bool → ℕ → List ClaimItem → List ClaimItem
claims_in late class items = filter (is_in_class late class) items

-- at least a cent is claimed, and less than sums reach
pub record IsAmountClaimed (c : ClaimItem) : Type 0 where
  pub some : 1 ≤ amount_claimed c
  pub in_range : amount_claimed c < most_sum

-- a claim other than a timely one of class 4 or 6 has no interest apart from its capital
abbrev pub HasNoInterest : ClaimItem → Type 0
HasNoInterest c = (not c.late && (c.class == 4 || c.class == 6)) ≡ false → c.interest ≡ 0

-- The claims are of these rights, which differ and stand on the line.
pub record AreOfRights (line : Filled) (claims : List ClaimItem) (ids : List RightNo) : Type 0 where
  pub are : map (λ c. c.right) claims ≡ map (λ id. Some id) ids
  pub differ : IsDistinct same_right ids
  pub kept : All (λ id. keeps_place line.places id ≡ true) ids

-- No class has more claims than may share, and where a seizure stands there is an owner.
pub record IsPayable (c : SaleClaims) : Type 0 where
  pub each : All IsAmountClaimed c.items
  pub whole : All HasNoInterest c.items
  pub few : (late : Bool) (class : ℕ) → length (claims_in late class c.items) ≤ most_sharing
  pub sum : sum_by amount_claimed c.items < most_sum
  pub four : AreOfRights c.line_four (claims_in false 4 c.items) (map (λ x. x.right) c.rights)
  pub six : (ids : List RightNo) × AreOfRights c.line_six (claims_in false 6 c.items) ids
  pub owned : 1 ≤ length c.seizures → 1 ≤ length c.owners
