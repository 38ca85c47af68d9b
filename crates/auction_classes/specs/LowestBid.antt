-- The lowest bid, and what remains of each right (ZVG §§ 43, 44, 49, 52).
use Rattle.std.specs.Prelude.{ℕ, ◌+◌, ◌-◌, Bool, true, not, ◌==◌, ◌&&◌, ◌||◌, nat_le, if◌then◌else◌, List, filter, find, length, map, min, sum_by, take, Option, option_map}
use Rattle.std.specs.List.{enumerate_from, list_all}
use Rattle.std.specs.Option.{option_map_or}
use Rattle.gb_base.specs.RightNo.{RightNo, same_right}
use Rattle.act_model.specs.declared.sales.Basis.{Basis}
use Rattle.act_model.specs.declared.sales.Basis.TheVariants as basis
use Rattle.rank_slots.specs.Filled.{Filled, line}
use Rattle.rank_slots.specs.Groups.{group_of}
use Rattle.rank_slots.specs.Payments.{claim_of, knot_of, pay, reaches_end, threshold}
use Rattle.auction_classes.specs.SaleClaims.{SaleClaims}
use Rattle.auction_classes.specs.declared.claim_items.ClaimItem.{ClaimItem}
use Rattle.auction_classes.specs.declared.claim_items.RightClaimed.{RightClaimed}
use Rattle.auction_classes.specs.declared.claim_items.SeizedFor.{SeizedFor}
use Rattle.auction_classes.specs.declared.lowest_bids.Lowest.{Lowest}

-- ---- the seizure that is the base

-- what a personal creditor seizes for; nothing where the seizure is from a right
abbrev pub personal_amount : Basis → ℕ
personal_amount (basis.Personal creditor claim) = claim
personal_amount (basis.FromRight right) = 0

-- What stands ahead of a seizure from class 4 on (ZVG § 44), where these are earlier: ahead of one from a right, the right's threshold
-- on the line of class 4; ahead of a personal creditor's, that whole line and what the earlier ones of personal creditors are for.
abbrev pub cover_of : Filled → List SeizedFor → Basis → ℕ
cover_of four earlier (basis.Personal creditor claim) = length (line four) + sum_by (λ z. personal_amount z.basis) earlier
cover_of four earlier (basis.FromRight right) = threshold four right

-- the cover of each of these seizures that is served, with all seizures that are before it
abbrev pub covers_served : Filled → List SeizedFor → List ℕ
covers_served four seizures =
    map (λ numbered. cover_of four (take numbered.0 seizures) numbered.1.basis) (filter (λ numbered. numbered.1.served) (enumerate_from 0 seizures))

-- the least of some numbers: one that is above none of them; none where there are none
abbrev pub least : List ℕ → Option ℕ
least numbers = find (λ n. list_all (λ m. nat_le n m) numbers) numbers

-- the cover of the base, which is a served seizure of least cover (ZVG § 44(2)); none where no seizure is served
abbrev pub cover_of_base : Filled → List SeizedFor → Option ℕ
cover_of_base four seizures = least (covers_served four seizures)

-- The part of the base's cover that lies on the line of class 4. ZVG § 44 covers what stands ahead: that this is counted along the line,
-- cent by cent, is the office's own rule.
abbrev pub cover_on_line : SaleClaims → ℕ → ℕ
cover_on_line c cover = min cover (length (line c.line_four))

-- ---- what remains

-- A right remains as far as it is in the lowest bid and is not paid in cash (ZVG § 52(1)). What becomes of one that the cover reaches
-- in part, ZVG does not say: the three tests that follow are the office's own rules.

-- a right of a group remains only where the cover reaches the end of the group on the line (the office's own rule)
abbrev pub reaches_group : Filled → RightNo → ℕ → Bool
reaches_group filled right cover =
    length (group_of filled.places right) == 1 || list_all (λ p. reaches_end filled p.right cover) (group_of filled.places right)

-- A right whose reservation was exercised (BGB § 881), or that was so exercised, remains only where the cover reaches the end of both
-- (the office's own rule).
abbrev pub reaches_knot : Filled → RightNo → ℕ → Bool
reaches_knot filled right cover =
    option_map_or (λ k. reaches_end filled k.reserved cover && reaches_end filled k.exercised cover) (knot_of filled.knots right) true

-- a right of division II, which is no sum of money, remains only where it gets its whole claim (the office's own rule)
abbrev pub is_paid_enough : Filled → RightClaimed → ℕ → Bool
is_paid_enough filled x got = x.in_division_three || nat_le (claim_of filled.places x.right) got

-- what remains of a right that gets so much: what it gets less its interest, which is paid in cash (ZVG §§ 12 no. 2, 49(1), 52(1))
abbrev pub remaining_by_pay : Filled → ℕ → RightClaimed → ℕ → ℕ
remaining_by_pay filled cover x got =
    if is_paid_enough filled x got && (reaches_group filled x.right cover && reaches_knot filled x.right cover) then got - x.interest else 0

-- what remains of a right of class 4, whose line this is, at this cover
abbrev pub remaining_of : Filled → ℕ → RightClaimed → ℕ
remaining_of filled cover x = remaining_by_pay filled cover x (pay filled x.right cover)

-- what remains, at this cover, of the right of this number; 0 where it is no live right of class 4
abbrev pub remaining : SaleClaims → ℕ → RightNo → ℕ
remaining c cover right = option_map_or (remaining_of c.line_four cover) (find (λ x. same_right x.right right) c.rights) 0

-- ---- the lowest bid

-- the cents of a claim that is timely and of class 1 or 3; 0 of any other
abbrev pub cents_ahead : ClaimItem → ℕ
cents_ahead claim = if not claim.late && (claim.class == 1 || claim.class == 3) then claim.capital else 0

-- the total: costs, the timely claims of classes 1 and 3, and the cover (ZVG § 44(1))
abbrev pub total : SaleClaims → ℕ → ℕ
total c cover = c.costs + (sum_by cents_ahead c.items + cover)

-- the part that is paid in cash: the total without what remains (ZVG §§ 49, 52)
abbrev pub cash : SaleClaims → ℕ → ℕ
cash c cover = total c cover - sum_by (remaining_of c.line_four (cover_on_line c cover)) c.rights

-- the total, the part in cash, and the part of the base's cover that lies on the line of class 4
abbrev pub bid_by : SaleClaims → ℕ → Lowest
bid_by c cover = record { total = total c cover; cash = cash c cover; cover = cover_on_line c cover }

-- the lowest bid; none where no seizure is served (ZVG §§ 43, 44)
abbrev pub lowest_bid : SaleClaims → Option Lowest
lowest_bid c = option_map (bid_by c) (cover_of_base c.line_four c.seizures)
