-- The two rights of a knot on the line: the reserved one's cents stand ahead of the exercised one's.
use Rattle.std.proofs.Common.{◌≡◌, ℕ, ◌-◌, ◌≤◌, false, not, List, take, arith}
use Rattle.gb_base.specs.RightNo.{same_right}
use Rattle.rank_slots.specs.CanFill.{ArePlaces, CanKnot}
use Rattle.rank_slots.specs.CentLine.{cent_line, exchange_all, is_dropped, written}
use Rattle.rank_slots.specs.Filled.{Filled, line}
use Rattle.rank_slots.specs.Payments.{claim_of, pay_exercised, line_pay}
use Rattle.rank_slots.specs.declared.places.Knot.{Knot}
use Rattle.rank_slots.specs.declared.places.Place.{Place}
use Rattle.rank_slots.specs.declared.places.Swap.{Swap}
use Rattle.rank_slots.proofs.GroupMembers.{alone_group}
use Rattle.rank_slots.proofs.LineCents.{apart_rights, has_cents, kept_cents}
use Rattle.rank_slots.proofs.LineCounts.{counted, counted_longer}
use Rattle.rank_slots.proofs.LineSwaps.{precedes_exchange_all}
use Rattle.rank_slots.proofs.LonePay.{lone_pay}
use Rattle.rank_slots.proofs.PlaceLines.{AreDifferent, ahead_differ, claim_least, kept_listed, precedes_written}
use Rattle.rank_slots.proofs.Precedence.{AreApart, Precedes, precedes_filter, window_below}

tied_order : (places : List Place) (swaps : List Swap) (k : Knot) → AreDifferent places → CanKnot places swaps k → Precedes (same_right k.reserved) (same_right k.exercised) (cent_line places swaps)
unfolding cent_line
tied_order places swaps k differ knot =
    precedes_filter (λ c. not (is_dropped places c)) (same_right k.reserved) (same_right k.exercised) (exchange_all (written places) swaps)
    (precedes_exchange_all k.reserved k.exercised swaps (written places) knot.reserved.unswapped knot.exercised.unswapped
    (precedes_written k.reserved k.exercised places differ knot.ahead))

-- ---- both rights together

-- how the two rights stand to each other
pub record AreTied (filled : Filled) (k : Knot) : Type 0 where
  pub reserved : (t : ℕ) → line_pay filled k.reserved t ≡ counted (same_right k.reserved) (take t (line filled))
  pub exercised : (t : ℕ) → line_pay filled k.exercised t ≡ counted (same_right k.exercised) (take t (line filled))
  pub two : same_right k.reserved k.exercised ≡ false
  pub apart : AreApart (same_right k.reserved) (same_right k.exercised)
  pub ahead : Precedes (same_right k.reserved) (same_right k.exercised) (line filled)
  pub first : 1 ≤ counted (same_right k.reserved) (line filled)
  pub claim : counted (same_right k.exercised) (line filled) ≡ claim_of filled.places k.exercised
  pub least : 1 ≤ claim_of filled.places k.exercised

pub are_tied : (filled : Filled) (k : Knot) → ArePlaces filled.places → CanKnot filled.places filled.swaps k → AreTied filled k
are_tied filled k places knot =
    let two = ahead_differ filled.places k.reserved k.exercised knot.ahead in
    record {
      reserved = lone_pay filled k.reserved (alone_group filled.places k.reserved knot.reserved.alone);
      exercised = lone_pay filled k.exercised (alone_group filled.places k.exercised knot.exercised.alone);
      two = two;
      apart = apart_rights k.reserved k.exercised two;
      ahead = tied_order filled.places filled.swaps k places.distinct knot;
      first = has_cents filled k.reserved places knot.reserved.kept;
      claim = kept_cents filled.places filled.swaps k.exercised places.distinct knot.exercised.kept;
      least = claim_least k.exercised filled.places places.claims (kept_listed k.exercised filled.places knot.exercised.kept);
    }

-- ---- what the two get

-- the reserved right gets no less of a greater sum
pub reserved_grows : (filled : Filled) (k : Knot) → AreTied filled k → (t u : ℕ) → t ≤ u → line_pay filled k.reserved t ≤ line_pay filled k.reserved u
reserved_grows filled k tied t u more =
    let here = tied.reserved t in let there = tied.reserved u in
    let longer = counted_longer (same_right k.reserved) t u (line filled) more in omega arith

-- the exercised right gets no more than its claim
pub exercised_within : (filled : Filled) (k : Knot) → AreTied filled k → (t : ℕ) → pay_exercised filled k t ≤ claim_of filled.places k.exercised
exercised_within filled k tied t =
    let claim = claim_of filled.places k.exercised in
    let all = tied.claim in
    let below = window_below (same_right k.reserved) (same_right k.exercised) tied.apart t claim (line filled) tied.ahead (omega arith) in
    let first = tied.reserved t in
    let last = tied.exercised t in
    let without = tied.reserved (t - claim) in omega arith
