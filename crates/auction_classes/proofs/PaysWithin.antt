-- What a right of a line gets is at most its claim.
use Rattle.std.proofs.Common.{◌≡◌, ℕ, suc, ◌+◌, ◌-◌, ◌*◌, ◌/◌, ◌<◌, ◌≤◌, ◌==◌, true, false, cond, not, ◌||◌, List, [], ◌∷◌, Some, None, count_by, find, length, map, sum_by, take, refl, sym, ap, ◌∙◌, subst, ⊎_elim, arith, mul-le-mul_left, if◌then◌else◌}
use Rattle.std.specs.Prelude.{nat_le, nat_lt, sum}
use Rattle.std.specs.List.{list_any, position_or_len}
use Rattle.std.specs.Option.{option_map_or}
use Rattle.std.proofs.Math.Nat.{mul-div-le}
use Rattle.std.proofs.lemmas.Bool.{cases_lt, eqb-true, or_parts}
use Rattle.std.proofs.lemmas.Bool.Decides.{nat_tests}
use Rattle.std.proofs.lemmas.List.Sums.{sum_by-cons}
use Rattle.gb_base.specs.RightNo.{RightNo, same_right}
use Rattle.gb_base.specs.Shares.{claim_at, left_over, share, whole_part}
use Rattle.gb_base.proofs.SameRights.{right_is}
use Rattle.rank_slots.specs.CanFill.{ArePlaces, CanFill, CanKnot}
use Rattle.rank_slots.specs.Filled.{Filled, line}
use Rattle.rank_slots.specs.Groups.{group_of, is_of, keeps_place}
use Rattle.rank_slots.specs.Payments.{claim_of, is_of_group, knot_of, pay, pay_exercised, line_pay, share_in_group}
use Rattle.rank_slots.specs.declared.places.Place.{Place}
use Rattle.rank_slots.proofs.GroupMembers.{alone_group, group_all, group_holds, group_sum}
use Rattle.rank_slots.proofs.KnotPay.{found_all, found_exercised, found_reserved, found_ties, unfound}
use Rattle.rank_slots.proofs.KnotTies.{are_tied, exercised_within}
use Rattle.rank_slots.proofs.LineCents.{kept_cents}
use Rattle.rank_slots.proofs.LineCounts.{counted_front}
use Rattle.rank_slots.proofs.LonePay.{lone_pay}
use Rattle.rank_slots.proofs.PlaceLines.{AreDifferent, claim_least, different_behind, kept_listed, none_behind}

-- ---- a share

-- where the money does not reach the sum, a claim of a cent or more gets fewer whole cents than it claims
part_below : (money total claim : ℕ) → money < total → 1 ≤ claim → money * claim / total < claim
part_below money total claim short some =
    let part : ℕ = money * claim / total in
    ⊎_elim (λ less. less)
    (λ whole.
    let low : total * part ≤ money * claim = mul-div-le (money * claim) total in
    let high : total * claim ≤ total * part = mul-le-mul_left total whole in
    let more : claim * (money + 1) ≤ claim * total = mul-le-mul_left claim (omega arith) in
    absurd (omega (arith, low, high, more)))
    (cases_lt part claim)

-- so a share is at most its claim
share_within : (money : ℕ) (claims : List ℕ) (i : ℕ) → 1 ≤ claim_at claims i → share money claims i ≤ claim_at claims i
share_within money claims i some =
    let claim = claim_at claims i in
    elim (nat_le (sum claims) money)
    as (λ b. nat_le (sum claims) money ≡ b → (if b then claim else whole_part money claims claim + (if nat_lt i (left_over money claims) then 1 else 0)) ≤ claim) [
      | true ↦ λ _. omega arith
      | false ↦ λ fails.
          let short : money < sum claims = grind (arith, nat_tests) in
          let below : whole_part money claims claim < claim = part_below money (sum claims) claim short some in
          elim (nat_lt i (left_over money claims)) as (λ b. whole_part money claims claim + (if b then 1 else 0) ≤ claim) [
            | true ↦ omega (arith, below)
            | false ↦ omega (arith, below)
          ]
    ] refl

-- ---- a member of a group

-- the claim at the place of the right in its group is its own
claim_in_place : (right : RightNo) (group : List Place) → claim_at (map (λ p. p.claim) group) (position_or_len (is_of right) group) ≡ claim_of group right
claim_in_place right [] = refl
claim_in_place right (p ∷ ps) =
    let claims = map (λ (q : Place). q.claim) (p ∷ ps) in
    let k = position_or_len (is_of right) ps in
    let next : 1 + k ≡ suc k = omega arith in
    elim (same_right p.right right) as (λ b. claim_at claims (cond (not b) (1 + k) 0) ≡ option_map_or (λ (q : Place). q.claim) (cond b (Some p) (find (is_of right) ps)) 0) [
      | true ↦ refl
      | false ↦ subst (λ j. claim_at claims j ≡ claim_of ps right) (sym next) (claim_in_place right ps)
    ]

-- the claim of a place of this right
abbrev own_claim : RightNo → Place → ℕ
own_claim right p = cond (is_of right p) p.claim 0

-- the first place of the right is one of its places
claim_in_sum : (right : RightNo) (places : List Place) → claim_of places right ≤ sum_by (own_claim right) places
claim_in_sum right [] = omega arith
claim_in_sum right (p ∷ ps) =
    let whole = sum_by-cons (own_claim right) p ps in
    let rest = claim_in_sum right ps in
    elim (same_right p.right right)
    as (λ b. same_right p.right right ≡ b → option_map_or (λ (q : Place). q.claim) (cond b (Some p) (find (is_of right) ps)) 0 ≤ sum_by (own_claim right) (p ∷ ps)) [
      | true ↦ λ own. let here : own_claim right p ≡ p.claim = ap (λ b. cond b p.claim 0) own in omega (arith, whole, here)
      | false ↦ λ other. omega (arith, whole, rest)
    ] refl

-- where rights differ, the first place of a right is its only one
none_in_sum : (right : RightNo) (places : List Place) → list_any (is_of right) places ≡ false → sum_by (own_claim right) places ≡ 0
none_in_sum right [] none = refl
none_in_sum right (p ∷ ps) none =
    let whole = sum_by-cons (own_claim right) p ps in
    let parts = or_parts (same_right p.right right) (list_any (is_of right) ps) none in
    let here : own_claim right p ≡ 0 = ap (λ b. cond b p.claim 0) parts.0 in
    omega (arith, whole, here, none_in_sum right ps parts.1)

sum_in_claim : (right : RightNo) (places : List Place) → AreDifferent places → sum_by (own_claim right) places ≤ claim_of places right
sum_in_claim right [] differ = omega arith
sum_in_claim right (p ∷ ps) differ =
    let whole = sum_by-cons (own_claim right) p ps in
    elim (same_right p.right right)
    as (λ b. same_right p.right right ≡ b → sum_by (own_claim right) (p ∷ ps) ≤ option_map_or (λ (q : Place). q.claim) (cond b (Some p) (find (is_of right) ps)) 0) [
      | true ↦ λ own.
          let here : own_claim right p ≡ p.claim = ap (λ b. cond b p.claim 0) own in
          omega (arith, whole, here, none_in_sum right ps (none_behind p ps right differ own))
      | false ↦ λ other.
          let here : own_claim right p ≡ 0 = ap (λ b. cond b p.claim 0) other in
          omega (arith, whole, here, sum_in_claim right ps (different_behind p ps differ))
    ] refl

-- so a right claims no more in its group than on the line
group_claim : (places : List Place) (right : RightNo) → AreDifferent places → claim_of (group_of places right) right ≤ claim_of places right
group_claim places right differ =
    omega (arith, claim_in_sum right (group_of places right), group_sum (own_claim right) places right, sum_in_claim right places differ)

-- and a member of a group of several gets no more of the group's cents than its claim
member_within : (group : List Place) (right : RightNo) (cents : ℕ) → 1 ≤ claim_of group right → (length group == 1) ≡ false → share_in_group group right cents ≤ claim_of group right
member_within group right cents some more =
    let claims = map (λ (p : Place). p.claim) group in
    let place = position_or_len (is_of right) group in
    let same = claim_in_place right group in
    let within : share cents claims place ≤ claim_at claims place = share_within cents claims place (omega (arith, same, some)) in
    subst (λ b. cond b cents (share cents claims place) ≤ claim_of group right) (sym more) (omega (arith, same, within))

-- ---- knots left aside

line_pay_within : (filled : Filled) (right : RightNo) (t : ℕ) → ArePlaces filled.places → keeps_place filled.places right ≡ true → line_pay filled right t ≤ claim_of filled.places right
line_pay_within filled right t places kept =
    let group = group_of filled.places right in
    elim (length group == 1) as (λ b. (length group == 1) ≡ b → line_pay filled right t ≤ claim_of filled.places right) [
      | true ↦ λ alone.
          let own = lone_pay filled right (alone_group filled.places right (eqb-true (length group) 1 alone)) t in
          let front = counted_front (same_right right) t (line filled) in
          let all = kept_cents filled.places filled.swaps right places.distinct kept in
          omega (arith, own, front, all)
      | false ↦ λ more.
          let there = group_holds filled.places right (kept_listed right filled.places kept) in
          let some = claim_least right group (group_all (λ (p : Place). 1 ≤ p.claim) filled.places right places.claims) there in
          let part = member_within group right (count_by (is_of_group group) (take t (line filled))) some more in
          omega (arith, part, group_claim filled.places right places.distinct)
    ] refl

-- ---- with the knots

pub pays_within : (filled : Filled) (right : RightNo) (t : ℕ) → CanFill filled → keeps_place filled.places right ≡ true → pay filled right t ≤ claim_of filled.places right
pays_within filled right t fits kept =
    elim (knot_of filled.knots right) as (λ o. knot_of filled.knots right ≡ o → pay filled right t ≤ claim_of filled.places right) [
      | None ↦ λ none. subst (λ n. n ≤ claim_of filled.places right) (sym (unfound filled right t none)) (line_pay_within filled right t fits.places kept)
      | Some k ↦ λ found.
          let knot = found_all (CanKnot filled.places filled.swaps) filled.knots right k fits.knots found in
          elim (same_right k.reserved right) as (λ b. same_right k.reserved right ≡ b → pay filled right t ≤ claim_of filled.places right) [
            | true ↦ λ own.
                let within = line_pay_within filled k.reserved (t - claim_of filled.places k.exercised) fits.places knot.reserved.kept in
                subst (λ n. n ≤ claim_of filled.places right) (sym (found_reserved filled right t k found own))
                (subst (λ z. line_pay filled k.reserved (t - claim_of filled.places k.exercised) ≤ claim_of filled.places z) (right_is k.reserved right own) within)
            | false ↦ λ other.
                let exercised : same_right k.exercised right ≡ true = sym (ap (λ b. b || same_right k.exercised right) other) ∙ found_ties filled.knots right k found in
                let within = exercised_within filled k (are_tied filled k fits.places knot) t in
                subst (λ n. n ≤ claim_of filled.places right) (sym (found_exercised filled right t k found other))
                (subst (λ z. pay_exercised filled k t ≤ claim_of filled.places z) (right_is k.exercised right exercised) within)
          ] refl
    ] refl
