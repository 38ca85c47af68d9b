-- What the parts of shared money come to.
use Rattle.std.proofs.Common.{◌≡◌, ℕ, zero, suc, ◌+◌, ◌-◌, ◌*◌, ◌/◌, ◌<◌, ◌≤◌, min, List, [], ◌∷◌, map, length, get_or, take, true, false, refl, sym, ap, ◌∙◌, ⊎_elim, arith, if◌then◌else◌}
use Rattle.std.specs.Prelude.{nat_le, nat_lt, sum, sum_by}
use Rattle.std.specs.List.{range_with_len}
use Rattle.std.proofs.Math.Nat.{mul-div-le, mul-le-mul_left}
use Rattle.std.proofs.lemmas.Bool.{cases_Bool, cases_lt}
use Rattle.std.proofs.lemmas.Bool.Decides.{nat_tests}
use Rattle.std.proofs.lemmas.List.{get_or-map, length-map, map-id}
use Rattle.std.proofs.lemmas.List.Sums.{sum_by-cons, sum_by_more, sum_by_more_le, sum-map}
use Rattle.std.proofs.lemmas.List.FromFn.{fill_by_all}
use Rattle.gb_base.specs.Shares.{claim_at, whole_part, left_over, share, shares}

-- the whole quotients of products come together to no more than the quotient of their sum, and to less than one each below it
record AreQuotients (m s : ℕ) (xs : List ℕ) : Type 0 where
  pub within : s * sum_by (λ c. m * c / s) xs ≤ m * sum xs
  pub near : m * sum xs + length xs ≤ s * sum_by (λ c. m * c / s) xs + s * length xs

quotients : (m s : ℕ) → 0 < s → (xs : List ℕ) → AreQuotients m s xs
quotients m s some [] = record { within = omega arith; near = omega arith }
quotients m s some (x ∷ xs) =
    let later = quotients m s some xs in
    let parts = sum_by-cons (λ c. m * c / s) x xs in
    let whole = sum_by-cons (λ c. c) x xs in
    let low : s * (m * x / s) ≤ m * x = mul-div-le (m * x) s in
    let high : m * x + 1 ≤ s * (m * x / s) + s = omega arith in
    record {
      within = rw (parts, whole) (omega (arith, later.within));
      near = rw (parts, whole) (omega (arith, later.near));
    }

-- a smaller product has a smaller factor
smaller : (s a b : ℕ) → s * a ≤ s * b → 0 < s → a ≤ b
smaller s a b h some =
    ⊎_elim (λ less. let more : s * (b + 1) ≤ s * a = mul-le-mul_left s (omega arith) in absurd (omega (arith, more))) (λ h. h) (cases_lt b a)

-- money that does not reach the sum covers the whole parts
parts_within : (money : ℕ) (claims : List ℕ) → money < sum claims → sum_by (whole_part money claims) claims ≤ money
parts_within money claims short =
    let q = quotients money (sum claims) (omega arith) claims in
    smaller (sum claims) _ _ (omega (arith, q.within)) (omega arith)

-- money that does not reach the sum leaves over less than a cent a claim
left_over_few : (money : ℕ) (claims : List ℕ) → money < sum claims → left_over money claims < length claims
left_over_few money [] short = absurd (omega arith)
left_over_few money (x ∷ xs) short =
    let claims = x ∷ xs in
    let q = quotients money (sum claims) (omega arith) claims in
    let parts : ℕ = sum_by (whole_part money claims) claims in
    let same : sum (map (whole_part money claims) claims) ≡ parts = sum-map (whole_part money claims) claims in
    ⊎_elim (λ h. omega (arith, h, same))
    (λ h.
    let more : sum claims * (parts + length claims) ≤ sum claims * money = mul-le-mul_left (sum claims) (omega (arith, h, same)) in
    absurd (omega (arith, q.near, more)))
    (cases_lt money (parts + length claims))

-- what is left of the money is enough for the next claim's part, and what is left after that is the rest
pub record TakesPart (money left part i : ℕ) (claims : List ℕ) : Type 0 where
  pub enough : part ≤ left
  pub rest : left - part + sum_by (whole_part money claims) (take (i + 1) claims) ≡ money

pub takes_part : (money total left part i : ℕ) (claims : List ℕ) → total ≡ sum claims → money < total → i < length claims
    → left + sum_by (whole_part money claims) (take i claims) ≡ money → part ≡ money * get_or claims i 0 / total → TakesPart money left part i claims
takes_part money total left part i claims same short inside so_far is =
    let is : part ≡ whole_part money claims (get_or claims i 0) = rw (← same) is in
    let all = parts_within money claims (omega arith) in
    let next = sum_by_more_le (whole_part money claims) claims i 0 inside in
    let more = sum_by_more (whole_part money claims) claims i 0 inside in
    record { enough = omega (arith, all, next, is); rest = omega (arith, all, next, more, is) }

-- a claim at its place
claim_at_is : (claims : List ℕ) (i : ℕ) → claim_at claims i ≡ get_or claims i 0
claim_at_is [] i = refl
claim_at_is (x ∷ xs) zero = refl
claim_at_is (x ∷ xs) (suc i) = claim_at_is xs i

-- a sum with one more at each number below a bound
ones_below : (f : ℕ → ℕ) (bound a n : ℕ)
    → sum (map (λ i. f i + (if nat_lt i bound then 1 else 0)) (range_with_len a n)) + min a bound ≡ sum (map f (range_with_len a n)) + min (a + n) bound
ones_below f bound a zero = omega arith
ones_below f bound a (suc n) =
    let both : ℕ → ℕ = λ i. f i + (if nat_lt i bound then 1 else 0) in
    let all = sum_by-cons (λ x. x) (both a) (map both (range_with_len (a + 1) n)) in
    let parts = sum_by-cons (λ x. x) (f a) (map f (range_with_len (a + 1) n)) in
    let later = ones_below f bound (a + 1) n in
    let here : min a bound + (if nat_lt a bound then 1 else 0) ≡ min (a + 1) bound = grind (arith, nat_tests) in
    rw (all, parts) (omega (arith, later, here))

-- a list that is made by index
by_place : (f g : ℕ → ℕ) (xs : List ℕ) → ((k : ℕ) → k < length xs → f k ≡ g (get_or xs k 0)) → map f (range_with_len 0 (length xs)) ≡ map g xs
by_place f g xs each = sym (fill_by_all f (map g xs) (length xs) 0 (length-map xs g) (λ k h. get_or-map g xs k 0 0 h ∙ sym (each k h)))

-- where the money reaches the sum, each claim gets itself
reached : (money : ℕ) (claims : List ℕ) → nat_le (sum claims) money ≡ true → shares money claims ≡ claims
reached money claims passes = by_place (share money claims) (λ c. c) claims (λ k h. rw (passes, claim_at_is claims k) refl) ∙ map-id claims

-- where the money does not reach the sum, each claim gets its part, and the first ones a cent more
short_share : (money : ℕ) (claims : List ℕ) → nat_le (sum claims) money ≡ false → (i : ℕ)
    → share money claims i ≡ whole_part money claims (claim_at claims i) + (if nat_lt i (left_over money claims) then 1 else 0)
short_share money claims fails i = rw fails refl

-- where the money does not reach the sum, the shares come to the money
short_sum : (money : ℕ) (claims : List ℕ) → money < sum claims → nat_le (sum claims) money ≡ false → sum (shares money claims) ≡ money
short_sum money claims short fails =
    let f : ℕ → ℕ = λ i. whole_part money claims (claim_at claims i) in
    let parts = by_place f (whole_part money claims) claims (λ k h. rw (claim_at_is claims k) refl) in
    let all = ones_below f (left_over money claims) 0 (length claims) in
    let few = left_over_few money claims short in
    let within = parts_within money claims short in
    let same = sum-map (whole_part money claims) claims in
    let each = ap (λ (g : ℕ → ℕ). sum (map g (range_with_len 0 (length claims)))) (λ j i. short_share money claims fails i j) in
    each ∙ omega (arith, all, ap sum parts, few, within, same)

-- the shares come to the money, or to the sum where the money reaches it
pub sum_of_shares : (money : ℕ) (claims : List ℕ) → sum (shares money claims) ≡ min money (sum claims)
sum_of_shares money claims =
    ⊎_elim
    (λ yes. let enough : sum claims ≤ money = grind (arith, nat_tests) in ap sum (reached money claims yes) ∙ omega arith)
    (λ no. let short : money < sum claims = grind (arith, nat_tests) in short_sum money claims short no ∙ omega arith)
    (cases_Bool (nat_le (sum claims) money))
