-- No class has more claims than may share: those of rights are of other classes than the others, and each right has at most one of each class.
use Rattle.std.proofs.Common.{◌≡◌, ℕ, ◌+◌, ◌≤◌, Bool, true, false, cond, ◌&&◌, ◌||◌, ◌==◌, List, [], ◌∷◌, ◌++◌, count_by, filter, filter_map, flat_map, length, sum_by, refl, sym, subst, arith}
use Rattle.std.specs.List.{AllByRecursion, cons_option}
use Rattle.std.proofs.lemmas.Bool.Decides.{nat_tests}
use Rattle.std.proofs.lemmas.List.Elements.{All-from_recursion}
use Rattle.std.proofs.lemmas.List.Sums.{length-filter, sum_by-append, sum_by-le}
use Rattle.act_model.specs.declared.sales.Basis.{Basis}
use Rattle.act_model.specs.declared.sales.Basis.TheVariants as basis
use Rattle.act_model.specs.declared.sales.Registration.{Registration}
use Rattle.act_model.specs.declared.sales.Registration.TheVariants as registration
use Rattle.auction_classes.specs.Claims.{are_both, claim_registered, claims_by, claims_of_right, in_order, in_row, is_claim, personal_claim}
use Rattle.auction_classes.specs.PayableClaims.{claims_in, is_in_class}
use Rattle.auction_classes.specs.declared.case_items.Registered.{Registered}
use Rattle.auction_classes.specs.declared.case_items.Seizure.{Seizure}
use Rattle.auction_classes.specs.declared.claim_items.Claim.{Claim}
use Rattle.auction_classes.specs.declared.claim_items.ClaimItem.{ClaimItem}
use Rattle.auction_classes.specs.declared.rights_found.RightFound.{RightFound}
use Rattle.auction_classes.proofs.BoundedLists.{few_found}
use Rattle.auction_classes.proofs.PayableAmounts.{IsOfRights}
use Rattle.auction_classes.proofs.WeighedClaims.{filter_weighs, order_weighs, row_weighs}

-- a claim counts where it is of the class, and late or timely as asked
abbrev counts : Bool → ℕ → Claim → ℕ
counts late k c = cond (are_both late c.late && c.class == k) 1 0

-- the classes of rights
abbrev of_rights : ℕ → Bool
of_rights k = k == 4 || (k == 6 || k == 8)

-- ---- the claims that are of no right

other_class : (b : Bool) (class k : ℕ) → of_rights class ≡ false → cond (b && class == k) 1 0 ≤ cond (of_rights k) 0 1
other_class false class k other = elim (of_rights k) as (λ r. 0 ≤ cond r 0 1) [ true ↦ omega arith | false ↦ omega arith ]
other_class true class k other = grind (arith, nat_tests, other)

charge_class : (b : Bool) (late is : Bool) (k : ℕ) → cond (are_both late is && cond b 3 7 == k) 1 0 ≤ cond (of_rights k) 0 1
charge_class true late is k = other_class (are_both late is) 3 k refl
charge_class false late is k = other_class (are_both late is) 7 k refl

registered_count : (late : Bool) (k year : ℕ) (rs : List Registered)
    → AllByRecursion (λ c. counts late k c ≤ cond (of_rights k) 0 1) (filter_map (λ (r : Registered). claim_registered year r.late r.what) rs)
registered_count late k year [] = tt
registered_count late k year (r ∷ rs) = step r.what _ (registered_count late k year rs)
  where
    step : (w : Registration) (rest : List Claim) → AllByRecursion (λ c. counts late k c ≤ cond (of_rights k) 0 1) rest
        → AllByRecursion (λ c. counts late k c ≤ cond (of_rights k) 0 1) (cons_option (claim_registered year r.late w) rest)
    step (registration.Advance person amount) rest more = (other_class (are_both late r.late) 1 k refl, more)
    step (registration.PublicCharge person amount due) rest more = (charge_class _ late r.late k, more)
    step (registration.Arrears right from until) rest more = more

personal_count : (late : Bool) (k : ℕ) (zs : List Seizure)
    → AllByRecursion (λ c. counts late k c ≤ cond (of_rights k) 0 1) (filter_map (λ (z : Seizure). personal_claim z.basis) zs)
personal_count late k [] = tt
personal_count late k (z ∷ zs) = step z.basis _ (personal_count late k zs)
  where
    step : (b : Basis) (rest : List Claim) → AllByRecursion (λ c. counts late k c ≤ cond (of_rights k) 0 1) rest
        → AllByRecursion (λ c. counts late k c ≤ cond (of_rights k) 0 1) (cons_option (personal_claim b) rest)
    step (basis.Personal creditor claim) rest more = (other_class (are_both late false) 5 k refl, more)
    step (basis.FromRight right) rest more = more

-- ---- the claims of rights

four_count : (late b : Bool) (k : ℕ) → cond (are_both late false && cond b 4 6 == k) 1 0 + (cond (are_both late false && 8 == k) 1 0 + (cond (are_both late true && 4 == k) 1 0 + cond (are_both late true && 8 == k) 1 0)) ≤ cond (of_rights k) 1 0
four_count true true k = grind (arith, nat_tests)
four_count true false k = grind (arith, nat_tests)
four_count false true k = grind (arith, nat_tests)
four_count false false k = grind (arith, nat_tests)

one_right : (late : Bool) (k : ℕ) (x : RightFound) → IsOfRights x → sum_by (counts late k) (claims_of_right x) ≤ cond (of_rights k) 1 0
one_right late k x own =
    let h : cond (are_both late false && x.class == k) 1 0 + (cond (are_both late false && 8 == k) 1 0 + (cond (are_both late true && 4 == k) 1 0 + cond (are_both late true && 8 == k) 1 0)) ≤ cond (of_rights k) 1 0 =
    subst (λ class. cond (are_both late false && class == k) 1 0 + (cond (are_both late false && 8 == k) 1 0 + (cond (are_both late true && 4 == k) 1 0 + cond (are_both late true && 8 == k) 1 0)) ≤ cond (of_rights k) 1 0)
    (sym own.1) (four_count late own.0 k) in
    omega (arith, h)

rights_count : (late : Bool) (k : ℕ) (xs : List RightFound) → AllByRecursion IsOfRights xs → sum_by (counts late k) (flat_map claims_of_right xs) ≤ cond (of_rights k) (length xs) 0
rights_count late k [] all = elim (of_rights k) as (λ b. 0 ≤ cond b 0 0) [ true ↦ omega arith | false ↦ omega arith ]
rights_count late k (x ∷ xs) all =
    let rest = rights_count late k xs all.1 in
    let own = one_right late k x all.0 in
    let both = sum_by-append (counts late k) (claims_of_right x) (flat_map claims_of_right xs) in
    let n = sum_by (counts late k) (claims_of_right x) in
    let m = sum_by (counts late k) (flat_map claims_of_right xs) in
    let sum : n + m ≤ cond (of_rights k) (length (x ∷ xs)) 0 =
    elim (of_rights k) as (λ b. n ≤ cond b 1 0 → m ≤ cond b (length xs) 0 → n + m ≤ cond b (length (x ∷ xs)) 0) [ true ↦ λ a c. omega (arith, a, c) | false ↦ λ a c. omega (arith, a, c) ] own rest in
    omega (arith, both, sum)

-- ---- all claims

count_few : (late : Bool) (k n : ℕ) (cs : List Claim) → AllByRecursion (λ c. counts late k c ≤ cond (of_rights k) 0 1) cs → length cs ≤ n → sum_by (counts late k) cs ≤ cond (of_rights k) 0 n
count_few late k n cs all few =
    elim (of_rights k) as (λ b. AllByRecursion (λ c. counts late k c ≤ cond b 0 1) cs → sum_by (counts late k) cs ≤ cond b 0 n) [
      | true ↦ λ each. let sum = sum_by-le (counts late k) 0 cs (All-from_recursion (λ c. counts late k c ≤ 0) cs each) in omega (arith, sum)
      | false ↦ λ each. let sum = sum_by-le (counts late k) 1 cs (All-from_recursion (λ c. counts late k c ≤ 1) cs each) in omega (arith, sum, few)
    ] all

claims_count : (late : Bool) (k year : ℕ) (rs : List Registered) (zs : List Seizure) (found : List RightFound) → AllByRecursion IsOfRights found → length rs ≤ 32 → length zs ≤ 8 → length found ≤ 256
    → sum_by (counts late k) (claims_by year rs zs found) ≤ 256
claims_count late k year rs zs found own few fewer many =
    let registered = filter_map (λ (r : Registered). claim_registered year r.late r.what) rs in
    let personal = filter_map (λ (z : Seizure). personal_claim z.basis) zs in
    let rights = flat_map claims_of_right found in
    let w = counts late k in
    let first = sum_by-append w (filter is_claim registered) (filter is_claim personal ++ filter is_claim rights) in
    let second = sum_by-append w (filter is_claim personal) (filter is_claim rights) in
    let some = few_found (λ (r : Registered). claim_registered year r.late r.what) rs in
    let others = few_found (λ (z : Seizure). personal_claim z.basis) zs in
    let one = count_few late k 32 registered (registered_count late k year rs) (omega (arith, some, few)) in
    let two = count_few late k 8 personal (personal_count late k zs) (omega (arith, others, fewer)) in
    let three = rights_count late k found own in
    let a = filter_weighs w is_claim registered in
    let b = filter_weighs w is_claim personal in
    let c = filter_weighs w is_claim rights in
    let n = sum_by w registered in
    let m = sum_by w personal in
    let l = sum_by w rights in
    let sum : n + (m + l) ≤ 256 =
    elim (of_rights k) as (λ r. n ≤ cond r 0 32 → m ≤ cond r 0 8 → l ≤ cond r (length found) 0 → n + (m + l) ≤ 256) [ true ↦ λ x y z. omega (arith, x, y, z, many) | false ↦ λ x y z. omega (arith, x, y, z) ] one two three in
    omega (arith, first, second, a, b, c, sum)

pub few_of_class : (late : Bool) (k year : ℕ) (rs : List Registered) (zs : List Seizure) (found : List RightFound) → AllByRecursion IsOfRights found → length rs ≤ 32 → length zs ≤ 8 → length found ≤ 256
    → length (claims_in late k (in_row (in_order (claims_by year rs zs found)))) ≤ 256
few_of_class late k year rs zs found own few fewer many =
    let cs = claims_by year rs zs found in
    let row : List ClaimItem = in_row (in_order cs) in
    let filtered = length-filter (is_in_class late k) row in
    let counted : count_by (is_in_class late k) row ≡ sum_by (λ (c : ClaimItem). cond (is_in_class late k c) 1 0) row = refl in
    let weighs = row_weighs (λ (c : ClaimItem). cond (is_in_class late k c) 1 0) (counts late k) (λ before c. refl) (in_order cs) in
    let order = order_weighs (counts late k) cs in
    let most = claims_count late k year rs zs found own few fewer many in
    omega (arith, filtered, counted, weighs, order, most)
