-- The claims in a sale are amounts of at least a cent, which together are in the range of sums.
use Rattle.std.proofs.Common.{◌≡◌, ℕ, ◌+◌, ◌*◌, ◌<◌, ◌≤◌, Bool, true, false, cond, not, ◌&&◌, ◌==◌, ◌||◌, List, [], ◌∷◌, ◌++◌, All, filter, filter_map, flat_map, length, sum_by, Option, Some, None, refl, sym, subst, arith}
use Rattle.std.specs.List.{AllByRecursion, cons_option, range_with_len}
use Rattle.std.proofs.lemmas.Bool.{true≢false}
use Rattle.std.proofs.lemmas.Bool.Decides.{nat_tests}
use Rattle.std.proofs.lemmas.List.Elements.{All-from_recursion}
use Rattle.std.proofs.lemmas.List.Sums.{sum_by-append, sum_by-cons, sum_by-le}
use Rattle.gb_base.specs.Limits.{most_cents, most_sum}
use Rattle.act_model.specs.declared.sales.Basis.{Basis}
use Rattle.act_model.specs.declared.sales.Basis.TheVariants as basis
use Rattle.act_model.specs.declared.sales.Registration.{Registration}
use Rattle.act_model.specs.declared.sales.Registration.TheVariants as registration
use Rattle.auction_classes.specs.Claims.{claim_registered, claims_by, claims_of_right, in_order, in_row, is_claim, of_class, personal_claim}
use Rattle.auction_classes.specs.LowestBid.{personal_amount}
use Rattle.auction_classes.specs.PayableClaims.{HasNoInterest, IsAmountClaimed, amount_claimed}
use Rattle.auction_classes.specs.declared.case_items.Registered.{Registered}
use Rattle.auction_classes.specs.declared.case_items.Seizure.{Seizure}
use Rattle.auction_classes.specs.declared.claim_items.Claim.{Claim}
use Rattle.auction_classes.specs.declared.rights_found.RightFound.{RightFound}
use Rattle.auction_classes.specs.inner.ClaimRows.{row_after}
use Rattle.folio_sections.proofs.FilteredLists.{all_filtered}
use Rattle.auction_classes.proofs.BoundedClaims.{all_both, amount_of}
use Rattle.auction_classes.proofs.BoundedLists.{few_found}
use Rattle.auction_classes.proofs.ClaimsInRow.{row_is}
use Rattle.auction_classes.proofs.WeighedClaims.{filter_weighs, order_weighs, row_weighs}

-- what a claim comes to
abbrev pub weight : Claim → ℕ
weight c = c.interest + c.capital

-- ---- the claims that are registered, and those of personal creditors

registered_weigh : (year : ℕ) (rs : List Registered) → AllByRecursion (λ (r : Registered). amount_of r.what ≤ most_cents) rs
    → AllByRecursion (λ c. weight c ≤ most_cents) (filter_map (λ (r : Registered). claim_registered year r.late r.what) rs)
registered_weigh year [] all = tt
registered_weigh year (r ∷ rs) all = step r.what all.0 _ (registered_weigh year rs all.1)
  where
    step : (w : Registration) → amount_of w ≤ most_cents → (rest : List Claim) → AllByRecursion (λ c. weight c ≤ most_cents) rest
        → AllByRecursion (λ c. weight c ≤ most_cents) (cons_option (claim_registered year r.late w) rest)
    step (registration.Advance person amount) within rest more = (omega (arith, within), more)
    step (registration.PublicCharge person amount due) within rest more = (omega (arith, within), more)
    step (registration.Arrears right from until) within rest more = more

personal_weigh : (zs : List Seizure) → AllByRecursion (λ (z : Seizure). personal_amount z.basis ≤ most_cents) zs
    → AllByRecursion (λ c. weight c ≤ most_cents) (filter_map (λ (z : Seizure). personal_claim z.basis) zs)
personal_weigh [] all = tt
personal_weigh (z ∷ zs) all = step z.basis all.0 _ (personal_weigh zs all.1)
  where
    step : (b : Basis) → personal_amount b ≤ most_cents → (rest : List Claim) → AllByRecursion (λ c. weight c ≤ most_cents) rest
        → AllByRecursion (λ c. weight c ≤ most_cents) (cons_option (personal_claim b) rest)
    step (basis.Personal creditor claim) within rest more = (omega (arith, within), more)
    step (basis.FromRight right) within rest more = more

-- ---- the claims of rights

-- what a right claims
abbrev pub right_weight : RightFound → ℕ
right_weight x = x.interest + x.capital + (x.old_arrears + (x.late_arrears + x.late_old_arrears))

four_weigh : (x : RightFound) → sum_by weight (claims_of_right x) ≡ right_weight x
four_weigh x = omega arith

rights_weigh : (xs : List RightFound) → sum_by weight (flat_map claims_of_right xs) ≡ sum_by right_weight xs
rights_weigh [] = refl
rights_weigh (x ∷ xs) =
    let rest = rights_weigh xs in
    let both = sum_by-append weight (claims_of_right x) (flat_map claims_of_right xs) in
    let own = four_weigh x in
    let whole = sum_by-cons right_weight x xs in
    omega (arith, rest, both, own, whole)

-- ---- all together

weighs_few : (xs : List Claim) (n : ℕ) → AllByRecursion (λ c. weight c ≤ most_cents) xs → length xs ≤ n → sum_by weight xs ≤ most_cents * n
weighs_few xs n all few =
    let sum = sum_by-le weight most_cents xs (All-from_recursion (λ c. weight c ≤ most_cents) xs all) in
    omega (arith, sum, few)

pub claims_weigh : (year : ℕ) (rs : List Registered) (zs : List Seizure) (found : List RightFound) → AllByRecursion (λ (r : Registered). amount_of r.what ≤ most_cents) rs
    → AllByRecursion (λ (z : Seizure). personal_amount z.basis ≤ most_cents) zs → length rs ≤ 32 → length zs ≤ 8
    → sum_by weight (claims_by year rs zs found) ≤ 400000000000000 + sum_by right_weight found
claims_weigh year rs zs found amounts seized few fewer =
    let registered = filter_map (λ (r : Registered). claim_registered year r.late r.what) rs in
    let personal = filter_map (λ (z : Seizure). personal_claim z.basis) zs in
    let rights = flat_map claims_of_right found in
    let first = sum_by-append weight (filter is_claim registered) (filter is_claim personal ++ filter is_claim rights) in
    let second = sum_by-append weight (filter is_claim personal) (filter is_claim rights) in
    let some = few_found (λ (r : Registered). claim_registered year r.late r.what) rs in
    let others = few_found (λ (z : Seizure). personal_claim z.basis) zs in
    let one = weighs_few registered 32 (registered_weigh year rs amounts) (omega (arith, some, few)) in
    let two = weighs_few personal 8 (personal_weigh zs seized) (omega (arith, others, fewer)) in
    let three = rights_weigh found in
    let a = filter_weighs weight is_claim registered in
    let b = filter_weighs weight is_claim personal in
    let c = filter_weighs weight is_claim rights in
    omega (arith, first, second, one, two, three, a, b, c)

pub items_weigh : (cs : List Claim) → sum_by amount_claimed (in_row (in_order cs)) ≤ sum_by weight cs
items_weigh cs =
    let row = row_weighs amount_claimed weight (λ before c. refl) (in_order cs) in
    let order = order_weighs weight cs in
    omega (arith, row, order)

-- ---- each claim

-- a claim of at least one cent comes to at least one cent
some_claimed : (c : Claim) → is_claim c ≡ true → 1 ≤ weight c
some_claimed c is = grind (arith, nat_tests, is)

all_some : (cs : List Claim) → AllByRecursion (λ c. 1 ≤ weight c) (filter is_claim cs)
all_some [] = tt
all_some (c ∷ cs) = elim (is_claim c) as (λ b. is_claim c ≡ b → AllByRecursion (λ d. 1 ≤ weight d) (cond b (c ∷ filter is_claim cs) (filter is_claim cs))) [
  | true ↦ λ is. (some_claimed c is, all_some cs)
  | false ↦ λ _. all_some cs
] refl

-- what holds of all claims holds of those in order
in_classes_all : (P : Claim → Type 0) (late : Bool) (cs : List Claim) (ks : List ℕ) → AllByRecursion P cs → AllByRecursion P (flat_map (of_class late cs) ks)
in_classes_all P late cs [] all = tt
in_classes_all P late cs (k ∷ ks) all = all_both P (of_class late cs k) (flat_map (of_class late cs) ks) (all_filtered P _ cs all) (in_classes_all P late cs ks all)

pub order_all : (P : Claim → Type 0) (cs : List Claim) → AllByRecursion P cs → AllByRecursion P (in_order cs)
order_all P cs all = all_both P _ _ (in_classes_all P false cs (range_with_len 1 8) all) (in_classes_all P true cs (range_with_len 1 8) all)

claims_some : (year : ℕ) (rs : List Registered) (zs : List Seizure) (found : List RightFound) → AllByRecursion (λ c. 1 ≤ weight c) (claims_by year rs zs found)
claims_some year rs zs found =
    let P : Claim → Type 0 = λ c. 1 ≤ weight c in
    all_both P _ _ (all_some (filter_map (λ (r : Registered). claim_registered year r.late r.what) rs))
    (all_both P _ _ (all_some (filter_map (λ (z : Seizure). personal_claim z.basis) zs)) (all_some (flat_map claims_of_right found)))

row_amounts : (before : Option Claim) (cs : List Claim) → AllByRecursion (λ c. 1 ≤ weight c) cs → sum_by weight cs < most_sum → AllByRecursion IsAmountClaimed (row_after before cs)
row_amounts before [] all sum = tt
row_amounts before (c ∷ cs) all sum =
    let whole = sum_by-cons weight c cs in
    (record { some = all.0; in_range = omega (arith, whole, sum) }, row_amounts (Some c) cs all.1 (omega (arith, whole, sum)))

-- the claims in their row are amounts, where all come to less than the range of sums
pub items_are_amounts : (year : ℕ) (rs : List Registered) (zs : List Seizure) (found : List RightFound) → sum_by weight (claims_by year rs zs found) < most_sum
    → All IsAmountClaimed (in_row (in_order (claims_by year rs zs found)))
items_are_amounts year rs zs found sum =
    let cs = claims_by year rs zs found in
    let order = order_weighs weight cs in
    subst (All IsAmountClaimed) (sym (row_is (in_order cs)))
    (All-from_recursion IsAmountClaimed (row_after None (in_order cs)) (row_amounts None (in_order cs) (order_all (λ c. 1 ≤ weight c) cs (claims_some year rs zs found)) (omega (arith, order, sum))))

-- ---- interest stands apart from the capital only in the timely claims of rights in their classes

abbrev IsWhole : Claim → Type 0
IsWhole c = (not c.late && (c.class == 4 || c.class == 6)) ≡ false → c.interest ≡ 0

registered_whole : (year : ℕ) (rs : List Registered) → AllByRecursion IsWhole (filter_map (λ (r : Registered). claim_registered year r.late r.what) rs)
registered_whole year [] = tt
registered_whole year (r ∷ rs) = step r.what _ (registered_whole year rs)
  where
    step : (w : Registration) (rest : List Claim) → AllByRecursion IsWhole rest → AllByRecursion IsWhole (cons_option (claim_registered year r.late w) rest)
    step (registration.Advance person amount) rest more = (λ _. refl, more)
    step (registration.PublicCharge person amount due) rest more = (λ _. refl, more)
    step (registration.Arrears right from until) rest more = more

personal_whole : (zs : List Seizure) → AllByRecursion IsWhole (filter_map (λ (z : Seizure). personal_claim z.basis) zs)
personal_whole [] = tt
personal_whole (z ∷ zs) = step z.basis _ (personal_whole zs)
  where
    step : (b : Basis) (rest : List Claim) → AllByRecursion IsWhole rest → AllByRecursion IsWhole (cons_option (personal_claim b) rest)
    step (basis.Personal creditor claim) rest more = (λ _. refl, more)
    step (basis.FromRight right) rest more = more

-- the right is of class 4 or 6
abbrev pub IsOfRights : RightFound → Type 0
IsOfRights x = (b : Bool) × (x.class ≡ cond b 4 6)

of_class_of_rights : (b : Bool) (interest : ℕ) → (cond b 4 6 == 4 || cond b 4 6 == 6) ≡ false → interest ≡ 0
of_class_of_rights true interest other = absurd (true≢false other)
of_class_of_rights false interest other = absurd (true≢false other)

rights_whole : (xs : List RightFound) → AllByRecursion IsOfRights xs → AllByRecursion IsWhole (flat_map claims_of_right xs)
rights_whole [] all = tt
rights_whole (x ∷ xs) all =
    let own : (x.class == 4 || x.class == 6) ≡ false → x.interest ≡ 0 = subst (λ k. (k == 4 || k == 6) ≡ false → x.interest ≡ 0) (sym all.0.1) (of_class_of_rights all.0.0 x.interest) in
    (own, (λ _. refl, (λ _. refl, (λ _. refl, rights_whole xs all.1))))

row_whole : (before : Option Claim) (cs : List Claim) → AllByRecursion IsWhole cs → AllByRecursion HasNoInterest (row_after before cs)
row_whole before [] all = tt
row_whole before (c ∷ cs) all = (all.0, row_whole (Some c) cs all.1)

pub items_are_whole : (year : ℕ) (rs : List Registered) (zs : List Seizure) (found : List RightFound) → AllByRecursion IsOfRights found → All HasNoInterest (in_row (in_order (claims_by year rs zs found)))
items_are_whole year rs zs found own =
    let cs = claims_by year rs zs found in
    let all = all_both IsWhole _ _ (all_filtered IsWhole is_claim _ (registered_whole year rs))
    (all_both IsWhole _ _ (all_filtered IsWhole is_claim _ (personal_whole zs)) (all_filtered IsWhole is_claim _ (rights_whole found own))) in
    subst (All HasNoInterest) (sym (row_is (in_order cs))) (All-from_recursion HasNoInterest (row_after None (in_order cs)) (row_whole None (in_order cs) (order_all IsWhole cs all)))
