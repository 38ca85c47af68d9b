-- The timely claims of class 4, and those of class 6, are those of the rights of the class, in their order.
use Rattle.std.proofs.Common.{◌≡◌, ℕ, zero, suc, ◌+◌, ◌<◌, ◌≤◌, Bool, true, false, cond, ◌&&◌, ◌==◌, List, [], ◌∷◌, ◌++◌, filter, filter_map, flat_map, map, Option, Some, None, refl, sym, ap, ◌∙◌, append-nil, arith}
use Rattle.std.specs.List.{AllByRecursion, cons_option}
use Rattle.std.proofs.lemmas.Bool.{and_parts, cond-false, cond-true}
use Rattle.std.proofs.lemmas.Bool.Decides.{nat_tests}
use Rattle.std.proofs.lemmas.List.{map-append}
use Rattle.std.proofs.lemmas.List.Elements.{filter-append}
use Rattle.gb_base.specs.RightNo.{RightNo}
use Rattle.act_model.specs.declared.sales.Basis.{Basis}
use Rattle.act_model.specs.declared.sales.Basis.TheVariants as basis
use Rattle.act_model.specs.declared.sales.Registration.{Registration}
use Rattle.act_model.specs.declared.sales.Registration.TheVariants as registration
use Rattle.folio_sections.proofs.FilteredLists.{all_filtered, filter_none}
use Rattle.auction_classes.specs.Claims.{are_both, by_class, claim_after, claim_of_right, claim_registered, claims_by, claims_of_right, in_order, in_row, is_claim, of_class, personal_claim}
use Rattle.auction_classes.specs.PayableClaims.{claims_in}
use Rattle.auction_classes.specs.declared.case_items.Registered.{Registered}
use Rattle.auction_classes.specs.declared.case_items.Seizure.{Seizure}
use Rattle.auction_classes.specs.declared.claim_items.Claim.{Claim}
use Rattle.auction_classes.specs.declared.claim_items.ClaimItem.{ClaimItem}
use Rattle.auction_classes.specs.declared.rights_found.RightFound.{RightFound}
use Rattle.auction_classes.specs.inner.ClaimRows.{row_after}
use Rattle.auction_classes.proofs.ClaimsInRow.{row_is}
use Rattle.auction_classes.proofs.OrderedClaims.{in_classes}

-- the claim is of the class, and late or timely as asked
abbrev is_of : Bool → ℕ → Claim → Bool
is_of late k c = are_both late c.late && c.class == k

-- ---- the claims in a row

row_rights : (late : Bool) (k : ℕ) (before : Option Claim) (cs : List Claim) → map (λ (x : ClaimItem). x.right) (claims_in late k (row_after before cs)) ≡ map (λ (c : Claim). c.right) (of_class late cs k)
row_rights late k before [] = refl
row_rights late k before (c ∷ cs) =
    let rest = row_rights late k (Some c) cs in
    let items = claims_in late k (row_after (Some c) cs) in
    let claims = of_class late cs k in
    elim (is_of late k c) as (λ b. map (λ (x : ClaimItem). x.right) (cond b (claim_after before c ∷ items) items) ≡ map (λ (d : Claim). d.right) (cond b (c ∷ claims) claims)) [
      | true ↦ ap (λ xs. c.right ∷ xs) rest
      | false ↦ rest
    ]

-- ---- the claims in order

same_class : (late : Bool) (k : ℕ) (cs : List Claim) → of_class late (of_class late cs k) k ≡ of_class late cs k
same_class late k [] = refl
same_class late k (c ∷ cs) =
    let rest = of_class late cs k in
    elim (is_of late k c) as (λ b. is_of late k c ≡ b → of_class late (cond b (c ∷ rest) rest) k ≡ cond b (c ∷ rest) rest) [
      | true ↦ λ is. cond-true (is_of late k c) (c ∷ of_class late rest k) (of_class late rest k) is ∙ ap (λ xs. c ∷ xs) (same_class late k cs)
      | false ↦ λ _. same_class late k cs
    ] refl

-- none of the claims of another class, or of those that are late or timely otherwise
none_of_class : (late other : Bool) (k j : ℕ) (cs : List Claim) → ((c : Claim) → is_of other j c ≡ true → is_of late k c ≡ false) → of_class late (of_class other cs j) k ≡ []
none_of_class late other k j [] apart = refl
none_of_class late other k j (c ∷ cs) apart =
    let rest = of_class other cs j in
    elim (is_of other j c) as (λ b. is_of other j c ≡ b → of_class late (cond b (c ∷ rest) rest) k ≡ []) [
      | true ↦ λ is. cond-false (is_of late k c) (c ∷ of_class late rest k) (of_class late rest k) (apart c is) ∙ none_of_class late other k j cs apart
      | false ↦ λ _. none_of_class late other k j cs apart
    ] refl

unlike : (late : Bool) (k j : ℕ) → (j == k) ≡ false → (c : Claim) → is_of late j c ≡ true → is_of late k c ≡ false
unlike late k j other c is =
    let parts = and_parts (are_both late c.late) (c.class == j) is in
    let here = parts.1 in
    let class : (c.class == k) ≡ false = grind (arith, nat_tests, here, other) in
    (λ i. parts.0 i && class i)

timely_only : (k j : ℕ) (c : Claim) → is_of true j c ≡ true → is_of false k c ≡ false
timely_only k j c is = let parts = and_parts c.late (c.class == j) is in ap (λ b. are_both false b && c.class == k) parts.0

none_behind : (late : Bool) (cs : List Claim) (k from many : ℕ) → k < from → of_class late (in_classes late cs from many) k ≡ []
none_behind late cs k from zero less = refl
none_behind late cs k from (suc many) less =
    let other : (from == k) ≡ false = grind (arith, nat_tests, less) in
    filter-append (is_of late k) (of_class late cs from) (in_classes late cs (from + 1) many)
    ∙ (λ i. none_of_class late late k from cs (unlike late k from other) i ++ none_behind late cs k (from + 1) many (omega (arith, less)) i)

picked : (late : Bool) (cs : List Claim) (k from many : ℕ) → from ≤ k → k < from + many → of_class late (in_classes late cs from many) k ≡ of_class late cs k
picked late cs k from zero low high = absurd (omega (arith, low, high))
picked late cs k from (suc many) low high =
    let here = of_class late cs from in
    let rest = in_classes late cs (from + 1) many in
    let parts = filter-append (is_of late k) here rest in
    elim (from == k) as (λ b. (from == k) ≡ b → of_class late (here ++ rest) k ≡ of_class late cs k) [
      | true ↦ λ is.
          let same : from ≡ k = grind (arith, nat_tests, is) in
          parts ∙ (λ i. of_class late (of_class late cs (same i)) k ++ none_behind late cs k (from + 1) many (omega (arith, same)) i) ∙ append-nil (of_class late (of_class late cs k) k) ∙ same_class late k cs
      | false ↦ λ other.
          let more : from + 1 ≤ k = grind (arith, nat_tests, low, other) in
          parts ∙ (λ i. none_of_class late late k from cs (unlike late k from other) i ++ picked late cs k (from + 1) many more (omega (arith, high)) i)
    ] refl

none_timely : (cs : List Claim) (k from many : ℕ) → of_class false (in_classes true cs from many) k ≡ []
none_timely cs k from zero = refl
none_timely cs k from (suc many) =
    filter-append (is_of false k) (of_class true cs from) (in_classes true cs (from + 1) many)
    ∙ (λ i. none_of_class false true k from cs (timely_only k from) i ++ none_timely cs k (from + 1) many i)

order_class : (cs : List Claim) (k : ℕ) → 1 ≤ k → k ≤ 8 → of_class false (in_order cs) k ≡ of_class false cs k
order_class cs k low high =
    filter-append (is_of false k) (by_class false cs) (by_class true cs)
    ∙ (λ i. picked false cs k 1 8 low (omega (arith, high)) i ++ none_timely cs k 1 8 i)
    ∙ append-nil (of_class false cs k)

-- ---- among all claims

-- the class of rights
abbrev pub class_no : Bool → ℕ
class_no b = cond b 4 6

charge_other : (b late four : Bool) → (are_both false late && cond b 3 7 == class_no four) ≡ false
charge_other true true four = refl
charge_other true false true = refl
charge_other true false false = refl
charge_other false true four = refl
charge_other false false true = refl
charge_other false false false = refl

advance_other : (late four : Bool) → (are_both false late && 1 == class_no four) ≡ false
advance_other true four = refl
advance_other false true = refl
advance_other false false = refl

personal_other : (four : Bool) → (5 == class_no four) ≡ false
personal_other true = refl
personal_other false = refl

no_registered : (four : Bool) (year : ℕ) (rs : List Registered) → AllByRecursion (λ c. is_of false (class_no four) c ≡ false) (filter_map (λ (r : Registered). claim_registered year r.late r.what) rs)
no_registered four year [] = tt
no_registered four year (r ∷ rs) = step r.what _ (no_registered four year rs)
  where
    step : (w : Registration) (rest : List Claim) → AllByRecursion (λ c. is_of false (class_no four) c ≡ false) rest
        → AllByRecursion (λ c. is_of false (class_no four) c ≡ false) (cons_option (claim_registered year r.late w) rest)
    step (registration.Advance person amount) rest more = (advance_other r.late four, more)
    step (registration.PublicCharge person amount due) rest more = (charge_other _ r.late four, more)
    step (registration.Arrears right from until) rest more = more

no_personal : (four : Bool) (zs : List Seizure) → AllByRecursion (λ c. is_of false (class_no four) c ≡ false) (filter_map (λ (z : Seizure). personal_claim z.basis) zs)
no_personal four [] = tt
no_personal four (z ∷ zs) = step z.basis _ (no_personal four zs)
  where
    step : (b : Basis) (rest : List Claim) → AllByRecursion (λ c. is_of false (class_no four) c ≡ false) rest
        → AllByRecursion (λ c. is_of false (class_no four) c ≡ false) (cons_option (personal_claim b) rest)
    step (basis.Personal creditor claim) rest more = (personal_other four, more)
    step (basis.FromRight right) rest more = more

-- a right with a capital has one claim in its class
abbrev IsOne : Bool → RightFound → Type 0
IsOne four x = map (λ (c : Claim). c.right) (of_class false (filter is_claim (claims_of_right x)) (class_no four)) ≡ map (λ (y : RightFound). Some y.right.id) (filter (λ (y : RightFound). y.class == class_no four) (x ∷ []))

-- the claims behind the first one of a right are of class 8, or late
none_else : (four : Bool) (x : RightFound)
    → AllByRecursion (λ c. is_of false (class_no four) c ≡ false) (claim_of_right x 8 false 0 x.old_arrears ∷ claim_of_right x 4 true 0 x.late_arrears ∷ claim_of_right x 8 true 0 x.late_old_arrears ∷ [])
none_else true x = (refl, (refl, (refl, tt)))
none_else false x = (refl, (refl, (refl, tt)))

one_of_right : (four : Bool) (x : RightFound) → 1 ≤ x.capital → IsOne four x
one_of_right four x some =
    let own = claim_of_right x x.class false x.interest x.capital in
    let others : List Claim = claim_of_right x 8 false 0 x.old_arrears ∷ claim_of_right x 4 true 0 x.late_arrears ∷ claim_of_right x 8 true 0 x.late_old_arrears ∷ [] in
    let is : is_claim own ≡ true = grind (arith, nat_tests, some) in
    let first = cond-true (is_claim own) (own ∷ filter is_claim others) (filter is_claim others) is in
    let none = filter_none (is_of false (class_no four)) (filter is_claim others) (all_filtered (λ c. is_of false (class_no four) c ≡ false) is_claim others (none_else four x)) in
    ap (λ xs. map (λ (c : Claim). c.right) (of_class false xs (class_no four))) first
    ∙ (λ i. map (λ (c : Claim). c.right) (cond (x.class == class_no four) (own ∷ none i) (none i)))
    ∙ elim (x.class == class_no four) as (λ t. map (λ (c : Claim). c.right) (cond t (own ∷ []) []) ≡ map (λ (y : RightFound). Some y.right.id) (cond t (x ∷ []) [])) [ true ↦ refl | false ↦ refl ]

all_of_rights : (four : Bool) (xs : List RightFound) → AllByRecursion (λ (x : RightFound). 1 ≤ x.capital) xs
    → map (λ (c : Claim). c.right) (of_class false (filter is_claim (flat_map claims_of_right xs)) (class_no four)) ≡ map (λ (y : RightFound). Some y.right.id) (filter (λ (y : RightFound). y.class == class_no four) xs)
all_of_rights four [] all = refl
all_of_rights four (x ∷ xs) all =
    let k : ℕ = class_no four in
    let here = claims_of_right x in
    let rest = flat_map claims_of_right xs in
    let right_of : Claim → Option RightNo = λ c. c.right in
    ap (λ ys. map right_of (of_class false ys k)) (filter-append is_claim here rest)
    ∙ ap (map right_of) (filter-append (is_of false k) (filter is_claim here) (filter is_claim rest))
    ∙ map-append right_of (of_class false (filter is_claim here) k) (of_class false (filter is_claim rest) k)
    ∙ (λ i. one_of_right four x all.0 i ++ all_of_rights four xs all.1 i)
    ∙ sym (map-append (λ (y : RightFound). Some y.right.id) (filter (λ (y : RightFound). y.class == k) (x ∷ [])) (filter (λ (y : RightFound). y.class == k) xs))
    ∙ ap (map (λ (y : RightFound). Some y.right.id)) (sym (filter-append (λ (y : RightFound). y.class == k) (x ∷ []) xs))

-- the timely claims of a class of rights are those of its rights
pub class_is_of_rights : (four : Bool) (year : ℕ) (rs : List Registered) (zs : List Seizure) (found : List RightFound) → AllByRecursion (λ (x : RightFound). 1 ≤ x.capital) found
    → map (λ (x : ClaimItem). x.right) (claims_in false (class_no four) (in_row (in_order (claims_by year rs zs found)))) ≡ map (λ (y : RightFound). Some y.right.id) (filter (λ (y : RightFound). y.class == class_no four) found)
class_is_of_rights four year rs zs found all =
    let k : ℕ = class_no four in
    let right_of : Claim → Option RightNo = λ c. c.right in
    let registered = filter is_claim (filter_map (λ (r : Registered). claim_registered year r.late r.what) rs) in
    let personal = filter is_claim (filter_map (λ (z : Seizure). personal_claim z.basis) zs) in
    let rights = filter is_claim (flat_map claims_of_right found) in
    let first = filter_none (is_of false k) registered (all_filtered (λ c. is_of false k c ≡ false) is_claim _ (no_registered four year rs)) in
    let second = filter_none (is_of false k) personal (all_filtered (λ c. is_of false k c ≡ false) is_claim _ (no_personal four zs)) in
    let low : 1 ≤ k = elim four as (λ b. 1 ≤ cond b 4 6) [ true ↦ omega arith | false ↦ omega arith ] in
    let high : k ≤ 8 = elim four as (λ b. cond b 4 6 ≤ 8) [ true ↦ omega arith | false ↦ omega arith ] in
    ap (λ items. map (λ (x : ClaimItem). x.right) (claims_in false k items)) (row_is (in_order (claims_by year rs zs found)))
    ∙ row_rights false k None (in_order (claims_by year rs zs found))
    ∙ ap (map right_of) (order_class (claims_by year rs zs found) k low high
    ∙ filter-append (is_of false k) registered (personal ++ rights)
    ∙ ap (λ ys. of_class false registered k ++ ys) (filter-append (is_of false k) personal rights)
    ∙ (λ i. first i ++ (second i ++ of_class false rights k)))
    ∙ all_of_rights four found all
