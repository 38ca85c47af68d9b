-- What the rights of classes 4 and 6 take: no more than is left, where the money and what remains together reach the cover.
use Rattle.std.proofs.Common.{◌≡◌, ℕ, ◌+◌, ◌-◌, ◌≤◌, ◌&&◌, Bool, true, false, cond, List, [], ◌∷◌, All, IfSome, Some, None, find, map, refl, sym, ap, ◌∙◌, subst, arith}
use Rattle.std.specs.Prelude.{sum_by}
use Rattle.std.specs.List.{AllByRecursion, IsDistinct}
use Rattle.std.specs.Option.{option_map_or}
use Rattle.std.proofs.lemmas.Bool.{and_parts}
use Rattle.std.proofs.lemmas.List.Elements.{All-from_recursion, recursion_from_All}
use Rattle.std.proofs.lemmas.List.Sums.{sum_by-cons}
use Rattle.std.proofs.lemmas.Map.Keys.{IsDistinct-head, IsDistinct-tail}
use Rattle.gb_base.specs.RightNo.{RightNo, same_right}
use Rattle.gb_base.proofs.Members.{find_sound}
use Rattle.gb_base.proofs.SameRights.{right_is, right_self}
use Rattle.rank_slots.specs.CanFill.{CanFill}
use Rattle.rank_slots.specs.Filled.{Filled}
use Rattle.rank_slots.specs.Groups.{keeps_place}
use Rattle.rank_slots.specs.Payments.{pay}
use Rattle.auction_classes.specs.LowestBid.{is_paid_enough, reaches_group, reaches_knot, remaining, remaining_of}
use Rattle.auction_classes.specs.PayableClaims.{AreOfRights, claims_in}
use Rattle.auction_classes.specs.SaleClaims.{SaleClaims}
use Rattle.auction_classes.specs.declared.claim_items.ClaimItem.{ClaimItem}
use Rattle.auction_classes.specs.declared.claim_items.RightClaimed.{RightClaimed}
use Rattle.proceeds_split.specs.Plan.{cash_of, class_four, class_six, four_line, of_right, paid, remaining_in_all, six_line}
use Rattle.proceeds_split.specs.declared.plan_lines.PlanLine.{PlanLine}
use Rattle.proceeds_split.specs.inner.RightsPaid.{IsOnLine}
use Rattle.proceeds_split.proofs.LinePaid.{rights_paid}
use Rattle.proceeds_split.proofs.LineRemains.{pays_on}

-- ---- sums over claims and over their rights

-- the claims are of these rights, so a value of each right sums alike over both
sum_of_rights : (f : RightNo → ℕ) (claims : List ClaimItem) (ids : List RightNo) → map (λ (c : ClaimItem). c.right) claims ≡ map (λ id. Some id) ids → sum_by (of_right f) claims ≡ sum_by f ids
sum_of_rights f claims ids are =
    by_option claims ∙ ap (sum_by (λ o. option_map_or f o 0)) are ∙ sym (by_some ids)
  where
    by_option : (cs : List ClaimItem) → sum_by (of_right f) cs ≡ sum_by (λ o. option_map_or f o 0) (map (λ (c : ClaimItem). c.right) cs)
    by_option [] = refl
    by_option (c ∷ cs) =
        let left = sum_by-cons (of_right f) c cs in
        let right = sum_by-cons (λ o. option_map_or f o 0) c.right (map (λ (d : ClaimItem). d.right) cs) in
        omega (arith, left, right, by_option cs)

    by_some : (xs : List RightNo) → sum_by f xs ≡ sum_by (λ o. option_map_or f o 0) (map (λ id. Some id) xs)
    by_some [] = refl
    by_some (x ∷ xs) =
        let left = sum_by-cons f x xs in
        let right = sum_by-cons (λ o. option_map_or f o 0) (Some x) (map (λ id. Some id) xs) in
        omega (arith, left, right, by_some xs)

-- ---- what remains

-- a search by number finds each right's own value
found_sum : (v : RightClaimed → ℕ) (xs : List RightClaimed) → IsDistinct same_right (map (λ x. x.right) xs)
    → sum_by (λ id. option_map_or v (find (λ x. same_right x.right id) xs) 0) (map (λ x. x.right) xs) ≡ sum_by v xs
found_sum v [] differ = refl
found_sum v (x ∷ xs) differ =
    let ids = map (λ (y : RightClaimed). y.right) xs in
    let f : RightNo → ℕ = λ id. option_map_or v (find (λ (y : RightClaimed). same_right y.right id) (x ∷ xs)) 0 in
    let left = sum_by-cons f x.right ids in
    let right = sum_by-cons v x xs in
    let own : f x.right ≡ v x = ap (λ b. option_map_or v (cond b (Some x) (find (λ (y : RightClaimed). same_right y.right x.right) xs)) 0) (right_self x.right) in
    let others = behind ids (IsDistinct-head same_right x.right ids differ) in
    let rest = found_sum v xs (IsDistinct-tail same_right x.right ids differ) in
    omega (arith, left, right, own, others, rest)
  where
    behind : (ids : List RightNo) → AllByRecursion (λ id. same_right x.right id ≡ false) ids
        → sum_by (λ id. option_map_or v (find (λ (y : RightClaimed). same_right y.right id) (x ∷ xs)) 0) ids ≡ sum_by (λ id. option_map_or v (find (λ (y : RightClaimed). same_right y.right id) xs) 0) ids
    behind [] all = refl
    behind (id ∷ ids) all =
        let left = sum_by-cons (λ j. option_map_or v (find (λ (y : RightClaimed). same_right y.right j) (x ∷ xs)) 0) id ids in
        let right = sum_by-cons (λ j. option_map_or v (find (λ (y : RightClaimed). same_right y.right j) xs) 0) id ids in
        let here = ap (λ b. option_map_or v (cond b (Some x) (find (λ (y : RightClaimed). same_right y.right id) xs)) 0) all.0 in
        omega (arith, left, right, here, behind ids all.1)

-- what remains of a right is no more than it gets of a sum that reaches the cover
remains_of_pay : (line : Filled) (cover t : ℕ) (x : RightClaimed) → CanFill line → cover ≤ t → remaining_of line cover x ≤ pay line x.right t
remains_of_pay line cover t x fits more =
    let enough = is_paid_enough line x (pay line x.right cover) in
    let reached = reaches_group line x.right cover && reaches_knot line x.right cover in
    elim (enough && reached) as (λ b. (enough && reached) ≡ b → cond b (pay line x.right cover - x.interest) 0 ≤ pay line x.right t) [
      | true ↦ λ all.
          let parts = and_parts (reaches_group line x.right cover) (reaches_knot line x.right cover) (and_parts enough reached all).1 in
          let on = pays_on line x.right cover t fits more parts.0 parts.1 in
          omega (arith, on)
      | false ↦ λ _. omega arith
    ] refl

remains_less : (c : SaleClaims) (cover t : ℕ) (id : RightNo) → CanFill c.line_four → cover ≤ t → remaining c cover id ≤ pay c.line_four id t
remains_less c cover t id fits more =
    let is_it : RightClaimed → Bool = λ x. same_right x.right id in
    elim (find is_it c.rights) as (λ o. find is_it c.rights ≡ o → option_map_or (remaining_of c.line_four cover) o 0 ≤ pay c.line_four id t) [
      | None ↦ λ _. omega arith
      | Some x ↦ λ is.
          let own = right_is x.right id (find_sound is_it c.rights x is).1 in
          subst (λ z. remaining_of c.line_four cover x ≤ pay c.line_four z t) own (remains_of_pay c.line_four cover t x fits more)
    ] refl

-- all that remains, right by right
remaining_sum : (c : SaleClaims) (cover : ℕ) → IsDistinct same_right (map (λ x. x.right) c.rights) → sum_by (remaining c cover) (map (λ x. x.right) c.rights) ≡ remaining_in_all c cover
remaining_sum c cover differ = found_sum (remaining_of c.line_four cover) c.rights differ

sum_less : (f g : RightNo → ℕ) (ids : List RightNo) → ((id : RightNo) → f id ≤ g id) → sum_by f ids ≤ sum_by g ids
sum_less f g [] less = omega arith
sum_less f g (id ∷ ids) less =
    let left = sum_by-cons f id ids in
    let right = sum_by-cons g id ids in
    let here = less id in
    omega (arith, left, right, here, sum_less f g ids less)

-- all that remains is no more than the cover
pub remaining_within : (c : SaleClaims) (cover : ℕ) → CanFill c.line_four → AreOfRights c.line_four (claims_in false 4 c.items) (map (λ x. x.right) c.rights) → remaining_in_all c cover ≤ cover
remaining_within c cover fits four =
    let ids = map (λ (x : RightClaimed). x.right) c.rights in
    let all = remaining_sum c cover four.differ in
    let less = sum_less (remaining c cover) (λ id. pay c.line_four id cover) ids (λ id. remains_less c cover cover id fits (omega arith)) in
    let most = rights_paid c.line_four ids cover fits four.differ four.kept in
    omega (arith, all, less, most)

-- ---- what the rights take

lines_pay : (f : ClaimItem → PlanLine) (g : ClaimItem → ℕ) (claims : List ClaimItem) → ((claim : ClaimItem) → paid (f claim) ≡ g claim) → sum_by paid (map f claims) ≡ sum_by g claims
lines_pay f g [] same = refl
lines_pay f g (c ∷ cs) same =
    let left = sum_by-cons paid (f c) (map f cs) in
    let right = sum_by-cons g c cs in
    let here = same c in
    omega (arith, left, right, here, lines_pay f g cs same)

-- what is taken off and what is left are together what there was
taken_off : (f g : RightNo → ℕ) (ids : List RightNo) → ((id : RightNo) → g id ≤ f id) → sum_by (λ id. f id - g id) ids + sum_by g ids ≡ sum_by f ids
taken_off f g [] less = refl
taken_off f g (id ∷ ids) less =
    let one = sum_by-cons (λ j. f j - g j) id ids in
    let two = sum_by-cons g id ids in
    let three = sum_by-cons f id ids in
    let here = less id in
    omega (arith, one, two, three, here, taken_off f g ids less)

pub four_within : (c : SaleClaims) (cover money : ℕ) → CanFill c.line_four → AreOfRights c.line_four (claims_in false 4 c.items) (map (λ x. x.right) c.rights)
    → cover ≤ money + remaining_in_all c cover → sum_by paid (class_four c cover money) ≤ money
four_within c cover money fits four reached =
    let ids = map (λ (x : RightClaimed). x.right) c.rights in
    let along : ℕ = money + remaining_in_all c cover in
    let claims = claims_in false 4 c.items in
    let lines = lines_pay (four_line c cover money) (of_right (cash_of c cover money)) claims (λ claim. omega arith) in
    let rights = sum_of_rights (cash_of c cover money) claims ids four.are in
    let off = taken_off (λ id. pay c.line_four id along) (remaining c cover) ids (λ id. remains_less c cover along id fits reached) in
    let all = remaining_sum c cover four.differ in
    let most = rights_paid c.line_four ids along fits four.differ four.kept in
    omega (arith, lines, rights, off, all, most)

pub six_within : (c : SaleClaims) (ids : List RightNo) (money : ℕ) → CanFill c.line_six → AreOfRights c.line_six (claims_in false 6 c.items) ids → sum_by paid (class_six c money) ≤ money
six_within c ids money fits six =
    let claims = claims_in false 6 c.items in
    let lines = lines_pay (six_line c.line_six money) (of_right (λ id. pay c.line_six id money)) claims (λ claim. omega arith) in
    let rights = sum_of_rights (λ id. pay c.line_six id money) claims ids six.are in
    let most = rights_paid c.line_six ids money fits six.differ six.kept in
    omega (arith, lines, rights, most)

-- ---- claims of rights that stand on the line

pub all_on_line : (line : Filled) (claims : List ClaimItem) (ids : List RightNo) → AreOfRights line claims ids → All (IsOnLine line) claims
all_on_line line claims ids of =
    All-from_recursion (IsOnLine line) claims
    (of_mapped claims (subst (AllByRecursion (λ o. IfSome o (λ id. keeps_place line.places id ≡ true))) (sym of.are) (of_some ids (recursion_from_All (λ id. keeps_place line.places id ≡ true) ids of.kept))))
  where
    of_some : (xs : List RightNo) → AllByRecursion (λ id. keeps_place line.places id ≡ true) xs → AllByRecursion (λ o. IfSome o (λ id. keeps_place line.places id ≡ true)) (map (λ id. Some id) xs)
    of_some [] all = tt
    of_some (x ∷ xs) all = (all.0, of_some xs all.1)

    of_mapped : (cs : List ClaimItem) → AllByRecursion (λ o. IfSome o (λ id. keeps_place line.places id ≡ true)) (map (λ (c : ClaimItem). c.right) cs) → AllByRecursion (IsOnLine line) cs
    of_mapped [] all = tt
    of_mapped (c ∷ cs) all = (all.0, of_mapped cs all.1)
