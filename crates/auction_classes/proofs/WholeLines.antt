-- The line of class 4 is as long as what its live rights claim, and of a sum as great each of them gets its whole claim, so its capital remains.
use Rattle.std.proofs.Common.{◌≡◌, ℕ, ◌+◌, ◌-◌, ◌<◌, ◌≤◌, Bool, true, false, cond, not, ◌==◌, ◌&&◌, ◌||◌, List, [], ◌∷◌, Option, Some, None, filter, find, length, map, nat_le, sum_by, refl, sym, ap, ◌∙◌, subst, arith}
use Rattle.std.specs.List.{AllByRecursion, list_all, list_any}
use Rattle.std.specs.Option.{option_map_or}
use Rattle.std.proofs.lemmas.Bool.{and_from, and_parts, false≢true, or_left}
use Rattle.std.proofs.lemmas.Bool.Decides.{nat_tests}
use Rattle.std.proofs.lemmas.List.{drop_all}
use Rattle.std.proofs.lemmas.List.Sums.{sum_by-cons, sum_by-le-sum_by}
use Rattle.gb_base.specs.Limits.{most_sum}
use Rattle.gb_base.specs.RightNo.{RightNo, same_right}
use Rattle.gb_base.specs.declared.keys.Key.{Key}
use Rattle.gb_base.specs.declared.keys.Key.TheVariants.{Right}
use Rattle.gb_base.proofs.Members.{In}
use Rattle.gb_base.proofs.SameRights.{right_is}
use Rattle.act_model.specs.Receiving.{IsJournal}
use Rattle.act_model.specs.declared.receipts.Receipt.{Receipt}
use Rattle.kept_registers.specs.Kept.{Kept}
use Rattle.folio_sections.specs.Rights.{is_live}
use Rattle.folio_sections.specs.declared.entries.Entry.{Entry}
use Rattle.folio_sections.proofs.FilteredLists.{all_in, filter_alike, in_filter, of_filter}
use Rattle.rank_slots.specs.Filled.{Filled, line}
use Rattle.rank_slots.specs.Groups.{group_of, is_of, keeps_place}
use Rattle.rank_slots.specs.Payments.{claim_of, knot_of, pay, reaches_end}
use Rattle.rank_slots.specs.declared.places.Knot.{Knot}
use Rattle.rank_slots.specs.declared.places.Place.{Place}
use Rattle.folio_line.specs.FolioRights.{is_live_with}
use Rattle.folio_line.specs.FolioSlots.{is_gone, stands_on_line}
use Rattle.folio_line.specs.declared.folio_rights.CreatedRight.{CreatedRight}
use Rattle.folio_line.specs.inner.PlaceByPlace.{place_behind, places_behind}
use Rattle.folio_line.proofs.LineFills.{filling_is, its_places}
use Rattle.folio_line.proofs.PlacedOrder.{of_placed_rights}
use Rattle.folio_line.proofs.PlacesBehind.{all_places}
use Rattle.auction_classes.specs.Claims.{class_of_right, right_found, rights_found, rights_of_class}
use Rattle.auction_classes.specs.ClassLines.{claim_in_class, exchanges_of_class, exercises_of_class, line_of_class, stands_in_class}
use Rattle.auction_classes.specs.LowestBid.{reaches_group, reaches_knot, remaining_by_pay, remaining_of}
use Rattle.auction_classes.specs.SaleClaims.{of_class_four, right_claimed}
use Rattle.auction_classes.specs.Sales.{Sale, read, sale_at}
use Rattle.auction_classes.specs.declared.claim_items.RightClaimed.{RightClaimed}
use Rattle.auction_classes.specs.declared.rights_found.RightFound.{RightFound}
use Rattle.auction_classes.specs.inner.WholeBids.{capital_in_four, claim_in_four}
use Rattle.auction_classes.proofs.ClassFills.{class_can_fill, rights_in_class}
use Rattle.auction_classes.proofs.NarrowedRights.{holds_of, rights_narrowed}
use Rattle.auction_classes.proofs.RemainsWithin.{four_claims}
use Rattle.auction_classes.proofs.RightsOnLine.{live_on_line}
use Rattle.auction_classes.proofs.WeighedClaims.{filter_weighs}

-- The law of a whole line, for one line: it is as long as what its kept places claim, and of a sum as great each right gets its claim.
pub record IsWholeLine (filled : Filled) : Type 0 where
  pub long : length (line filled) ≡ sum_by (λ p. p.claim) (filter (λ p. not p.dropped) filled.places)
  pub paid : (right : RightNo) → keeps_place filled.places right ≡ true → pay filled right (length (line filled)) ≡ claim_of filled.places right

-- ---- sums

-- a sum over those that pass is a sum over all where the others give nothing
sum_passing : {X Y : Type 0} (f : Y → ℕ) (g : X → ℕ) (p : X → Bool) (h : X → Y) (xs : List X) → AllByRecursion (λ x. f (h x) ≡ cond (p x) (g x) 0) xs → sum_by f (map h xs) ≡ sum_by g (filter p xs)
sum_passing f g p h [] each = refl
sum_passing f g p h (x ∷ xs) each =
    let rest = sum_passing f g p h xs each.1 in
    let first = sum_by-cons f (h x) (map h xs) in
    let here = each.0 in
    elim (p x) as (λ b. f (h x) ≡ cond b (g x) 0 → sum_by f (map h (x ∷ xs)) ≡ sum_by g (cond b (x ∷ filter p xs) (filter p xs))) [
      | true ↦ λ is. let own = sum_by-cons g x (filter p xs) in omega (arith, first, is, rest, own)
      | false ↦ λ is. omega (arith, first, is, rest)
    ] here

-- what the kept ones of these places claim is what their rights claim
kept_claims : (claims : RightNo → ℕ) (gone : RightNo → Bool) (before : Option CreatedRight) (xs : List CreatedRight)
    → sum_by (λ (p : Place). p.claim) (filter (λ (p : Place). not p.dropped) (places_behind claims gone before xs)) ≡ sum_by (λ (x : CreatedRight). claims x.id) (filter (λ (x : CreatedRight). not (gone x.id)) xs)
kept_claims claims gone before [] = refl
kept_claims claims gone before (x ∷ xs) =
    let p = place_behind claims gone before x in
    let ps = filter (λ (q : Place). not q.dropped) (places_behind claims gone (Some x) xs) in
    let ys = filter (λ (y : CreatedRight). not (gone y.id)) xs in
    let rest = kept_claims claims gone (Some x) xs in
    elim (gone x.id) as (λ b. sum_by (λ (q : Place). q.claim) (cond (not b) (p ∷ ps) ps) ≡ sum_by (λ (y : CreatedRight). claims y.id) (cond (not b) (x ∷ ys) ys)) [
      | true ↦ rest
      | false ↦
          let one = sum_by-cons (λ (q : Place). q.claim) p ps in
          let other = sum_by-cons (λ (y : CreatedRight). claims y.id) x ys in
          omega (arith, one, other, rest)
    ]

-- ---- the rights of the line that are live are those of the class

-- a live right of a class
abbrev lives_in : Sale → ℕ → RightNo → List Entry → Bool
lives_in s class id es = class_of_right s id == class && is_live es

not_gone : (own live : Bool) → own ≡ true → not (not live) ≡ (own && live)
not_gone true true is = refl
not_gone true false is = refl
not_gone false live is = absurd (false≢true is)

of_live : (own live : Bool) → live ≡ true → own ≡ (own && live)
of_live true live is = sym is
of_live false live is = refl

live_in_class : (s : Sale) (class : ℕ) → filter (λ (x : CreatedRight). not (is_gone (read s) s.folio x.id)) (rights_in_class s class) ≡ rights_of_class s class
live_in_class s class =
    let at = read s in
    let narrow = lives_in s class in
    let wide : (id : RightNo) (es : List Entry) → narrow id es ≡ true → stands_in_class s class id es ≡ true = λ id es is.
    let parts = and_parts (class_of_right s id == class) (is_live es) is in
    and_from (class_of_right s id == class) (stands_on_line (exchanges_of_class s class) id es) parts.0 (or_left (is_live es) _ parts.1) in
    let live : (id : RightNo) (es : List Entry) → narrow id es ≡ true → is_live_with id es ≡ true = λ id es is. (and_parts (class_of_right s id == class) (is_live es) is).1 in
    filter_alike (λ (x : CreatedRight). not (is_gone at s.folio x.id)) (holds_of narrow at s.folio) (rights_in_class s class)
    (all_in (λ (x : CreatedRight). not (is_gone at s.folio x.id) ≡ holds_of narrow at s.folio x) (rights_in_class s class)
    (λ x there. not_gone (class_of_right s x.id == class) (is_live (at (Right s.folio x.id)))
    (and_parts (class_of_right s x.id == class) (stands_on_line (exchanges_of_class s class) x.id (at (Right s.folio x.id))) (of_placed_rights (stands_in_class s class) at s.folio x there).stands).0))
    ∙ sym (rights_narrowed narrow (stands_in_class s class) at s.folio wide)
    ∙ rights_narrowed narrow is_live_with at s.folio live
    ∙ sym (filter_alike (λ (x : CreatedRight). class_of_right s x.id == class) (holds_of narrow at s.folio) (rights_found s)
    (all_in (λ (x : CreatedRight). (class_of_right s x.id == class) ≡ holds_of narrow at s.folio x) (rights_found s)
    (λ x there. of_live (class_of_right s x.id == class) (is_live (at (Right s.folio x.id))) (of_placed_rights is_live_with at s.folio x there).stands)))

-- ---- what the live rights of class 4 claim

-- what the kept places of a class claim
abbrev kept_of : Filled → ℕ
kept_of filled = sum_by (λ (p : Place). p.claim) (filter (λ (p : Place). not p.dropped) filled.places)

claims_of_line : (s : Sale) (class : ℕ) → kept_of (line_of_class s class) ≡ sum_by (λ (x : CreatedRight). claim_in_class s class x.id) (rights_of_class s class)
claims_of_line s class =
    let claims = claim_in_class s class in
    let holds = stands_in_class s class in
    ap kept_of (sym (filling_is claims (read s) s.folio holds (exchanges_of_class s class) (exercises_of_class s class)))
    ∙ kept_claims claims (is_gone (read s) s.folio) None (rights_in_class s class)
    ∙ ap (sum_by (λ (x : CreatedRight). claims x.id)) (live_in_class s class)

-- what one live right claims in class 4 is its claim on the line, where it is of the class
one_claims : (s : Sale) (x : CreatedRight) → In x (rights_found s) → claim_in_four (right_found s x) ≡ cond (class_of_right s x.id == 4) (claim_in_class s 4 x.id) 0
one_claims s x there =
    elim (class_of_right s x.id == 4) as (λ b. (class_of_right s x.id == 4) ≡ b → cond b ((right_found s x).interest + (right_found s x).capital) 0 ≡ cond b (claim_in_class s 4 x.id) 0) [
      | true ↦ λ is. sym (four_claims s x (in_filter (λ (y : CreatedRight). class_of_right s y.id == 4) (rights_found s) x there is))
      | false ↦ λ _. refl
    ] refl

-- What the live rights of class 4 claim is what the kept places of its line claim.
pub four_kept : (s : Sale) → sum_by claim_in_four (map (right_found s) (rights_found s)) ≡ kept_of (line_of_class s 4)
four_kept s =
    sum_passing claim_in_four (λ (x : CreatedRight). claim_in_class s 4 x.id) (λ (x : CreatedRight). class_of_right s x.id == 4) (right_found s) (rights_found s)
    (all_in (λ (x : CreatedRight). claim_in_four (right_found s x) ≡ cond (class_of_right s x.id == 4) (claim_in_class s 4 x.id) 0) (rights_found s) (one_claims s))
    ∙ sym (claims_of_line s 4)

-- so what the live rights of class 4 claim is in the range of sums
pub four_within : (journal : List Receipt) (at : Key → List Entry) (folio a : ℕ) → Kept journal at → IsJournal journal
    → sum_by claim_in_four (map (right_found (sale_at journal at folio a)) (rights_found (sale_at journal at folio a))) < most_sum
four_within journal at folio a kept stands =
    let s = sale_at journal at folio a in
    let same = four_kept s in
    let less = filter_weighs (λ (p : Place). p.claim) (λ (p : Place). not p.dropped) (line_of_class s 4).places in
    let few = (class_can_fill journal at folio a 4 kept stands).places.sum in
    omega (arith, same, less, few)

-- ---- what remains of the live rights of class 4

-- a place that is kept claims what its right claims
claim_is : (claims : RightNo → ℕ) (places : List Place) (id : RightNo) → AllByRecursion (λ (p : Place). p.claim ≡ claims p.right) places → keeps_place places id ≡ true → claim_of places id ≡ claims id
claim_is claims [] id each kept = absurd (false≢true kept)
claim_is claims (p ∷ ps) id each kept =
    elim (same_right p.right id)
    as (λ b. same_right p.right id ≡ b → ((b && not p.dropped) || keeps_place ps id) ≡ true → option_map_or (λ (q : Place). q.claim) (cond b (Some p) (find (is_of id) ps)) 0 ≡ claims id) [
      | true ↦ λ own _. each.0 ∙ ap claims (right_is p.right id own)
      | false ↦ λ _ more. claim_is claims ps id each.1 more
    ] refl kept

claim_on_line : (s : Sale) (class : ℕ) (id : RightNo) → keeps_place (line_of_class s class).places id ≡ true → claim_of (line_of_class s class).places id ≡ claim_in_class s class id
claim_on_line s class id =
    let claims = claim_in_class s class in
    let holds = stands_in_class s class in
    subst (λ (f : Filled). keeps_place f.places id ≡ true → claim_of f.places id ≡ claims id) (filling_is claims (read s) s.folio holds (exchanges_of_class s class) (exercises_of_class s class))
    (claim_is claims (its_places claims holds (read s) s.folio) id
    (all_places (λ (p : Place). p.claim ≡ claims p.right) claims (is_gone (read s) s.folio) None (rights_in_class s class) (λ b x there. refl)))

-- all of a line reaches the end of each right
reached : (filled : Filled) (right : RightNo) → reaches_end filled right (length (line filled)) ≡ true
reached filled right = ap (λ cs. not (list_any (same_right right) cs)) (drop_all (length (line filled)) (line filled) (omega arith))

all_reached : (filled : Filled) (ps : List Place) → list_all (λ (p : Place). reaches_end filled p.right (length (line filled))) ps ≡ true
all_reached filled [] = refl
all_reached filled (p ∷ ps) = λ i. reached filled p.right i && all_reached filled ps i

either_so : (b c : Bool) → c ≡ true → (b || c) ≡ true
either_so true c is = refl
either_so false c is = is

group_reached : (filled : Filled) (right : RightNo) → reaches_group filled right (length (line filled)) ≡ true
group_reached filled right = either_so (length (group_of filled.places right) == 1) _ (all_reached filled (group_of filled.places right))

knot_reached : (filled : Filled) (right : RightNo) → reaches_knot filled right (length (line filled)) ≡ true
knot_reached filled right = elim (knot_of filled.knots right) as (λ o. option_map_or (λ (k : Knot). reaches_end filled k.reserved (length (line filled)) && reaches_end filled k.exercised (length (line filled))) o true ≡ true) [
  | None ↦ refl
  | Some k ↦ λ i. reached filled k.reserved i && reached filled k.exercised i
]

-- so what remains of a right, of the whole line, is its claim without its interest
whole_remains : (filled : Filled) (x : RightClaimed) → IsWholeLine filled → keeps_place filled.places x.right ≡ true → remaining_of filled (length (line filled)) x ≡ claim_of filled.places x.right - x.interest
whole_remains filled x whole kept =
    let claim = claim_of filled.places x.right in
    let enough : (x.in_division_three || nat_le claim claim) ≡ true = either_so x.in_division_three (nat_le claim claim) (grind (arith, nat_tests)) in
    ap (remaining_by_pay filled (length (line filled)) x) (whole.paid x.right kept)
    ∙ (λ i. cond (enough i && (group_reached filled x.right i && knot_reached filled x.right i)) (claim - x.interest) 0)

-- what remains of one right of class 4 is its capital
one_remains : (journal : List Receipt) (at : Key → List Entry) (folio a : ℕ) (x : CreatedRight) → Kept journal at → IsJournal journal → IsWholeLine (line_of_class (sale_at journal at folio a) 4) → In x (rights_of_class (sale_at journal at folio a) 4)
    → remaining_of (line_of_class (sale_at journal at folio a) 4) (length (line (line_of_class (sale_at journal at folio a) 4))) (right_claimed (right_found (sale_at journal at folio a) x)) ≡ (right_found (sale_at journal at folio a) x).capital
one_remains journal at folio a x kept stands whole there =
    let s = sale_at journal at folio a in
    let filled = line_of_class s 4 in
    let own = of_filter (λ (y : CreatedRight). class_of_right s y.id == 4) (rights_found s) x there in
    let live = (of_placed_rights is_live_with (read s) folio x own.0).stands in
    let place = live_on_line journal at folio a 4 x.id kept stands own.1 live in
    let claim = claim_on_line s 4 x.id place in
    let parts = four_claims s x there in
    let left = whole_remains filled (right_claimed (right_found s x)) whole place in
    omega (arith, left, claim, parts)

-- What remains of all rights of class 4 is their capital.
pub four_remain : (journal : List Receipt) (at : Key → List Entry) (folio a : ℕ) → Kept journal at → IsJournal journal → IsWholeLine (line_of_class (sale_at journal at folio a) 4)
    → sum_by capital_in_four (map (right_found (sale_at journal at folio a)) (rights_found (sale_at journal at folio a)))
    ≡ sum_by (remaining_of (line_of_class (sale_at journal at folio a) 4) (length (line (line_of_class (sale_at journal at folio a) 4)))) (of_class_four (map (right_found (sale_at journal at folio a)) (rights_found (sale_at journal at folio a))))
four_remain journal at folio a kept stands whole =
    let s = sale_at journal at folio a in
    let left = remaining_of (line_of_class s 4) (length (line (line_of_class s 4))) in
    by_class (rights_found s) (all_in (λ (x : CreatedRight). (class_of_right s x.id == 4) ≡ true → left (right_claimed (right_found s x)) ≡ (right_found s x).capital) (rights_found s)
    (λ x there own. one_remains journal at folio a x kept stands whole (in_filter (λ (y : CreatedRight). class_of_right s y.id == 4) (rights_found s) x there own)))
  where
    by_class : (xs : List CreatedRight) → AllByRecursion (λ (x : CreatedRight). (class_of_right (sale_at journal at folio a) x.id == 4) ≡ true
        → remaining_of (line_of_class (sale_at journal at folio a) 4) (length (line (line_of_class (sale_at journal at folio a) 4))) (right_claimed (right_found (sale_at journal at folio a) x)) ≡ (right_found (sale_at journal at folio a) x).capital) xs
        → sum_by capital_in_four (map (right_found (sale_at journal at folio a)) xs)
        ≡ sum_by (remaining_of (line_of_class (sale_at journal at folio a) 4) (length (line (line_of_class (sale_at journal at folio a) 4)))) (of_class_four (map (right_found (sale_at journal at folio a)) xs))
    by_class [] each = refl
    by_class (x ∷ xs) each =
        let s = sale_at journal at folio a in
        let left = remaining_of (line_of_class s 4) (length (line (line_of_class s 4))) in
        let found = right_found s in
        let rest = by_class xs each.1 in
        let first = sum_by-cons capital_in_four (found x) (map found xs) in
        let four = filter (λ (y : RightFound). y.class == 4) (map found xs) in
        elim (class_of_right s x.id == 4) as (λ b. (b ≡ true → left (right_claimed (found x)) ≡ (found x).capital) → sum_by capital_in_four (map found (x ∷ xs)) ≡ cond b (found x).capital 0 + sum_by capital_in_four (map found xs)
        → sum_by capital_in_four (map found (x ∷ xs)) ≡ sum_by left (map right_claimed (cond b (found x ∷ four) four))) [
          | true ↦ λ is sum.
              let own = sum_by-cons left (right_claimed (found x)) (map right_claimed four) in
              let same = is refl in
              omega (arith, sum, own, same, rest)
          | false ↦ λ _ sum. omega (arith, sum, rest)
        ] each.0 first

-- ---- the capital is in range too

capital_at_most : (b : Bool) (interest capital : ℕ) → cond b capital 0 ≤ cond b (interest + capital) 0
capital_at_most true interest capital = omega arith
capital_at_most false interest capital = omega arith

pub capital_within : (found : List RightFound) → sum_by claim_in_four found < most_sum → sum_by capital_in_four found < most_sum
capital_within found few =
    let less = sum_by-le-sum_by capital_in_four claim_in_four found (λ (x : RightFound). capital_at_most (x.class == 4) x.interest x.capital) in
    omega (arith, less, few)
