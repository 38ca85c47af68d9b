-- What remains of a right in a sale is at most the greatest amount.
use Rattle.std.proofs.Common.{◌≡◌, ℕ, ◌+◌, ◌-◌, ◌≤◌, Bool, true, false, cond, ◌==◌, ◌&&◌, List, [], ◌∷◌, Some, None, filter, find, map, refl, sym, ap, ◌∙◌, subst, arith}
use Rattle.std.specs.List.{AllByRecursion}
use Rattle.std.specs.Option.{option_map_or}
use Rattle.std.proofs.lemmas.List.Elements.{recursion_from_All}
use Rattle.gb_base.specs.Limits.{most_cents}
use Rattle.gb_base.specs.RightNo.{RightNo, same_right}
use Rattle.gb_base.specs.declared.keys.Key.{Key}
use Rattle.gb_base.specs.declared.keys.Key.TheVariants.{Right}
use Rattle.gb_base.proofs.Members.{In, find_complete, find_sound, of_map}
use Rattle.gb_base.proofs.SameRights.{right_is, right_self}
use Rattle.act_model.specs.Receiving.{IsJournal}
use Rattle.act_model.specs.declared.receipts.Receipt.{Receipt}
use Rattle.kept_registers.specs.Kept.{Kept}
use Rattle.folio_sections.specs.Rights.{created}
use Rattle.folio_sections.specs.declared.entries.Created.{Created}
use Rattle.folio_sections.specs.declared.entries.Entry.{Entry}
use Rattle.folio_sections.proofs.FilteredLists.{in_all, in_filter, of_filter}
use Rattle.rank_slots.specs.Filled.{Filled}
use Rattle.rank_slots.specs.Groups.{is_of, keeps_place}
use Rattle.rank_slots.specs.Payments.{claim_of, pay}
use Rattle.rank_slots.specs.declared.places.Place.{Place}
use Rattle.folio_line.specs.FolioRights.{is_live_with}
use Rattle.folio_line.specs.FolioSlots.{capital_at, is_gone}
use Rattle.folio_line.specs.declared.folio_rights.CreatedRight.{CreatedRight}
use Rattle.folio_line.proofs.FolioFills.{is_amount}
use Rattle.folio_line.proofs.LineFills.{filling_is, its_places}
use Rattle.folio_line.proofs.PlacedOrder.{of_placed_rights, the_right}
use Rattle.folio_line.proofs.PlacesBehind.{all_places}
use Rattle.auction_classes.specs.Claims.{class_of_right, interest_of, right_found, rights_found, rights_of_class}
use Rattle.auction_classes.specs.ClassLines.{claim_in_class, exchanges_of_class, exercises_of_class, line_of_class, stands_in_class}
use Rattle.auction_classes.specs.LowestBid.{is_paid_enough, reaches_group, reaches_knot, remaining, remaining_by_pay, remaining_of}
use Rattle.auction_classes.specs.SaleClaims.{claimed_in, of_class_four, right_claimed}
use Rattle.auction_classes.specs.Sales.{Sale, read, sale_at}
use Rattle.auction_classes.specs.declared.claim_items.RightClaimed.{RightClaimed}
use Rattle.auction_classes.specs.declared.rights_found.RightFound.{RightFound}
use Rattle.auction_classes.proofs.ClassFills.{class_can_fill, read_in_order, rights_in_class}
use Rattle.auction_classes.proofs.PaysWithin.{pays_within}
use Rattle.auction_classes.proofs.RightsOnLine.{rights_on_line}

-- ---- the claim of a right on the line of its class

-- places that claim what their rights claim
claim_at_place : (claims : RightNo → ℕ) (places : List Place) (id : RightNo) → AllByRecursion (λ p. p.claim ≡ claims p.right) places → claim_of places id ≤ claims id
claim_at_place claims [] id each = omega arith
claim_at_place claims (p ∷ ps) id each =
    elim (same_right p.right id) as (λ b. same_right p.right id ≡ b → option_map_or (λ (q : Place). q.claim) (cond b (Some p) (find (is_of id) ps)) 0 ≤ claims id) [
      | true ↦ λ own. let here : p.claim ≡ claims id = each.0 ∙ ap claims (right_is p.right id own) in omega (arith, here)
      | false ↦ λ _. claim_at_place claims ps id each.1
    ] refl

claim_on_line : (s : Sale) (class : ℕ) (id : RightNo) → claim_of (line_of_class s class).places id ≤ claim_in_class s class id
claim_on_line s class id =
    let claims = claim_in_class s class in
    let holds = stands_in_class s class in
    subst (λ (f : Filled). claim_of f.places id ≤ claims id) (filling_is claims (read s) s.folio holds (exchanges_of_class s class) (exercises_of_class s class))
    (claim_at_place claims (its_places claims holds (read s) s.folio) id
    (all_places (λ (p : Place). p.claim ≡ claims p.right) claims (is_gone (read s) s.folio) None (rights_in_class s class) (λ b x there. refl)))

-- ---- a right of class 4

-- the right of class 4 is one of the folio's live rights, with its interest
record IsOfFour (s : Sale) (x : RightClaimed) : Type 0 where
  right : CreatedRight
  there : In right (rights_of_class s 4)
  is : right_claimed (right_found s right) ≡ x

-- whether a right of the folio is of class 4
abbrev is_four : Sale → CreatedRight → Bool
is_four s x = class_of_right s x.id == 4

abbrev is_found_four : RightFound → Bool
is_found_four x = x.class == 4

of_four : (s : Sale) (x : RightClaimed) → In x (of_class_four (map (right_found s) (rights_found s))) → IsOfFour s x
of_four s x there =
    let found = map (right_found s) (rights_found s) in
    let claimed = of_map right_claimed (filter is_found_four found) x there in
    let four = of_filter is_found_four found claimed.0 claimed.1 in
    let own = of_map (right_found s) (rights_found s) claimed.0 four.0 in
    let class : is_four s own.0 ≡ true = subst (λ (y : RightFound). is_found_four y ≡ true) (sym own.2) four.1 in
    record { right = own.0; there = in_filter (is_four s) (rights_found s) own.0 own.1 class; is = ap right_claimed own.2 ∙ claimed.2 }

-- live rights of one number are one
one_right : (s : Sale) (x y : CreatedRight) → In x (rights_of_class s 4) → In y (rights_of_class s 4) → x.id ≡ y.id → x ≡ y
one_right s x y first second same =
    let made = (of_placed_rights is_live_with (read s) s.folio x (of_filter (is_four s) (rights_found s) x first).0).made in
    let also = (of_placed_rights is_live_with (read s) s.folio y (of_filter (is_four s) (rights_found s) y second).0).made in
    let one : Some x.made ≡ Some y.made = sym made ∙ ap (λ id. created (read s (Right s.folio id))) same ∙ also in
    λ i. the_right (same i) (option_map_or (λ (c : Created). c) (one i) x.made)

-- the claim of a live right of class 4 is its interest and its capital
pub four_claims : (s : Sale) (x : CreatedRight) → In x (rights_of_class s 4) → claim_in_class s 4 x.id ≡ interest_of s x + capital_at (read s) s.folio x.id
four_claims s x there =
    let found = find_complete (λ (y : CreatedRight). same_right y.id x.id) (rights_of_class s 4) x there (right_self x.id) in
    let same : found.item ≡ x = one_right s found.item x found.there there (right_is found.item.id x.id found.passes) in
    ap (λ o. option_map_or (interest_of s) o 0 + capital_at (read s) s.folio x.id) found.is ∙ ap (λ y. interest_of s y + capital_at (read s) s.folio x.id) same

-- ---- what remains

-- what is left of a right without its interest is at most so much
left_at_most : (most cover got : ℕ) (line : Filled) (x : RightClaimed) → got ≤ x.interest + most → remaining_by_pay line cover x got ≤ most
left_at_most most cover got line x within =
    elim (is_paid_enough line x got && (reaches_group line x.right cover && reaches_knot line x.right cover)) as (λ b. cond b (got - x.interest) 0 ≤ most) [
      | true ↦ omega (arith, within)
      | false ↦ omega arith
    ]

four_within : (journal : List Receipt) (at : Key → List Entry) (folio a cover : ℕ) (x : RightClaimed) → Kept journal at → IsJournal journal → In x (claimed_in (sale_at journal at folio a)).rights
    → remaining_of (claimed_in (sale_at journal at folio a)).line_four cover x ≤ most_cents
four_within journal at folio a cover x kept stands there =
    let s = sale_at journal at folio a in
    let line = line_of_class s 4 in
    let four = of_four s x there in
    let id = four.right.id in
    let made = (of_placed_rights is_live_with (read s) folio four.right (of_filter (is_four s) (rights_found s) four.right four.there).0).made in
    let amount = (is_amount journal (read s) folio four.right (read_in_order journal at folio a kept) stands made).1 in
    let on_line = in_all (λ (y : RightClaimed). keeps_place line.places y.right ≡ true) (claimed_in s).rights x
    (recursion_from_All (λ (y : RightClaimed). keeps_place line.places y.right ≡ true) (claimed_in s).rights (rights_on_line journal at folio a kept stands)) there in
    let claims = four_claims s four.right four.there in
    let claim = claim_on_line s 4 id in
    let own : claim_of line.places x.right ≤ x.interest + most_cents =
    subst (λ (y : RightClaimed). claim_of line.places y.right ≤ y.interest + most_cents) four.is (omega (arith, claims, claim, amount)) in
    let pays = pays_within line x.right cover (class_can_fill journal at folio a 4 kept stands) on_line in
    left_at_most most_cents cover (pay line x.right cover) line x (omega (arith, own, pays))

pub remains_within : (journal : List Receipt) (at : Key → List Entry) (folio a cover : ℕ) (right : RightNo) → Kept journal at → IsJournal journal → remaining (claimed_in (sale_at journal at folio a)) cover right ≤ most_cents
remains_within journal at folio a cover right kept stands =
    let c = claimed_in (sale_at journal at folio a) in
    let is_it : RightClaimed → Bool = λ x. same_right x.right right in
    elim (find is_it c.rights) as (λ o. find is_it c.rights ≡ o → option_map_or (remaining_of c.line_four cover) o 0 ≤ most_cents) [
      | None ↦ λ _. omega arith
      | Some x ↦ λ is. four_within journal at folio a cover x kept stands (find_sound is_it c.rights x is).0
    ] refl
