-- The line of a class of a sale in a kept register is one that slots can be filled with.
use Rattle.std.proofs.Common.{◌≡◌, ℕ, ◌+◌, ◌≤◌, Bool, true, ◌==◌, ◌&&◌, ◌||◌, List, Some, None, find, length, refl, sym, subst, arith}
use Rattle.std.specs.Option.{option_map_or}
use Rattle.std.proofs.lemmas.Bool.{and_from, and_parts, or_left, or_right}
use Rattle.std.proofs.lemmas.List.Elements.{All-from_recursion}
use Rattle.std.proofs.lemmas.List.Sums.{sum_by-le}
use Rattle.gb_base.specs.Limits.{most_cents}
use Rattle.gb_base.specs.RightNo.{RightNo, same_right}
use Rattle.gb_base.specs.declared.keys.Key.{Key}
use Rattle.gb_base.specs.declared.keys.Key.TheVariants.{Right}
use Rattle.gb_base.proofs.Members.{In, find_sound}
use Rattle.gb_base.proofs.SameRights.{right_is, right_self}
use Rattle.act_model.specs.Receiving.{IsJournal}
use Rattle.act_model.specs.declared.receipts.Receipt.{Receipt}
use Rattle.kept_registers.specs.Kept.{Kept}
use Rattle.folio_sections.specs.Fronts.{below}
use Rattle.folio_sections.specs.Rights.{is_live}
use Rattle.folio_sections.specs.declared.entries.Entry.{Entry}
use Rattle.folio_sections.proofs.DistinctLists.{distinct_filter}
use Rattle.folio_sections.proofs.FilteredLists.{any_in, of_filter}
use Rattle.rank_slots.specs.CanFill.{CanFill}
use Rattle.rank_slots.specs.Limits.{most_places}
use Rattle.rank_slots.specs.declared.places.Knot.{Knot}
use Rattle.rank_slots.specs.declared.places.Place.{Place}
use Rattle.folio_line.specs.Exchanges.{counted_exchanges, counted_exercises}
use Rattle.folio_line.specs.FolioRights.{rights_where}
use Rattle.folio_line.specs.FolioSlots.{capital_at, is_gone, recedes, stands_on_line}
use Rattle.folio_line.specs.declared.exchanges.Exchange.{Exchange}
use Rattle.folio_line.specs.declared.folio_rights.CreatedRight.{CreatedRight}
use Rattle.folio_line.proofs.CountedExchanges.{is_counted}
use Rattle.folio_line.proofs.CountedExercises.{exercises_distinct, is_tied, share_a_right}
use Rattle.folio_line.proofs.FolioFills.{IsAmount, gone_recedes, is_amount}
use Rattle.folio_line.proofs.LineFills.{IsLine, few_places, filling_is, its_places, line_can_fill}
use Rattle.folio_line.proofs.PlacedOrder.{of_placed_rights}
use Rattle.folio_line.proofs.PlacesBehind.{all_places}
use Rattle.folio_line.proofs.RightsInOrder.{RightsInOrder, below_in_order, kept_in_order}
use Rattle.auction_classes.specs.Claims.{class_of_right, interest_of, rights_found, rights_of_class}
use Rattle.auction_classes.specs.ClassLines.{claim_in_class, exchanges_of_class, exercises_of_class, line_of_class, stands_in_class}
use Rattle.auction_classes.specs.Sales.{Sale, read, read_before, sale_at}
use Rattle.auction_classes.proofs.BoundedInterest.{interest_at_most}

-- ---- the folio as a sale reads it

pub read_in_order : (journal : List Receipt) (at : Key → List Entry) (folio a : ℕ) → Kept journal at → RightsInOrder journal (read (sale_at journal at folio a))
read_in_order journal at folio a kept =
    below_in_order journal (λ k. below a (at k)) (read_before (sale_at journal at folio a)) (below_in_order journal at a (kept_in_order journal at kept))

-- the rights that stand on the line of a class
abbrev pub rights_in_class : Sale → ℕ → List CreatedRight
rights_in_class s class = rights_where (stands_in_class s class) (read s) s.folio

-- a right of the class stands on its line where it is live or recedes there
in_class : (s : Sale) (class : ℕ) (id : RightNo) (entries : List Entry) → (class_of_right s id == class) ≡ true → (is_live entries || recedes (exchanges_of_class s class) id) ≡ true → stands_in_class s class id entries ≡ true
in_class s class id entries own stands = and_from (class_of_right s id == class) (stands_on_line (exchanges_of_class s class) id entries) own stands

-- both rights of the exchange are of the class
abbrev are_exchanged_in : Sale → ℕ → Exchange → Bool
are_exchanged_in s class x = class_of_right s x.recede == class && class_of_right s x.rise == class

abbrev are_tied_in : Sale → ℕ → Knot → Bool
are_tied_in s class k = class_of_right s k.reserved == class && class_of_right s k.exercised == class

-- an exchange of the class counts, and its rights are of the class
record IsExchangedIn (s : Sale) (class : ℕ) (y : Exchange) : Type 0 where
  counted : In y (counted_exchanges (read s) s.folio)
  recede : (class_of_right s y.recede == class) ≡ true
  rise : (class_of_right s y.rise == class) ≡ true

exchanged_in : (s : Sale) (class : ℕ) (y : Exchange) → In y (exchanges_of_class s class) → IsExchangedIn s class y
exchanged_in s class y there =
    let from = of_filter (are_exchanged_in s class) (counted_exchanges (read s) s.folio) y there in
    let parts = and_parts (class_of_right s y.recede == class) (class_of_right s y.rise == class) from.1 in
    record { counted = from.0; recede = parts.0; rise = parts.1 }

-- an exercise of the class counts, and its rights are of the class
record IsTiedIn (s : Sale) (class : ℕ) (k : Knot) : Type 0 where
  counted : In k (counted_exercises (read s) s.folio)
  reserved : (class_of_right s k.reserved == class) ≡ true
  exercised : (class_of_right s k.exercised == class) ≡ true

tied_in : (s : Sale) (class : ℕ) (k : Knot) → In k (exercises_of_class s class) → IsTiedIn s class k
tied_in s class k there =
    let from = of_filter (are_tied_in s class) (counted_exercises (read s) s.folio) k there in
    let parts = and_parts (class_of_right s k.reserved == class) (class_of_right s k.exercised == class) from.1 in
    record { counted = from.0; reserved = parts.0; exercised = parts.1 }

-- so the exchanges and exercises of a class make a line
class_line_is : (journal : List Receipt) (s : Sale) (class : ℕ) → RightsInOrder journal (read s) → IsLine (read s) s.folio (stands_in_class s class) (exchanges_of_class s class) (exercises_of_class s class)
class_line_is journal s class order =
    let at = read s in
    let folio = s.folio in
    let exchanges = exchanges_of_class s class in
    record {
      counted = λ y there. (exchanged_in s class y there).counted;
      recede = λ y there. in_class s class y.recede (at (Right folio y.recede)) (exchanged_in s class y there).recede
          (or_right (is_live (at (Right folio y.recede))) (recedes exchanges y.recede) (any_in (λ (x : Exchange). same_right x.recede y.recede) exchanges y there (right_self y.recede)));
      rise = λ y there. in_class s class y.rise (at (Right folio y.rise)) (exchanged_in s class y there).rise
          (or_left (is_live (at (Right folio y.rise))) (recedes exchanges y.rise) (is_counted journal at folio y order (exchanged_in s class y there).counted).live);
      gone = λ x there gone. gone_recedes (is_live (at (Right folio x.id))) (recedes exchanges x.id)
          (and_parts (class_of_right s x.id == class) (stands_on_line exchanges x.id (at (Right folio x.id))) (of_placed_rights (stands_in_class s class) at folio x there).stands).1 gone;
      exercised = λ k there. (tied_in s class k there).counted;
      reserved = λ k there. in_class s class k.reserved (at (Right folio k.reserved)) (tied_in s class k there).reserved
          (or_left (is_live (at (Right folio k.reserved))) (recedes exchanges k.reserved) (is_tied journal at folio k order (tied_in s class k there).counted).reserved_live);
      entered = λ k there. in_class s class k.exercised (at (Right folio k.exercised)) (tied_in s class k there).exercised
          (or_left (is_live (at (Right folio k.exercised))) (recedes exchanges k.exercised) (is_tied journal at folio k order (tied_in s class k there).counted).exercised_live);
      once = distinct_filter share_a_right (are_tied_in s class) (counted_exercises at folio) (exercises_distinct journal at folio order);
    }

-- ---- what is claimed on it

claim_at_most : (journal : List Receipt) (at : Key → List Entry) (folio a class : ℕ) (id : RightNo) → Kept journal at → IsJournal journal → capital_at (read (sale_at journal at folio a)) folio id ≤ most_cents
    → claim_in_class (sale_at journal at folio a) class id ≤ 700000000000000
claim_at_most journal at folio a class id kept stands amount =
    let s = sale_at journal at folio a in
    let is_it : CreatedRight → Bool = λ x. same_right x.id id in
    let capital = capital_at (read s) folio id in
    elim (find is_it (rights_of_class s class)) as (λ o. find is_it (rights_of_class s class) ≡ o → option_map_or (interest_of s) o 0 + capital ≤ 700000000000000) [
      | None ↦ λ _. omega (arith, amount)
      | Some x ↦ λ is.
          let has = find_sound is_it (rights_of_class s class) x is in
          let live = (of_filter (λ y. class_of_right s y.id == class) (rights_found s) x has.0).0 in
          let own : capital_at (read s) folio x.id ≤ most_cents = subst (λ k. capital_at (read s) folio k ≤ most_cents) (sym (right_is x.id id has.1)) amount in
          let interest = interest_at_most journal at folio a x kept stands live own in
          omega (arith, amount, interest)
    ] refl

pub class_can_fill : (journal : List Receipt) (at : Key → List Entry) (folio a class : ℕ) → Kept journal at → IsJournal journal → CanFill (line_of_class (sale_at journal at folio a) class)
class_can_fill journal at folio a class kept stands =
    let s = sale_at journal at folio a in
    let order = read_in_order journal at folio a kept in
    let claims = claim_in_class s class in
    let holds = stands_in_class s class in
    let exchanges = exchanges_of_class s class in
    let knots = exercises_of_class s class in
    let places = its_places claims holds (read s) folio in
    let amount : (x : CreatedRight) → In x (rights_in_class s class) → IsAmount (capital_at (read s) folio x.id) = λ x there.
    is_amount journal (read s) folio x order stands (of_placed_rights holds (read s) folio x there).made in
    let few : length places ≤ most_places = few_places claims journal (read s) folio holds order stands in
    let each = all_places (λ (p : Place). p.claim ≤ 700000000000000) claims (is_gone (read s) folio) None (rights_in_class s class)
    (λ b x there. claim_at_most journal at folio a class x.id kept stands (amount x there).1) in
    let sum = sum_by-le (λ (p : Place). p.claim) 700000000000000 places (All-from_recursion (λ (p : Place). p.claim ≤ 700000000000000) places each) in
    let some : (x : CreatedRight) → In x (rights_in_class s class) → 1 ≤ claims x.id = λ x there. (let capital = (amount x there).0 in omega (arith, capital)) in
    subst CanFill (filling_is claims (read s) folio holds exchanges knots)
    (line_can_fill claims journal (read s) folio holds exchanges knots (record { order = order; journal_is = stands; line = class_line_is journal s class order }) some (omega (arith, few, sum)))
