-- The line of a class, as it is written from what is read, is that of the sale.
use Rattle.std.proofs.Common.{◌≡◌, ℕ, Bool, true, false, cond, ◌==◌, ◌&&◌, ◌||◌, List, [], ◌∷◌, filter, map, None, refl, sym, ap, ◌∙◌}
use Rattle.std.specs.List.{AllByRecursion}
use Rattle.std.proofs.lemmas.Bool.{and_parts}
use Rattle.gb_base.specs.RightNo.{RightNo, same_right}
use Rattle.gb_base.specs.declared.keys.Key.{Key}
use Rattle.gb_base.specs.declared.keys.Key.TheVariants.{Right}
use Rattle.folio_sections.specs.Rights.{is_live}
use Rattle.folio_sections.specs.declared.entries.Entry.{Entry}
use Rattle.folio_sections.proofs.FilteredLists.{all_in}
use Rattle.folio_line.specs.Exchanges.{counted_exchanges}
use Rattle.folio_line.specs.FolioLine.{IsLineOf, LineState}
use Rattle.folio_line.specs.FolioRights.{rights_where}
use Rattle.folio_line.specs.FolioSlots.{is_gone, recedes, stands_on_line, swap_of}
use Rattle.folio_line.specs.declared.exchanges.Exchange.{Exchange}
use Rattle.folio_line.specs.declared.folio_rights.CreatedRight.{CreatedRight}
use Rattle.folio_line.specs.inner.PlaceByPlace.{places_behind}
use Rattle.folio_line.proofs.GroupsWritten.{line_written}
use Rattle.folio_line.proofs.PlacedDistinct.{placed_distinct}
use Rattle.folio_line.proofs.PlacedOrder.{of_placed_rights}
use Rattle.auction_classes.specs.Claims.{class_of_right, right_found, rights_found}
use Rattle.auction_classes.specs.ClassLines.{claim_in_class, exchanges_of_class, line_of_class, stands_in_class}
use Rattle.auction_classes.specs.Sales.{Sale, number_seized, read}
use Rattle.auction_classes.specs.inner.LinesRead.{exercises_within, line_read, places_read, recedes_by, swaps_read}
use Rattle.auction_classes.specs.declared.right_classes.RightClass.{RightClass}
use Rattle.auction_classes.specs.declared.rights_found.RightFound.{RightFound}
use Rattle.auction_classes.proofs.ClaimsOnLine.{claims_so, live_are}
use Rattle.auction_classes.proofs.ExchangesAlike.{same_exchanges, same_exercises}
use Rattle.auction_classes.proofs.NarrowedRights.{holds_of, rights_narrowed}
use Rattle.auction_classes.proofs.PlacesRead.{ClaimsSo, places_are, same_places, stands_so}
use Rattle.auction_classes.proofs.ReadAlike.{ReadAlike, same_right_read, same_rights_where}

-- a class of the sale
abbrev pub class_in : Sale → ℕ → RightClass
class_in s class = record { seized = number_seized s; number = class }

-- ---- receding

recedes_same : (xs : List Exchange) (id : RightNo) → recedes_by (map swap_of xs) id ≡ recedes xs id
recedes_same [] id = refl
recedes_same (x ∷ xs) id = ap (λ b. same_right x.recede id || b) (recedes_same xs id)

-- a right that recedes in some of these exchanges recedes in these
recedes_more : (p : Exchange → Bool) (xs : List Exchange) (id : RightNo) → recedes (filter p xs) id ≡ true → recedes xs id ≡ true
recedes_more p [] id is = is
recedes_more p (x ∷ xs) id is =
    elim (same_right x.recede id) as (λ a. (b : Bool) → (cond b (a || recedes (filter p xs) id) (recedes (filter p xs) id)) ≡ true → (a || recedes xs id) ≡ true) [
      | true ↦ λ b _. refl
      | false ↦ λ b here. recedes_more p xs id (either b here)
    ] (p x) (push (p x) is)
  where
    either : (b : Bool) → cond b (false || recedes (filter p xs) id) (recedes (filter p xs) id) ≡ true → recedes (filter p xs) id ≡ true
    either true here = here
    either false here = here

    push : (b : Bool) → recedes (cond b (x ∷ filter p xs) (filter p xs)) id ≡ true → cond b (same_right x.recede id || recedes (filter p xs) id) (recedes (filter p xs) id) ≡ true
    push true here = here
    push false here = here

-- so a right of the class stands on the line of the folio
narrower : (s : Sale) (class : ℕ) (id : RightNo) (es : List Entry) → stands_in_class s class id es ≡ true → stands_on_line (counted_exchanges (read s) s.folio) id es ≡ true
narrower s class id es is =
    let parts = and_parts (class_of_right s id == class) (stands_on_line (exchanges_of_class s class) id es) is in
    widen (is_live es) parts.1
  where
    widen : (b : Bool) → (b || recedes (exchanges_of_class s class) id) ≡ true → (b || recedes (counted_exchanges (read s) s.folio) id) ≡ true
    widen true here = refl
    widen false here = recedes_more (λ x. class_of_right s x.recede == class && class_of_right s x.rise == class) (counted_exchanges (read s) s.folio) id here

-- ---- the places

-- the rights on the line of the folio
abbrev on_line : Sale → List CreatedRight
on_line s = rights_where (stands_on_line (counted_exchanges (read s) s.folio)) (read s) s.folio

stands_same : (s : Sale) (class : ℕ) → stands_so (class_in s class) (map swap_of (exchanges_of_class s class)) (read s) s.folio ≡ holds_of (stands_in_class s class) (read s) s.folio
stands_same s class = λ i x. class_of_right s x.id == class && (is_live (read s (Right s.folio x.id)) || recedes_same (exchanges_of_class s class) x.id i)

-- the places of a class are written as those of the sale
class_places : (s : Sale) (class : ℕ)
    → places_read (class_in s class) (map swap_of (exchanges_of_class s class)) (read s) s.folio None (map (right_found s) (rights_found s)) (on_line s) ≡ (line_of_class s class).places
class_places s class =
    let at = read s in
    let swaps = map swap_of (exchanges_of_class s class) in
    let claims = claim_in_class s class in
    let own = class_in s class in
    let each : AllByRecursion (λ x. stands_so own swaps at s.folio x ≡ true → ClaimsSo at s.folio claims (right_found s) x) (on_line s) =
    all_in (λ x. stands_so own swaps at s.folio x ≡ true → ClaimsSo at s.folio claims (right_found s) x) (on_line s)
    (λ x there stands. claims_so s class (counted_exchanges at s.folio) x there (and_parts (class_of_right s x.id == class) (is_live (at (Right s.folio x.id)) || recedes_by swaps x.id) stands).0) in
    ap (λ xs. places_read own swaps at s.folio None (map (right_found s) xs) (on_line s)) (live_are (counted_exchanges at s.folio) at s.folio)
    ∙ places_are own swaps at s.folio claims (right_found s) None (on_line s) (λ x. record { right = refl; has_capital = refl }) (placed_distinct (stands_on_line (counted_exchanges at s.folio)) at s.folio) each
    ∙ (λ i. places_behind claims (is_gone at s.folio) None (filter (stands_same s class i) (on_line s)))
    ∙ ap (places_behind claims (is_gone at s.folio) None) (sym (rights_narrowed (stands_in_class s class) (stands_on_line (counted_exchanges at s.folio)) at s.folio (narrower s class)))
    ∙ line_written claims (is_gone at s.folio) (stands_in_class s class) at s.folio

-- ---- the line

-- what is read at the rights on the line of the folio is what the sale reads
on_line_same : (s : Sale) (reads : Key → List Entry) → ReadAlike s.folio (read s) reads → (exchanges : List Exchange)
    → AllByRecursion (λ (x : CreatedRight). reads (Right s.folio x.id) ≡ read s (Right s.folio x.id)) (rights_where (stands_on_line exchanges) reads s.folio)
on_line_same s reads alike exchanges =
    all_in (λ (x : CreatedRight). reads (Right s.folio x.id) ≡ read s (Right s.folio x.id)) (rights_where (stands_on_line exchanges) reads s.folio)
    (λ x there. sym (same_right_read (read s (Right s.folio x.id)) (reads (Right s.folio x.id)) x.made (alike x.id) (of_placed_rights (stands_on_line exchanges) reads s.folio x there).made))

pub line_as_read : (s : Sale) (reads : Key → List Entry) (class : ℕ) (line : LineState) (found : List RightFound) → ReadAlike s.folio (read s) reads → IsLineOf reads s.folio line
    → found ≡ map (right_found s) (rights_found s) → line_read (class_in s class) reads s.folio found line ≡ line_of_class s class
line_as_read s reads class line found alike is all =
    let own = class_in s class in
    let exchanges : line.exchanges ≡ counted_exchanges (read s) s.folio = is.exchanges ∙ sym (same_exchanges (read s) reads s.folio alike) in
    let exercises = is.exercises ∙ sym (same_exercises (read s) reads s.folio alike) in
    let counted = sym (same_exchanges (read s) reads s.folio alike) in
    let rights : rights_where (stands_on_line (counted_exchanges reads s.folio)) reads s.folio ≡ on_line s =
    sym (same_rights_where (stands_on_line (counted_exchanges reads s.folio)) (read s) reads s.folio alike) ∙ ap (λ xs. rights_where (stands_on_line xs) (read s) s.folio) counted in
    let swaps = ap (swaps_read own) exchanges in
    let places =
    (λ i. places_read own (swaps i) reads s.folio None (all i) (is.rights i))
    ∙ same_places own (map swap_of (exchanges_of_class s class)) reads (read s) s.folio None (map (right_found s) (rights_found s)) (rights_where (stands_on_line (counted_exchanges reads s.folio)) reads s.folio)
    (on_line_same s reads alike (counted_exchanges reads s.folio))
    ∙ ap (places_read own (map swap_of (exchanges_of_class s class)) (read s) s.folio None (map (right_found s) (rights_found s))) rights
    ∙ class_places s class in
    λ i. record { places = places i; swaps = swaps i; knots = exercises_within own (exercises i) }
