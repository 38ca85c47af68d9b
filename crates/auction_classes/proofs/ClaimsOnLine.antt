-- What the rights on the line of a class claim: interest where they are live, and capital.
use Rattle.std.proofs.Common.{◌≡◌, ℕ, ◌+◌, Bool, true, false, cond, ◌==◌, List, filter, find, Some, None, refl, sym, ap, subst, ◌∙◌}
use Rattle.std.specs.Option.{option_map_or}
use Rattle.std.proofs.lemmas.Bool.{false≢true, or_left}
use Rattle.gb_base.specs.RightNo.{RightNo, same_right}
use Rattle.gb_base.specs.declared.keys.Key.{Key}
use Rattle.gb_base.specs.declared.keys.Key.TheVariants.{Right}
use Rattle.gb_base.proofs.Members.{In, find_complete, find_sound}
use Rattle.gb_base.proofs.SameRights.{right_is, right_self}
use Rattle.folio_sections.specs.Rights.{is_live}
use Rattle.folio_sections.specs.declared.entries.Entry.{Entry}
use Rattle.folio_sections.proofs.FilteredLists.{in_filter, of_filter}
use Rattle.folio_line.specs.FolioRights.{is_live_with, live_rights, rights_where}
use Rattle.folio_line.specs.FolioSlots.{capital_at, recedes, stands_on_line}
use Rattle.folio_line.specs.declared.exchanges.Exchange.{Exchange}
use Rattle.folio_line.specs.declared.folio_rights.CreatedRight.{CreatedRight}
use Rattle.folio_line.proofs.PlacedDistinct.{one_right}
use Rattle.folio_line.proofs.PlacedOrder.{of_placed_rights, the_right}
use Rattle.auction_classes.specs.Claims.{class_of_right, interest_of, right_found, rights_found, rights_of_class}
use Rattle.auction_classes.specs.ClassLines.{claim_in_class}
use Rattle.auction_classes.specs.Sales.{Sale, read}
use Rattle.auction_classes.proofs.NarrowedRights.{rights_narrowed}
use Rattle.auction_classes.proofs.PlacesRead.{ClaimsSo, lives}

-- the test of whether a right has this number
abbrev of_number : RightNo → CreatedRight → Bool
of_number id x = same_right x.id id

-- a live right stands on the line of any exchanges
stands_live : (exchanges : List Exchange) (id : RightNo) (es : List Entry) → is_live_with id es ≡ true → stands_on_line exchanges id es ≡ true
stands_live exchanges id es live = or_left (is_live es) (recedes exchanges id) live

-- the live rights are those on such a line that are live
pub live_are : (exchanges : List Exchange) (at : Key → List Entry) (folio : ℕ) → live_rights at folio ≡ filter (lives at folio) (rights_where (stands_on_line exchanges) at folio)
live_are exchanges at folio = rights_narrowed is_live_with (stands_on_line exchanges) at folio (stands_live exchanges)

-- a live right of the class is found by its number
found_live : (s : Sale) (class : ℕ) (x : CreatedRight) → In x (rights_found s) → (class_of_right s x.id == class) ≡ true → find (of_number x.id) (rights_of_class s class) ≡ Some x
found_live s class x there own =
    let all = rights_of_class s class in
    let found = find_complete (of_number x.id) all x (in_filter (λ (y : CreatedRight). class_of_right s y.id == class) (rights_found s) x there own) (right_self x.id) in
    let other = (of_filter (λ (y : CreatedRight). class_of_right s y.id == class) (rights_found s) found.item found.there).0 in
    let number = right_is found.item.id x.id found.passes in
    let made =
    one_right (read s) s.folio found.item x (of_placed_rights is_live_with (read s) s.folio found.item other).made (of_placed_rights is_live_with (read s) s.folio x there).made found.passes in
    found.is ∙ (λ i. Some (the_right (number i) (made i)))

-- a right that is gone is not found among those of the class
none_gone : (s : Sale) (class : ℕ) (id : RightNo) → is_live (read s (Right s.folio id)) ≡ false → find (of_number id) (rights_of_class s class) ≡ None
none_gone s class id gone =
    let all = rights_of_class s class in
    elim (find (of_number id) all) as (λ o. find (of_number id) all ≡ o → o ≡ None) [
      | None ↦ λ _. refl
      | Some y ↦ λ is.
          let sound = find_sound (of_number id) all y is in
          let there = (of_filter (λ (z : CreatedRight). class_of_right s z.id == class) (rights_found s) y sound.0).0 in
          let live = (of_placed_rights is_live_with (read s) s.folio y there).stands in
          absurd (false≢true (sym gone ∙ ap (λ k. is_live (read s (Right s.folio k))) (sym (right_is y.id id sound.1)) ∙ live))
    ] refl

-- what a right on the line of any exchanges claims, where it is of the class
pub claims_so : (s : Sale) (class : ℕ) (exchanges : List Exchange) (x : CreatedRight) → In x (rights_where (stands_on_line exchanges) (read s) s.folio) → (class_of_right s x.id == class) ≡ true
    → ClaimsSo (read s) s.folio (claim_in_class s class) (right_found s) x
claims_so s class exchanges x there own =
    let at = read s in
    elim (lives at s.folio x)
    as (λ b. lives at s.folio x ≡ b → cond b (interest_of s x) 0 + capital_at at s.folio x.id ≡ option_map_or (interest_of s) (find (of_number x.id) (rights_of_class s class)) 0 + capital_at at s.folio x.id) [
      | true ↦ λ live.
          let among = subst (In x) (sym (live_are exchanges at s.folio)) (in_filter (lives at s.folio) (rights_where (stands_on_line exchanges) at s.folio) x there live) in
          ap (λ o. option_map_or (interest_of s) o 0 + capital_at at s.folio x.id) (sym (found_live s class x among own))
      | false ↦ λ gone. ap (λ o. option_map_or (interest_of s) o 0 + capital_at at s.folio x.id) (sym (none_gone s class x.id gone))
    ] refl
