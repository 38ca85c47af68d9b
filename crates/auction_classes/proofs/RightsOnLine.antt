-- The rights of class 4, and those from which a served seizure is, stand on the line of class 4.
use Rattle.std.proofs.Common.{◌≡◌, ℕ, ◌<◌, Bool, true, cond, not, ◌==◌, nat_lt, nat_le, eqb, List, [], ◌∷◌, All, filter, map, slice_get, IfSome, IsTrue, Option, Some, None, is_some, option_and_then, refl, sym, ap, subst, ◌∙◌, ◌+◌, arith}
use Rattle.std.specs.List.{AllByRecursion}
use Rattle.std.specs.Option.{option_map_or}
use Rattle.std.proofs.lemmas.Bool.{and_from, and_parts, false≢true, or_left}
use Rattle.std.proofs.lemmas.Bool.Decides.{nat_tests}
use Rattle.std.proofs.lemmas.List.Elements.{All-from_recursion, recursion_from_All}
use Rattle.gb_base.specs.RightNo.{RightNo}
use Rattle.gb_base.specs.declared.keys.Key.{Key}
use Rattle.gb_base.specs.declared.keys.Key.TheVariants.{Case}
use Rattle.gb_base.proofs.Members.{In, of_map}
use Rattle.act_model.specs.Receiving.{IsJournal, item_at}
use Rattle.act_model.specs.declared.items.Item.{Item}
use Rattle.act_model.specs.declared.items.Item.TheVariants as item
use Rattle.act_model.specs.declared.receipts.Receipt.{Receipt}
use Rattle.act_model.specs.declared.sales.Basis.{Basis}
use Rattle.act_model.specs.declared.sales.Basis.TheVariants as basis
use Rattle.kept_registers.specs.Kept.{Kept}
use Rattle.kept_registers.specs.KeptCases.{SeizesFromOlder, seized_right}
use Rattle.folio_sections.specs.Cases.{case_below, is_seizure}
use Rattle.folio_sections.specs.Rights.{created, is_full, is_live}
use Rattle.folio_sections.specs.declared.entries.Entry.{Entry}
use Rattle.folio_sections.proofs.FilteredLists.{all_in, in_all, of_filter, of_filter_map}
use Rattle.rank_slots.specs.Groups.{keeps_place}
use Rattle.folio_line.specs.FolioRights.{is_live_with}
use Rattle.folio_line.specs.FolioSlots.{recedes, stands_on_line}
use Rattle.folio_line.proofs.CountedExchanges.{live_is_created}
use Rattle.folio_line.proofs.LineFills.{placed, stands_on_it}
use Rattle.folio_line.proofs.PlacedOrder.{of_placed_rights, the_right}
use Rattle.auction_classes.specs.Claims.{at_right, class_of_right, right_found, rights_found}
use Rattle.auction_classes.specs.ClassLines.{claim_in_class, exchanges_of_class, exercises_of_class, line_of_class, stands_in_class}
use Rattle.auction_classes.specs.SaleClaims.{is_basis_standing, of_class_four, right_claimed, seized_for}
use Rattle.auction_classes.specs.Sales.{number_seized, read, sale_at, sale_day, seizure_by, seizures_found}
use Rattle.auction_classes.specs.declared.case_items.Seizure.{Seizure}
use Rattle.auction_classes.specs.declared.claim_items.RightClaimed.{RightClaimed}
use Rattle.auction_classes.specs.declared.claim_items.SeizedFor.{SeizedFor}
use Rattle.auction_classes.specs.declared.rights_found.RightFound.{RightFound}
use Rattle.auction_classes.specs.Computable.{AreOnLine, CanCover, CanCoverServed}
use Rattle.auction_classes.proofs.ClassFills.{read_in_order}

-- ---- a live right stands on the line of its class

pub live_on_line : (journal : List Receipt) (at : Key → List Entry) (folio a class : ℕ) (right : RightNo) → Kept journal at → IsJournal journal
    → (class_of_right (sale_at journal at folio a) right == class) ≡ true → is_live (at_right (sale_at journal at folio a) right) ≡ true → keeps_place (line_of_class (sale_at journal at folio a) class).places right ≡ true
live_on_line journal at folio a class right kept stands own live =
    let s = sale_at journal at folio a in
    let entries = at_right s right in
    let passes = and_from (class_of_right s right == class) (stands_on_line (exchanges_of_class s class) right entries) own (or_left (is_live entries) (recedes (exchanges_of_class s class) right) live) in
    elim (created entries) as (λ o. created entries ≡ o → is_some o ≡ true → keeps_place (line_of_class s class).places right ≡ true) [
      | None ↦ λ _ none. absurd (false≢true none)
      | Some made ↦ λ is _.
          stands_on_it (claim_in_class s class) (read s) folio (stands_in_class s class) (exchanges_of_class s class) (exercises_of_class s class) (the_right right made)
          (placed journal (read s) folio (stands_in_class s class) right made (read_in_order journal at folio a kept) stands is passes) (ap not live)
    ] refl (live_is_created entries live)

-- ---- the rights of class 4

pub rights_on_line : (journal : List Receipt) (at : Key → List Entry) (folio a : ℕ) → Kept journal at → IsJournal journal
    → AreOnLine (line_of_class (sale_at journal at folio a) 4) (of_class_four (map (right_found (sale_at journal at folio a)) (rights_found (sale_at journal at folio a))))
rights_on_line journal at folio a kept stands =
    let s = sale_at journal at folio a in
    let P : RightClaimed → Type 0 = λ x. keeps_place (line_of_class s 4).places x.right ≡ true in
    let found = map (right_found s) (rights_found s) in
    let is_four : RightFound → Bool = λ x. x.class == 4 in
    let each : (z : RightClaimed) → In z (map right_claimed (filter is_four found)) → P z = λ z there.
    let claimed = of_map right_claimed (filter is_four found) z there in
    let four = of_filter is_four found claimed.0 claimed.1 in
    let own = of_map (right_found s) (rights_found s) claimed.0 four.0 in
    let live = (of_placed_rights is_live_with (read s) folio own.0 own.1).stands in
    let class : (class_of_right s own.0.id == 4) ≡ true = subst (λ (x : RightFound). is_four x ≡ true) (sym own.2) four.1 in
    subst P claimed.2 (subst (λ (x : RightFound). P (right_claimed x)) own.2 (live_on_line journal at folio a 4 own.0.id kept stands class live)) in
    All-from_recursion P (map right_claimed (filter is_four found)) (all_in P (map right_claimed (filter is_four found)) each)

-- ---- the rights from which is seized

-- the right from which is seized is older than receipt n
abbrev IsOlder : ℕ → Basis → Type 0
IsOlder n (basis.Personal creditor claim) = Unit {0}
IsOlder n (basis.FromRight right) = right.receipt < n

older_basis : (n : ℕ) (i : Item) → IfSome (seized_right i) (λ right. right.receipt < n) → IfSome (seizure_by i) (λ z. IsOlder n z.basis)
older_basis n (item.Seize folio (basis.FromRight right) served) older = older
older_basis n (item.Seize folio (basis.Personal creditor claim) served) older = tt
older_basis n other older = tt

older_item : (n : ℕ) (o : Option Item) → IfSome (option_and_then seized_right o) (λ right. right.receipt < n) → IfSome (option_and_then seizure_by o) (λ z. IsOlder n z.basis)
older_item n None older = tt
older_item n (Some i) older = older_basis n i older

-- the number of the first of these entries that seizes
abbrev first_number : List Entry → ℕ
first_number es = option_map_or (λ n. n) (slice_get (map (λ (e : Entry). e.receipt) (filter (λ e. is_seizure e.what) es)) 0) 0

-- each of these entries seizes from a right that is older than the first of them
older_than_first : (journal : List Receipt) (es : List Entry) → IfSome (slice_get es 0) (λ e. IsTrue (is_seizure e.what)) → IfSome (slice_get es 0) (λ first. All (SeizesFromOlder journal first.receipt) es)
    → AllByRecursion (SeizesFromOlder journal (first_number es)) es
older_than_first journal [] begins older = tt
older_than_first journal (e ∷ es) begins older =
    let rest = filter (λ (d : Entry). is_seizure d.what) es in
    let number : e.receipt ≡ first_number (e ∷ es) = sym (ap (λ b. option_map_or (λ n. n) (slice_get (map (λ (d : Entry). d.receipt) (cond b (e ∷ rest) rest)) 0) 0) begins) in
    subst (λ n. AllByRecursion (SeizesFromOlder journal n) (e ∷ es)) number (recursion_from_All (SeizesFromOlder journal e.receipt) (e ∷ es) older)

-- each seizure is from a right that is older than the first of them
seized_older : (journal : List Receipt) (at : Key → List Entry) (folio a : ℕ) (z : Seizure) → Kept journal at → In z (seizures_found (sale_at journal at folio a)) → IsOlder (number_seized (sale_at journal at folio a)) z.basis
seized_older journal at folio a z kept there =
    let s = sale_at journal at folio a in
    let entries = case_below a (at (Case folio)) in
    let seizes : ℕ → Option Seizure = λ n. option_and_then seizure_by (item_at journal n) in
    let from = of_filter_map seizes (map (λ (e : Entry). e.receipt) (filter (λ (e : Entry). is_seizure e.what) entries)) z there in
    let own = of_map (λ (e : Entry). e.receipt) (filter (λ (e : Entry). is_seizure e.what) entries) from.0 from.1 in
    let entry = of_filter (λ (e : Entry). is_seizure e.what) entries own.0 own.1 in
    let all = older_than_first journal entries (kept.case_in_order.begins folio a) (kept.case_in_order.older folio a) in
    let older = in_all (SeizesFromOlder journal (number_seized s)) entries own.0 all entry.0 entry.1 in
    let here : seizes own.0.receipt ≡ Some z = ap seizes own.2 ∙ from.2 in
    subst (λ o. IfSome o (λ (y : Seizure). IsOlder (number_seized s) y.basis)) here (older_item (number_seized s) (item_at journal own.0.receipt) older)

-- so where a seizure is served its right stands on the line
can_cover : (journal : List Receipt) (at : Key → List Entry) (folio a : ℕ) (b : Basis) → Kept journal at → IsJournal journal → IsOlder (number_seized (sale_at journal at folio a)) b
    → is_basis_standing (at_right (sale_at journal at folio a)) b ≡ true → CanCover (line_of_class (sale_at journal at folio a) 4) b
can_cover journal at folio a (basis.Personal creditor claim) kept stands older standing = tt
can_cover journal at folio a (basis.FromRight right) kept stands older standing =
    let s = sale_at journal at folio a in
    let earlier : nat_lt right.receipt (number_seized s) ≡ true = grind (arith, nat_tests, older) in
    live_on_line journal at folio a 4 right kept stands (ap (λ b. eqb (cond b 4 6) 4) earlier) (and_parts (is_live (at_right s right)) (is_full (at_right s right)) standing).0

pub served_on_line : (journal : List Receipt) (at : Key → List Entry) (folio a : ℕ) → Kept journal at → IsJournal journal
    → CanCoverServed (line_of_class (sale_at journal at folio a) 4) (map (seized_for (sale_at journal at folio a)) (seizures_found (sale_at journal at folio a)))
served_on_line journal at folio a kept stands =
    let s = sale_at journal at folio a in
    let P : SeizedFor → Type 0 = λ y. y.served ≡ true → CanCover (line_of_class s 4) y.basis in
    let one : (z : Seizure) → In z (seizures_found s) → P (seized_for s z) = λ z there served.
    can_cover journal at folio a z.basis kept stands (seized_older journal at folio a z kept there) (and_parts (nat_le (z.served + 28) (sale_day s)) (is_basis_standing (at_right s) z.basis) served).1 in
    let each : (y : SeizedFor) → In y (map (seized_for s) (seizures_found s)) → P y = λ y there.
    let from = of_map (seized_for s) (seizures_found s) y there in
    subst P from.2 (one from.0 from.1) in
    All-from_recursion P (map (seized_for s) (seizures_found s)) (all_in P (map (seized_for s) (seizures_found s)) each)
