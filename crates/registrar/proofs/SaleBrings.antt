-- What an item of a forced sale brings: entries by it, at keys of the sale, with contents of a sale alone.
use Rattle.std.proofs.Common.{◌≡◌, ⊎_elim, ℕ, ◌≤◌, eqb, true, false, cond, List, [], ◌∷◌, Contains, Option, Some, None, map, refl, sym, ap, subst, ◌∙◌, arith}
use Rattle.std.specs.List.{AllByRecursion}
use Rattle.std.proofs.lemmas.Bool.Decides.{nat_tests}
use Rattle.std.specs.Option.{option_map_or}
use Rattle.gb_base.specs.Limits.{most_cents}
use Rattle.gb_base.specs.RightNo.{RightNo, same_right}
use Rattle.gb_base.specs.declared.keys.Key.{Key}
use Rattle.gb_base.specs.declared.keys.Key.TheVariants.{Case, Right, Title}
use Rattle.gb_base.proofs.Members.{In, of_flat_map}
use Rattle.gb_base.proofs.SameRights.{right_is}
use Rattle.act_model.specs.Receiving.{IsJournal, day_of}
use Rattle.act_model.specs.SaleKeys.{earlier_rights, keys_of_sale}
use Rattle.act_model.specs.declared.receipts.Receipt.{Receipt}
use Rattle.act_model.specs.declared.sales.Basis.{Basis}
use Rattle.act_model.specs.declared.sales.Registration.{Registration}
use Rattle.auction_classes.specs.LowestBid.{remaining}
use Rattle.auction_classes.specs.SaleClaims.{claimed_in}
use Rattle.auction_classes.specs.Sales.{sale_at}
use Rattle.auction_classes.specs.declared.lowest_bids.Lowest.{Lowest}
use Rattle.auction_classes.proofs.KeptSales.{below_twice}
use Rattle.auction_classes.proofs.EarlierRights.{filed_earlier}
use Rattle.auction_classes.proofs.PartsRead.{among_filed}
use Rattle.auction_classes.proofs.RemainsWithin.{remains_within}
use Rattle.folio_line.specs.AllRights.{is_among}
use Rattle.folio_line.specs.FolioRights.{is_live_with, live_by_act, rights_of}
use Rattle.folio_line.specs.declared.folio_rights.CreatedRight.{CreatedRight}
use Rattle.folio_line.proofs.PlacedOrder.{of_filing}
use Rattle.folio_sections.specs.Fronts.{below}
use Rattle.folio_sections.specs.HeldRights.{receipt_numbers}
use Rattle.folio_sections.specs.Rights.{created}
use Rattle.folio_sections.specs.declared.entries.Created.{Created}
use Rattle.folio_sections.specs.declared.entries.Entry.{Entry}
use Rattle.folio_sections.specs.declared.entries.What.{What}
use Rattle.folio_sections.specs.declared.entries.What.TheVariants as what
use Rattle.folio_sections.proofs.FilteredLists.{all_in, of_any}
use Rattle.kept_registers.specs.Kept.{Kept}
use Rattle.registrar.proofs.ContainedParts.{all_mapped, contains_first, contains_later}
use Rattle.sale_rules.specs.SaleEntries.{award_brought, award_entries, call_brought, distribution_brought, left_of, left_with, registration_brought, rights_left, seizure_brought, unless_refused}
use Rattle.sale_rules.specs.SaleGrounds.{lowest, refusal_of_award, refusal_of_call, refusal_of_distribution, refusal_of_registration, refusal_of_seizure}

-- ---- contents

-- a content of a forced sale, at its key
abbrev pub IsOfSale : What → Key → Type 0
IsOfSale what.Seized (Case folio) = Unit {0}
IsOfSale what.Registered (Case folio) = Unit {0}
IsOfSale (what.Bids costs) (Case folio) = Unit {0}
IsOfSale (what.Awarded buyer bid) (Case folio) = Unit {0}
IsOfSale (what.AwardOwner buyer) (Title folio) = Unit {0}
IsOfSale (what.Remains capital) (Right folio right) = (1 ≤ capital) × (capital ≤ most_cents)
IsOfSale what.Expired (Right folio right) = Unit {0}
IsOfSale what.Distributed (Case folio) = Unit {0}
IsOfSale other key = ⊥

-- an entry that item i brings at one of these keys
pub record IsOfItem (journal : List Receipt) (i : ℕ) (keys : List Key) (e : Entry) : Type 0 where
  pub by_item : e.receipt ≡ i
  pub on_day : e.day ≡ day_of journal i
  pub there : Contains keys e.key
  pub content : IsOfSale e.what e.key

-- ---- rights

-- a right that the sale reads as live was created before the item
live_created : (at : Key → List Entry) (folio : ℕ) (x : CreatedRight) → In x (live_by_act at folio) → created (at (Right folio x.id)) ≡ Some x.made
live_created at folio x there =
    let from = of_flat_map (rights_of is_live_with at folio) receipt_numbers x there in
    (of_filing is_live_with at folio from.0 x from.2).made

-- a right that is among some has its key among theirs
pub in_keys : (folio : ℕ) (ids : List RightNo) (id : RightNo) → In id ids → Contains (map (Right folio) ids) (Right folio id)
in_keys folio [] id there = absurd there
in_keys folio (x ∷ xs) id there =
    ⊎_elim (λ first. subst (λ r. Contains (Right folio x ∷ map (Right folio) xs) (Right folio r)) first (contains_first (Right folio x) (map (Right folio) xs)))
    (λ later. contains_later (Right folio x) (map (Right folio) xs) (Right folio id) (in_keys folio xs id later)) there

among_keys : (folio : ℕ) (ids : List RightNo) (id : RightNo) → is_among ids id ≡ true → Contains (map (Right folio) ids) (Right folio id)
among_keys folio ids id is =
    let found = of_any (same_right id) ids is in
    subst (λ r. Contains (map (Right folio) ids) (Right folio r)) (sym (right_is id found.0 found.2)) (in_keys folio ids found.0 found.1)

-- the keys of the sale but for the first: the title and the rights
abbrev pub title_and_rights : List Receipt → ℕ → ℕ → List Key
title_and_rights journal i folio = Title folio ∷ map (Right folio) (earlier_rights journal i folio)

-- A right that stood before a receipt, as item i finds it in a kept register, has its key among those of the sale.
pub created_is_key_before : (journal : List Receipt) (register : Key → List Entry) (folio n i : ℕ) (id : RightNo) (made : Created) → Kept journal register → IsJournal journal → n ≤ i
    → created (below n (below i (register (Right folio id)))) ≡ Some made → Contains (keys_of_sale journal i folio) (Right folio id)
created_is_key_before journal register folio n i id made kept stands within is =
    let among = filed_earlier journal folio n i within id (among_filed journal register folio n i id made kept stands within is) in
    contains_later (Case folio) (title_and_rights journal i folio) (Right folio id)
    (contains_later (Title folio) (map (Right folio) (earlier_rights journal i folio)) (Right folio id) (among_keys folio (earlier_rights journal i folio) id among))

pub created_is_key : (journal : List Receipt) (register : Key → List Entry) (folio i : ℕ) (id : RightNo) (made : Created) → Kept journal register → IsJournal journal
    → created (below i (register (Right folio id))) ≡ Some made → Contains (keys_of_sale journal i folio) (Right folio id)
created_is_key journal register folio i id made kept stands is =
    created_is_key_before journal register folio i i id made kept stands (omega arith) (ap created (below_twice i i (register (Right folio id)) (omega arith)) ∙ is)

-- ---- what each kind brings

-- what holds of each of these entries holds of what is brought, which is nothing where the item is refused
pub unless : {R : Type 0} (P : Entry → Type 0) (o : Option R) (es : List Entry) → AllByRecursion P es → AllByRecursion P (unless_refused o es)
unless P None es all = all
unless P (Some refusal) es all = tt

pub case_is_key : (journal : List Receipt) (i folio : ℕ) → Contains (keys_of_sale journal i folio) (Case folio)
case_is_key journal i folio = contains_first (Case folio) (title_and_rights journal i folio)

pub title_is_key : (journal : List Receipt) (i folio : ℕ) → Contains (keys_of_sale journal i folio) (Title folio)
title_is_key journal i folio = contains_later (Case folio) (title_and_rights journal i folio) (Title folio) (contains_first (Title folio) (map (Right folio) (earlier_rights journal i folio)))

pub seizure_is_of_item : (journal : List Receipt) (at : Key → List Entry) (folio i : ℕ) (b : Basis)
    → AllByRecursion (IsOfItem journal i (keys_of_sale journal i folio)) (seizure_brought (sale_at journal at folio i) b)
seizure_is_of_item journal at folio i b =
    unless (IsOfItem journal i (keys_of_sale journal i folio)) (refusal_of_seizure (sale_at journal at folio i) b) _
    (record { by_item = refl; on_day = refl; there = case_is_key journal i folio; content = tt }, tt)

pub registration_is_of_item : (journal : List Receipt) (at : Key → List Entry) (folio i : ℕ) (r : Registration)
    → AllByRecursion (IsOfItem journal i (Case folio ∷ [])) (registration_brought (sale_at journal at folio i) r)
registration_is_of_item journal at folio i r =
    unless (IsOfItem journal i (Case folio ∷ [])) (refusal_of_registration (sale_at journal at folio i) r) _
    (record { by_item = refl; on_day = refl; there = contains_first (Case folio) []; content = tt }, tt)

pub call_is_of_item : (journal : List Receipt) (at : Key → List Entry) (folio i costs : ℕ)
    → AllByRecursion (IsOfItem journal i (keys_of_sale journal i folio)) (call_brought (sale_at journal at folio i) costs)
call_is_of_item journal at folio i costs =
    unless (IsOfItem journal i (keys_of_sale journal i folio)) (refusal_of_call (sale_at journal at folio i)) _
    (record { by_item = refl; on_day = refl; there = case_is_key journal i folio; content = tt }, tt)

pub distribution_is_of_item : (journal : List Receipt) (at : Key → List Entry) (folio i : ℕ)
    → AllByRecursion (IsOfItem journal i (keys_of_sale journal i folio)) (distribution_brought (sale_at journal at folio i))
distribution_is_of_item journal at folio i =
    unless (IsOfItem journal i (keys_of_sale journal i folio)) (refusal_of_distribution (sale_at journal at folio i)) _
    (record { by_item = refl; on_day = refl; there = case_is_key journal i folio; content = tt }, tt)

-- what is left of a right is a content of a sale
left_is_of_sale : (folio : ℕ) (id : RightNo) (cents : ℕ) → cents ≤ most_cents → IsOfSale (left_with cents) (Right folio id)
left_is_of_sale folio id cents within =
    elim (eqb cents 0) as (λ b. eqb cents 0 ≡ b → IsOfSale (cond b what.Expired (what.Remains cents)) (Right folio id)) [
      | true ↦ λ _. tt
      | false ↦ λ some. (grind (arith, nat_tests, some), within)
    ] refl

rights_are_of_item : (journal : List Receipt) (at : Key → List Entry) (folio i : ℕ) (least : Lowest) → Kept journal at → IsJournal journal
    → AllByRecursion (IsOfItem journal i (keys_of_sale journal i folio)) (rights_left (sale_at journal at folio i) least)
rights_are_of_item journal at folio i least kept stands =
    let s = sale_at journal at folio i in
    let live = live_by_act s.at folio in
    all_mapped (IsOfItem journal i (keys_of_sale journal i folio)) (λ (x : CreatedRight). left_of s least.cover x.id) live
    (all_in (λ (x : CreatedRight). IsOfItem journal i (keys_of_sale journal i folio) (left_of s least.cover x.id)) live
    (λ x there. record {
      by_item = refl;
      on_day = refl;
      there = created_is_key journal at folio i x.id x.made kept stands (live_created s.at folio x there);
      content = left_is_of_sale folio x.id (remaining (claimed_in s) least.cover x.id) (remains_within journal at folio i least.cover x.id kept stands);
    }))

pub award_is_of_item : (journal : List Receipt) (at : Key → List Entry) (folio i buyer bid : ℕ) → Kept journal at → IsJournal journal
    → AllByRecursion (IsOfItem journal i (keys_of_sale journal i folio)) (award_brought (sale_at journal at folio i) buyer bid)
award_is_of_item journal at folio i buyer bid kept stands =
    let s = sale_at journal at folio i in
    let keys = keys_of_sale journal i folio in
    unless (IsOfItem journal i keys) (refusal_of_award s bid) _
    (elim (lowest s) as (λ o. AllByRecursion (IsOfItem journal i keys) (option_map_or (award_entries s buyer bid) o [])) [
      | None ↦ tt
      | Some least ↦ (
        record { by_item = refl; on_day = refl; there = case_is_key journal i folio; content = tt },
        (
          record { by_item = refl; on_day = refl; there = title_is_key journal i folio; content = tt },
          rights_are_of_item journal at folio i least kept stands,
        ),
      )
    ])
