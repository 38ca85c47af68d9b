-- A scratch that has room for the rights of a folio that are held, and for the exchanges by which they rise, is large enough for an
-- item that computes a lowest bid there.
use Rattle.std.proofs.Common.{◌≡◌, ℕ, ◌≤◌, Bool, true, cond, List, [], ◌∷◌, ◌++◌, Contains, IfSome, IsTrue, filter_map, length, map, OnOk, Some, None, Result, Ok, Err, option_and_then, option_map, refl, sym, ap, subst, inl, inr}
use Rattle.std.specs.Option.{option_map_or}
use Rattle.gb_base.specs.RightNo.{RightNo}
use Rattle.gb_base.specs.declared.keys.Key.{Key}
use Rattle.gb_base.specs.declared.keys.Key.TheVariants.{Case, Right, Title}
use Rattle.gb_base.proofs.Members.{In}
use Rattle.act_model.specs.Receiving.{item_at, receipt_at}
use Rattle.act_model.specs.SaleKeys.{earlier_rights, keys_of_sale}
use Rattle.act_model.specs.declared.items.Item.{Item}
use Rattle.act_model.specs.declared.items.Item.TheVariants as item
use Rattle.act_model.specs.declared.receipts.Receipt.{Receipt}
use Rattle.conflict_queue.specs.ItemKeys.{keys_by_item, keys_of_item}
use Rattle.folio_line.specs.Exchanges.{rise_by}
use Rattle.folio_line.specs.FolioLine.{all_rises}
use Rattle.folio_line.specs.FolioReading.{where_held}
use Rattle.folio_sections.specs.declared.entries.Entry.{Entry}
use Rattle.registrar.proofs.ContainedParts.{contains_later}
use Rattle.registrar.proofs.SaleBrings.{in_keys, title_and_rights}
use Rattle.registrar.specs.Rooms.{HasItsScratch, IsForFolio, IsRoomy}
use Rattle.registrar.specs.inner.Computed.{folio_computed}
use Rattle.sale_rules.specs.ScratchRoom.{ScratchRoom}

-- ---- the exchanges of rights that are held

rises_held : (holds : Key → Bool) (at : Key → List Entry) (folio : ℕ) (ids : List RightNo) → ((id : RightNo) → In id ids → holds (Right folio id) ≡ true)
    → all_rises (where_held holds at) folio ids ≡ all_rises at folio ids
rises_held holds at folio [] held = refl
rises_held holds at folio (id ∷ ids) held =
    let here = held id (inl refl) in
    let rest = rises_held holds at folio ids (λ x there. held x (inr there)) in
    λ j. filter_map (λ (e : Entry). rise_by id e.receipt e.what) (cond (here j) (at (Right folio id)) []) ++ rest j

-- ---- by the item

by_kind : (journal : List Receipt) (i folio : ℕ) (at : Key → List Entry) (scratch : ScratchRoom) (w : Item) → folio_computed w ≡ Some folio → IsForFolio journal i folio at scratch → IsRoomy journal i at w scratch
by_kind journal i folio at scratch (item.OpenBids f costs) is roomy =
    let same : folio ≡ f = sym (ap (λ o. option_map_or (λ (x : ℕ). x) o folio) is) in
    subst (λ x. IsForFolio journal i x at scratch) same roomy
by_kind journal i folio at scratch (item.Award f buyer bid) is roomy =
    let same : folio ≡ f = sym (ap (λ o. option_map_or (λ (x : ℕ). x) o folio) is) in
    subst (λ x. IsForFolio journal i x at scratch) same roomy
by_kind journal i folio at scratch other is roomy = tt

not_computed : (journal : List Receipt) (i : ℕ) (at : Key → List Entry) (scratch : ScratchRoom) (w : Item) → folio_computed w ≡ None → IsRoomy journal i at w scratch
not_computed journal i at scratch (item.OpenBids f costs) is = absurd (cc is)
not_computed journal i at scratch (item.Award f buyer bid) is = absurd (cc is)
not_computed journal i at scratch other is = tt

-- the keys of an item that computes the lowest bid in a folio are those of its sale
keys_computed : (journal : List Receipt) (i folio : ℕ) (w : Item) → folio_computed w ≡ Some folio → keys_by_item journal i w ≡ keys_of_sale journal i folio
keys_computed journal i folio (item.OpenBids f costs) is = ap (λ o. keys_of_sale journal i (option_map_or (λ (x : ℕ). x) o folio)) is
keys_computed journal i folio (item.Award f buyer bid) is = ap (λ o. keys_of_sale journal i (option_map_or (λ (x : ℕ). x) o folio)) is
keys_computed journal i folio other is = absurd (cc is)

pub roomy_in : (journal : List Receipt) (i folio : ℕ) (holds : Key → Bool) (at : Key → List Entry) (scratch : ScratchRoom) (ids : List RightNo)
    → option_and_then folio_computed (item_at journal i) ≡ Some folio → ((k : Key) → Contains (keys_of_item journal i) k → IsTrue (holds k))
    → ids ≡ earlier_rights journal i folio → length ids ≤ scratch.rights → length (all_rises (where_held holds at) folio ids) ≤ scratch.exchanges → HasItsScratch journal i at scratch
roomy_in journal i folio holds at scratch ids =
    elim (receipt_at journal i) as (λ o. option_and_then folio_computed (option_map (λ (r : Receipt). r.item) o) ≡ Some folio
    → ((k : Key) → Contains (option_map_or (λ (r : Receipt). keys_by_item journal i r.item) o []) k → IsTrue (holds k))
    → ids ≡ earlier_rights journal i folio → length ids ≤ scratch.rights → length (all_rises (where_held holds at) folio ids) ≤ scratch.exchanges → IfSome o (λ (r : Receipt). IsRoomy journal i at r.item scratch)) [
      | None ↦ λ is held same rights exchanges. tt
      | Some r ↦ λ is held same rights exchanges.
          let keys = keys_computed journal i folio r.item is in
          let there : (id : RightNo) → In id ids → holds (Right folio id) ≡ true = λ id among.
          held (Right folio id) (subst (λ ks. Contains ks (Right folio id)) (sym keys)
          (contains_later (Case folio) (title_and_rights journal i folio) (Right folio id)
          (contains_later (Title folio) (map (Right folio) (earlier_rights journal i folio)) (Right folio id) (in_keys folio (earlier_rights journal i folio) id (subst (In id) same among))))) in
          let rises = rises_held holds at folio ids there in
          by_kind journal i folio at scratch r.item is
          (record {
            rights = subst (λ xs. length xs ≤ scratch.rights) same rights;
            exchanges = subst (λ xs. length (all_rises at folio xs) ≤ scratch.exchanges) same (subst (λ ys. length ys ≤ scratch.exchanges) rises exchanges);
          })
    ]

pub roomy_elsewhere : (journal : List Receipt) (i : ℕ) (at : Key → List Entry) (scratch : ScratchRoom) → option_and_then folio_computed (item_at journal i) ≡ None → HasItsScratch journal i at scratch
roomy_elsewhere journal i at scratch =
    elim (receipt_at journal i) as (λ o. option_and_then folio_computed (option_map (λ (r : Receipt). r.item) o) ≡ None → IfSome o (λ (r : Receipt). IsRoomy journal i at r.item scratch)) [
      | None ↦ λ is. tt
      | Some r ↦ λ is. not_computed journal i at scratch r.item is
    ]

-- what follows from two statements holds on Ok where both hold on Ok
pub both_on_ok : {T E : Type 0} (r : Result T E) (P Q S : Type 0) → (P → Q → S) → OnOk r P → OnOk r Q → OnOk r S
both_on_ok (Ok x) P Q S f first second = f first second
both_on_ok (Err e) P Q S f first second = tt
