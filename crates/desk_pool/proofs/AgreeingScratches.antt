-- Whether a scratch has room for an item depends on what stands at the item's own keys alone.
use Rattle.std.proofs.Common.{◌≡◌, ℕ, ◌≤◌, List, [], ◌∷◌, ◌++◌, Contains, IfSome, filter_map, length, Some, None, refl, sym, subst, inl, inr}
use Rattle.std.specs.Option.{option_map_or}
use Rattle.gb_base.specs.RightNo.{RightNo}
use Rattle.gb_base.specs.declared.keys.Key.{Key}
use Rattle.gb_base.specs.declared.keys.Key.TheVariants.{Right}
use Rattle.gb_base.proofs.Members.{In}
use Rattle.act_model.specs.Receiving.{receipt_at}
use Rattle.act_model.specs.SaleKeys.{earlier_rights, keys_of_sale}
use Rattle.act_model.specs.declared.items.Item.{Item}
use Rattle.act_model.specs.declared.items.Item.TheVariants as item
use Rattle.act_model.specs.declared.receipts.Receipt.{Receipt}
use Rattle.conflict_queue.specs.ItemKeys.{keys_by_item, keys_of_item}
use Rattle.folio_line.specs.Exchanges.{rise_by}
use Rattle.folio_line.specs.FolioLine.{all_rises}
use Rattle.folio_sections.specs.declared.entries.Entry.{Entry}
use Rattle.registrar.specs.Rooms.{HasItsScratch, IsForFolio, IsRoomy}
use Rattle.sale_rules.proofs.FoundAsKept.{right_key}
use Rattle.sale_rules.specs.ScratchRoom.{ScratchRoom}

-- ---- two registers that agree at the item's keys

rises_same : (at0 at1 : Key → List Entry) (folio : ℕ) (ids : List RightNo) → ((id : RightNo) → In id ids → at1 (Right folio id) ≡ at0 (Right folio id))
    → all_rises at1 folio ids ≡ all_rises at0 folio ids
rises_same at0 at1 folio [] same = refl
rises_same at0 at1 folio (id ∷ ids) same =
    let here = same id (inl refl) in
    let rest = rises_same at0 at1 folio ids (λ x there. same x (inr there)) in
    λ j. filter_map (λ (e : Entry). rise_by id e.receipt e.what) (here j) ++ rest j

for_folio_same : (journal : List Receipt) (i folio : ℕ) (at0 at1 : Key → List Entry) (scratch : ScratchRoom) → ((k : Key) → Contains (keys_of_sale journal i folio) k → at1 k ≡ at0 k)
    → IsForFolio journal i folio at0 scratch → IsForFolio journal i folio at1 scratch
for_folio_same journal i folio at0 at1 scratch same roomy =
    let ids = earlier_rights journal i folio in
    let rises = rises_same at0 at1 folio ids (λ id there. same (Right folio id) (right_key journal i folio id there)) in
    record { rights = roomy.rights; exchanges = subst (λ xs. length xs ≤ scratch.exchanges) (sym rises) roomy.exchanges }

roomy_same : (journal : List Receipt) (i : ℕ) (at0 at1 : Key → List Entry) (scratch : ScratchRoom) (w : Item) → ((k : Key) → Contains (keys_by_item journal i w) k → at1 k ≡ at0 k)
    → IsRoomy journal i at0 w scratch → IsRoomy journal i at1 w scratch
roomy_same journal i at0 at1 scratch (item.OpenBids f costs) same roomy = for_folio_same journal i f at0 at1 scratch same roomy
roomy_same journal i at0 at1 scratch (item.Award f buyer bid) same roomy = for_folio_same journal i f at0 at1 scratch same roomy
roomy_same journal i at0 at1 scratch other same roomy = tt

pub scratch_same : (journal : List Receipt) (i : ℕ) (at0 at1 : Key → List Entry) (scratch : ScratchRoom) → ((k : Key) → Contains (keys_of_item journal i) k → at1 k ≡ at0 k)
    → HasItsScratch journal i at0 scratch → HasItsScratch journal i at1 scratch
scratch_same journal i at0 at1 scratch =
    elim (receipt_at journal i) as (λ o. ((k : Key) → Contains (option_map_or (λ (r : Receipt). keys_by_item journal i r.item) o []) k → at1 k ≡ at0 k)
    → IfSome o (λ (r : Receipt). IsRoomy journal i at0 r.item scratch) → IfSome o (λ (r : Receipt). IsRoomy journal i at1 r.item scratch)) [
      | None ↦ λ same roomy. tt
      | Some r ↦ λ same roomy. roomy_same journal i at0 at1 scratch r.item same roomy
    ]

-- ---- an item that touches no key computes with nothing

none_of_sale : (journal : List Receipt) (i folio : ℕ) → keys_of_sale journal i folio ≡ [] → ⊥
none_of_sale journal i folio none = absurd (cc none)

roomy_nowhere : (journal : List Receipt) (i : ℕ) (at : Key → List Entry) (scratch : ScratchRoom) (w : Item) → keys_by_item journal i w ≡ [] → IsRoomy journal i at w scratch
roomy_nowhere journal i at scratch (item.OpenBids f costs) none = absurd (none_of_sale journal i f none)
roomy_nowhere journal i at scratch (item.Award f buyer bid) none = absurd (none_of_sale journal i f none)
roomy_nowhere journal i at scratch other none = tt

pub scratch_nowhere : (journal : List Receipt) (i : ℕ) (at : Key → List Entry) (scratch : ScratchRoom) → keys_of_item journal i ≡ [] → HasItsScratch journal i at scratch
scratch_nowhere journal i at scratch =
    elim (receipt_at journal i) as (λ o. option_map_or (λ (r : Receipt). keys_by_item journal i r.item) o [] ≡ [] → IfSome o (λ (r : Receipt). IsRoomy journal i at r.item scratch)) [
      | None ↦ λ none. tt
      | Some r ↦ λ none. roomy_nowhere journal i at scratch r.item none
    ]
