-- An item brings nothing at a key that it does not touch.
use Rattle.std.proofs.Common.{◌≡◌, ℕ, ◌≤◌, false, cond, List, [], ◌∷◌, ◌++◌, length, Contains, Some, option_map, refl, sym, ap, subst, ◌∙◌, ⊎_elim, arith}
use Rattle.std.proofs.lemmas.Bool.{cases_Bool}
use Rattle.std.proofs.lemmas.List.{append-nil}
use Rattle.gb_base.specs.declared.keys.Key.{Key}
use Rattle.act_model.proofs.KeyOrder.{has, has_decides}
use Rattle.act_model.specs.Receiving.{IsJournal, receipt_at}
use Rattle.act_model.specs.declared.receipts.Receipt.{Receipt}
use Rattle.folio_sections.specs.Adding.{AddsAll}
use Rattle.folio_sections.specs.Entries.{at as at_key}
use Rattle.folio_sections.specs.declared.entries.Entry.{Entry}
use Rattle.act_model.specs.Receiving.{item_at}
use Rattle.act_model.specs.SaleKeys.{keys_of_sale}
use Rattle.act_model.specs.declared.items.Item.{Item}
use Rattle.act_model.specs.declared.items.Item.TheVariants as item
use Rattle.conflict_queue.specs.ItemKeys.{keys_by_item, keys_of_item}
use Rattle.folio_sections.proofs.Unchanged.{all_weaker}
use Rattle.gb_base.specs.declared.keys.Key.TheVariants.{Case}
use Rattle.kept_registers.specs.Kept.{Kept}
use Rattle.registrar.proofs.Added.{none_elsewhere}
use Rattle.registrar.proofs.FiledItems.{IsFiled}
use Rattle.registrar.proofs.ItemRooms.{item_fits}
use Rattle.registrar.proofs.SaleBrings.{IsOfItem, award_is_of_item, call_is_of_item, distribution_is_of_item, registration_is_of_item, seizure_is_of_item}
use Rattle.registrar.proofs.StepLemmas.{keys_are}
use Rattle.registrar.specs.Brings.{brought_by_item}
use Rattle.std.specs.List.{AllByRecursion}
use Rattle.registrar.specs.Rooms.{room_by_item}

none_of_length : (es : List Entry) → length es ≤ 0 → es ≡ []
none_of_length [] few = refl
none_of_length (e ∷ es) few = absurd (omega arith)

-- what is brought for a filing has no entry at a key that is none of the item's
filed_elsewhere : (journal : List Receipt) (i : ℕ) (register : Key → List Entry) (w : Item) (k : Key) → IsFiled w → IsJournal journal → item_at journal i ≡ Some w
    → has k (keys_by_item journal i w) ≡ false → at_key (brought_by_item journal i register w).entries k ≡ []
filed_elsewhere journal i register w k filed is_one is lacks =
    let keys = keys_by_item journal i w in
    let room : Key → ℕ = λ j. cond (has j keys) (room_by_item i w (register j)) 0 in
    let fits = item_fits journal i register room w filed is_one is
    (λ j there. subst (λ b. room_by_item i w (register j) ≤ cond b (room_by_item i w (register j)) 0) (sym ((has_decides j keys).1 there)) (omega arith)) k in
    none_of_length (at_key (brought_by_item journal i register w).entries k)
    (subst (λ b. length (at_key (brought_by_item journal i register w).entries k) ≤ cond b (room_by_item i w (register k)) 0) lacks fits)

-- what is brought in a sale has no entry at a key that is none of the item's
sale_elsewhere : (journal : List Receipt) (i : ℕ) (keys : List Key) (es : List Entry) (k : Key) → AllByRecursion (IsOfItem journal i keys) es → has k keys ≡ false → at_key es k ≡ []
sale_elsewhere journal i keys es k all lacks = none_elsewhere keys es k (all_weaker (IsOfItem journal i keys) (λ e. Contains keys e.key) es (λ e is. is.there) all) lacks

-- An item of a journal brings nothing to a kept register at a key that is none of its own.
pub nothing_elsewhere : (journal : List Receipt) (i : ℕ) (register : Key → List Entry) (w : Item) (k : Key) → IsJournal journal → Kept journal register → item_at journal i ≡ Some w
    → has k (keys_by_item journal i w) ≡ false → at_key (brought_by_item journal i register w).entries k ≡ []
nothing_elsewhere journal i register (item.Seize folio basis served) k is_one kept is lacks =
    sale_elsewhere journal i (keys_of_sale journal i folio) _ k (seizure_is_of_item journal register folio i basis) lacks
nothing_elsewhere journal i register (item.Register folio registered) k is_one kept is lacks =
    sale_elsewhere journal i (Case folio ∷ []) _ k (registration_is_of_item journal register folio i registered) lacks
nothing_elsewhere journal i register (item.OpenBids folio costs) k is_one kept is lacks =
    sale_elsewhere journal i (keys_of_sale journal i folio) _ k (call_is_of_item journal register folio i costs) lacks
nothing_elsewhere journal i register (item.Award folio buyer bid) k is_one kept is lacks =
    sale_elsewhere journal i (keys_of_sale journal i folio) _ k (award_is_of_item journal register folio i buyer bid kept is_one) lacks
nothing_elsewhere journal i register (item.Distribute folio) k is_one kept is lacks =
    sale_elsewhere journal i (keys_of_sale journal i folio) _ k (distribution_is_of_item journal register folio i) lacks
nothing_elsewhere journal i register other k is_one kept is lacks = filed_elsewhere journal i register other k tt is_one is lacks

pub stays_elsewhere : (journal : List Receipt) (i : ℕ) (register at0 at1 : Key → List Entry) (r : Receipt) (k : Key) → IsJournal journal → Kept journal register → receipt_at journal i ≡ Some r
    → (Contains (keys_of_item journal i) k → ⊥) → AddsAll at0 at1 (brought_by_item journal i register r.item).entries → at1 k ≡ at0 k
stays_elsewhere journal i register at0 at1 r k is_one kept is off added =
    let lacks : has k (keys_by_item journal i r.item) ≡ false =
    ⊎_elim (λ there. absurd (off (subst (λ ks. Contains ks k) (sym (keys_are journal i r is)) ((has_decides k (keys_by_item journal i r.item)).0 there)))) (λ no. no)
    (cases_Bool (has k (keys_by_item journal i r.item))) in
    added k ∙ ap (λ es. at0 k ++ es) (nothing_elsewhere journal i register r.item k is_one kept (ap (option_map (λ x. x.item)) is) lacks) ∙ append-nil (at0 k)
