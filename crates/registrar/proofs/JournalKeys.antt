-- The keys of the items of a journal, and the room that is made at them.
use Rattle.std.proofs.Common.{◌≡◌, ℕ, ◌+◌, ◌≤◌, false, ◌||◌, List, [], ◌∷◌, ◌++◌, length, Contains, IsTrue, Some, None, flat_map, sym, ap, subst, ◌∙◌, arith}
use Rattle.std.specs.List.{range_with_len}
use Rattle.std.specs.Option.{option_map_or}
use Rattle.std.proofs.lemmas.Bool.{false≢true}
use Rattle.std.proofs.lemmas.Bool.Decides.{same_from_decides}
use Rattle.std.proofs.lemmas.Grind.{flat_map-append}
use Rattle.std.proofs.lemmas.List.{append-nil}
use Rattle.std.proofs.lemmas.List.Folds.{list_any-append}
use Rattle.gb_base.specs.Keys.{same_key}
use Rattle.gb_base.specs.declared.keys.Key.{Key}
use Rattle.act_model.proofs.KeyOrder.{has_decides, in_key_order_members}
use Rattle.act_model.specs.Receiving.{receipt_at}
use Rattle.act_model.specs.declared.items.Item.{Item}
use Rattle.act_model.specs.declared.items.Item.TheVariants as item
use Rattle.act_model.specs.declared.receipts.Receipt.{Receipt}
use Rattle.conflict_queue.specs.Dockets.{keys_touched}
use Rattle.conflict_queue.specs.ItemKeys.{keys_of_item}
use Rattle.folio_sections.specs.Held.{WidensBy, is_given}
use Rattle.folio_sections.specs.PartState.{PartState}
use Rattle.folio_sections.specs.declared.entries.Entry.{Entry}
use Rattle.registrar.proofs.Registering.{range_more}
use Rattle.registrar.proofs.UnnoticedFew.{unnoticed_at_most}
use Rattle.registrar.specs.HeldKeys.{keys_of_first}
use Rattle.registrar.specs.Rooms.{HasItsRoom, most_brought, room_by_item, room_wanted}

-- ---- the keys that are held

-- a key is among those in order exactly where it is among all of them
given_in_order : (journal : List Receipt) (i : ℕ) (k : Key) → is_given (keys_touched journal i) k ≡ is_given (keys_of_item journal i) k
given_in_order journal i k =
    let members = in_key_order_members (keys_of_item journal i) k in
    let ordered = has_decides k (keys_touched journal i) in
    same_from_decides (is_given (keys_touched journal i) k) (is_given (keys_of_item journal i) k)
    (λ is. members.0 (ordered.0 is), λ there. ordered.1 (members.1 there)) (has_decides k (keys_of_item journal i))

first_and_next : (journal : List Receipt) (n : ℕ) → keys_of_first journal (n + 1) ≡ keys_of_first journal n ++ keys_of_item journal (n + 1)
first_and_next journal n =
    ap (flat_map (keys_of_item journal)) (range_more 1 n)
    ∙ flat_map-append (keys_of_item journal) (range_with_len 1 n) ((1 + n) ∷ [])
    ∙ ap (λ ks. keys_of_first journal n ++ ks) (append-nil (keys_of_item journal (1 + n)) ∙ ap (keys_of_item journal) (omega arith))

-- a key is among those of the first n items or those of the next one exactly where it is among those of the first n + 1
pub given_next : (journal : List Receipt) (n i : ℕ) (keys : List Key) (k : Key) → i ≡ n + 1 → keys ≡ keys_touched journal i
    → (is_given (keys_of_first journal n) k || is_given keys k) ≡ is_given (keys_of_first journal (n + 1)) k
given_next journal n i keys k next are =
    ap (λ b. is_given (keys_of_first journal n) k || b)
    (ap (λ ks. is_given ks k) are ∙ given_in_order journal i k ∙ ap (λ m. is_given (keys_of_item journal m) k) next)
    ∙ sym (list_any-append (λ j. same_key j k) (keys_of_first journal n) (keys_of_item journal (n + 1)))
    ∙ ap (λ ks. is_given ks k) (sym (first_and_next journal n))

-- ---- the keys of one item

pub touched_is_given : (journal : List Receipt) (i : ℕ) (keys : List Key) (k : Key) → keys ≡ keys_touched journal i → Contains (keys_of_item journal i) k → IsTrue (is_given keys k)
touched_is_given journal i keys k are there =
    ap (λ ks. is_given ks k) are ∙ given_in_order journal i k ∙ (has_decides k (keys_of_item journal i)).1 there

pub not_given_is_apart : (journal : List Receipt) (i : ℕ) (keys : List Key) (k : Key) → keys ≡ keys_touched journal i → is_given keys k ≡ false → Contains (keys_of_item journal i) k → ⊥
not_given_is_apart journal i keys k are apart there = false≢true (sym apart ∙ touched_is_given journal i keys k are there)

-- where the keys in order of an item may be held besides, that says as much of all keys of the item
pub widens_by_item : (journal : List Receipt) (i n : ℕ) (keys : List Key) (before after : List PartState) → i ≡ n + 1 → keys ≡ keys_touched journal i
    → WidensBy (is_given keys) before after → WidensBy (is_given (keys_of_item journal (n + 1))) before after
widens_by_item journal i n keys before after next are wide = record {
  kept = wide.kept;
  others = λ k other.
      wide.others k (ap (λ ks. is_given ks k) are ∙ given_in_order journal i k ∙ ap (λ m. is_given (keys_of_item journal m) k) next ∙ other);
}

-- ---- the room at them

-- what any item needs at a key is at most three entries, and as many as stand there
enough_by_item : (i : ℕ) (w : Item) (entries : List Entry) → room_by_item i w entries ≤ length entries + most_brought
enough_by_item i (item.Filing f) entries = let few = unnoticed_at_most i entries in omega arith
enough_by_item i (item.Cure m docs) entries = let few = unnoticed_at_most m entries in omega arith
enough_by_item i other entries = omega arith

enough : (journal : List Receipt) (i : ℕ) (entries : List Entry) → room_wanted journal i entries ≤ length entries + most_brought
enough journal i entries =
    elim (receipt_at journal i) as (λ o. option_map_or (λ (r : Receipt). room_by_item i r.item entries) o 1 ≤ length entries + most_brought) [
      | Some r ↦ enough_by_item i r.item entries
      | None ↦ omega arith
    ]

pub has_its_room : (journal : List Receipt) (i : ℕ) (keys : List Key) (at : Key → List Entry) (room : Key → ℕ) → keys ≡ keys_touched journal i
    → ((k : Key) → Contains keys k → length (at k) + most_brought ≤ room k) → HasItsRoom journal i at room
has_its_room journal i keys at room are roomy k there =
    let among : Contains keys k = subst (λ ks. Contains ks k) (sym are) ((in_key_order_members (keys_of_item journal i) k).1 there) in
    let wide = roomy k among in
    let wanted = enough journal i (at k) in
    omega arith
