-- How much room items keep at a key, at most.
use Rattle.std.proofs.Common.{◌≡◌, ℕ, zero, suc, ◌+◌, ◌*◌, ◌<◌, ◌≤◌, Bool, true, false, cond, List, ◌∷◌, Some, None, drop, get_or, length, sym, subst, ◌∙◌, drop-cons, arith}
use Rattle.std.specs.Option.{option_map_or}
use Rattle.gb_base.specs.declared.keys.Key.{Key}
use Rattle.act_model.specs.Receiving.{receipt_at}
use Rattle.act_model.specs.declared.items.Item.{Item}
use Rattle.act_model.specs.declared.items.Item.TheVariants as item
use Rattle.act_model.specs.declared.receipts.Receipt.{Receipt}
use Rattle.conflict_queue.specs.Dockets.{has_key}
use Rattle.conflict_queue.specs.ItemKeys.{keys_of_item}
use Rattle.desk_pool.proofs.RoomsSuffice.{room_next}
use Rattle.desk_pool.specs.RoundRooms.{room_for, room_for_item, room_of_first}

-- what is left of a list is its next element and what is left after that
pub cut : {X : Type 0} (xs : List X) (i : ℕ) (x : X) → i < length xs → x ≡ get_or xs i x → drop i xs ≡ x ∷ drop (i + 1) xs
cut xs i x within is =
    let next : suc i ≡ i + 1 = omega arith in
    drop-cons xs i x within ∙ (λ j. sym is j ∷ drop (next j) xs)

-- ---- at most four entries for each receipt

item_few : (w : Item) → room_for_item w ≤ 4
item_few (item.Filing f) = omega arith
item_few (item.Cure m docs) = omega arith
item_few other = omega arith

receipt_few : (journal : List Receipt) (i : ℕ) → room_for journal i ≤ 4
receipt_few journal i =
    elim (receipt_at journal i) as (λ o. option_map_or (λ (r : Receipt). room_for_item r.item) o 0 ≤ 4) [
      | Some r ↦ item_few r.item
      | None ↦ omega arith
    ]

few_or_none : (b : Bool) (room : ℕ) → room ≤ 4 → cond b room 0 ≤ 4
few_or_none true room few = few
few_or_none false room few = omega arith

pub room_few : (journal : List Receipt) (n : ℕ) (k : Key) → room_of_first journal n k ≤ 4 * n
room_few journal zero k = omega arith
room_few journal (suc n) k =
    let number : n + 1 ≡ suc n = omega arith in
    let rest = room_few journal n k in
    let next = room_next journal n k in
    let few = few_or_none (has_key k (keys_of_item journal (n + 1))) (room_for journal (n + 1)) (receipt_few journal (n + 1)) in
    let whole : room_of_first journal (n + 1) k ≤ 4 * n + 4 = omega (arith, rest, next, few) in
    subst (λ m. room_of_first journal m k ≤ 4 * m) number (omega (arith, whole))
