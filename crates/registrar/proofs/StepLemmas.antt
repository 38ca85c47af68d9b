-- What a step needs and leaves, by what receipt i says.
use Rattle.std.proofs.Common.{◌≡◌, ℕ, ◌≤◌, Bool, List, [], Contains, IfSome, IsTrue, Some, None, option_map, is_some, refl, sym, ap, subst, arith}
use Rattle.std.specs.Option.{option_map_or}
use Rattle.gb_base.specs.declared.keys.Key.{Key}
use Rattle.act_model.specs.Receiving.{IsJournal, item_at, receipt_at}
use Rattle.act_model.specs.declared.items.Item.{Item}
use Rattle.act_model.specs.declared.items.Item.TheVariants as item
use Rattle.act_model.specs.declared.items.Subject.{Subject}
use Rattle.act_model.specs.declared.items.Subject.TheVariants as about
use Rattle.act_model.specs.declared.receipts.Receipt.{Receipt}
use Rattle.folio_sections.specs.Adding.{AddsAll}
use Rattle.folio_sections.specs.Entries.{with_entries}
use Rattle.kept_registers.specs.Kept.{Kept}
use Rattle.kept_registers.specs.Standing.{StandsForKept}
use Rattle.folio_sections.specs.declared.entries.Entry.{Entry}
use Rattle.registrar.proofs.CuresKeep.{AreEarlier}
use Rattle.registrar.proofs.EachItemKeeps.{item_leaves}
use Rattle.registrar.proofs.Keeping.{Leaves, none_leave}
use Rattle.registrar.proofs.KnownExchanges.{known_when_filed, known_while_waiting}
use Rattle.registrar.proofs.WaitingStates.{found_waiting}
use Rattle.registrar.specs.Brings.{brings, brought_by_item, nothing_pending}
use Rattle.conflict_queue.specs.ItemKeys.{keys_by_item, keys_by_subject, keys_of_item}
use Rattle.registrar.specs.Rooms.{HasItsRoom, HasItsScratch, IsRoomy, room_by_item, room_wanted}
use Rattle.sale_rules.specs.SaleParts.{CanSettle}
use Rattle.sale_rules.specs.ScratchRoom.{ScratchRoom}
use Rattle.registrar.specs.inner.Exchanges.{KnowsExchangesOf}

pub brings_is : (journal : List Receipt) (i : ℕ) (at : Key → List Entry) (r : Receipt) → receipt_at journal i ≡ Some r → brings journal i at ≡ brought_by_item journal i at r.item
brings_is journal i at r is = ap (λ o. option_map_or (λ x. brought_by_item journal i at x.item) o nothing_pending) is

pub keys_are : (journal : List Receipt) (i : ℕ) (r : Receipt) → receipt_at journal i ≡ Some r → keys_of_item journal i ≡ keys_by_item journal i r.item
keys_are journal i r is = ap (λ o. option_map_or (λ x. keys_by_item journal i x.item) o []) is

wants : (journal : List Receipt) (i : ℕ) (r : Receipt) (entries : List Entry) → receipt_at journal i ≡ Some r → room_wanted journal i entries ≡ room_by_item i r.item entries
wants journal i r entries is = ap (λ o. option_map_or (λ x. room_by_item i x.item entries) o 1) is

pub item_is : (journal : List Receipt) (i : ℕ) (r : Receipt) → receipt_at journal i ≡ Some r → item_at journal i ≡ Some r.item
item_is journal i r is = ap (option_map (λ x. x.item)) is

-- each kind of item needs room for one entry at least
room_from : (i : ℕ) (w : Item) (entries : List Entry) → 1 ≤ room_by_item i w entries
room_from i (item.Filing f) entries = omega arith
room_from i other entries = omega arith

pub has_room : (journal : List Receipt) (i : ℕ) (at : Key → List Entry) (room : Key → ℕ) (r : Receipt) → receipt_at journal i ≡ Some r → HasItsRoom journal i at room
    → (k : Key) → Contains (keys_by_item journal i r.item) k → room_by_item i r.item (at k) ≤ room k
has_room journal i at room r is roomy k there =
    subst (λ n. n ≤ room k) (wants journal i r (at k) is) (roomy k (subst (λ ks. Contains ks k) (sym (keys_are journal i r is)) there))

pub can_settle : (journal : List Receipt) (i : ℕ) (holds : Key → Bool) (at : Key → List Entry) (room : Key → ℕ) (r : Receipt) → receipt_at journal i ≡ Some r → ((k : Key) → Contains (keys_of_item journal i) k → IsTrue (holds k))
    → HasItsRoom journal i at room → AreEarlier i at (keys_of_item journal i) → StandsForKept journal holds at → CanSettle journal i (keys_by_item journal i r.item) holds at room
can_settle journal i holds at room r is held roomy before kept = record {
  held = λ k there. held k (subst (λ ks. Contains ks k) (sym (keys_are journal i r is)) there);
  has_room = λ k there. let wanted = has_room journal i at room r is roomy k there in
      let some = room_from i r.item (at k) in
      omega (arith, wanted, some);
  earlier = subst (AreEarlier i at) (keys_are journal i r is) before;
  kept = kept;
}

pub is_roomy : (journal : List Receipt) (i : ℕ) (at : Key → List Entry) (scratch : ScratchRoom) (r : Receipt) → receipt_at journal i ≡ Some r → HasItsScratch journal i at scratch → IsRoomy journal i at r.item scratch
is_roomy journal i at scratch r is roomy = subst (λ o. IfSome o (λ (x : Receipt). IsRoomy journal i at x.item scratch)) is roomy

pub exchanges_known : (journal : List Receipt) (i : ℕ) (at : Key → List Entry) (s : Subject) → Kept journal at → AreEarlier i at (keys_by_subject journal i s) → KnowsExchangesOf journal i at s
exchanges_known journal i at about.Itself kept before = known_when_filed journal at i kept before
exchanges_known journal i at (about.Filing m) kept before = λ until is.
    let waits = (found_waiting journal m i at until is).waits in
    known_while_waiting journal at m waits.key kept waits.there (ap is_some waits.waits)
exchanges_known journal i at other kept before = tt

-- what receipt i brings leaves a kept register; where there is no receipt i, nothing is brought
pub brings_leaves : (journal : List Receipt) (i : ℕ) (at : Key → List Entry) → IsJournal journal → Kept journal at → AreEarlier i at (keys_of_item journal i) → Leaves journal i at (brings journal i at).entries
brings_leaves journal i at stands kept =
    elim (receipt_at journal i) as (λ o. receipt_at journal i ≡ o → AreEarlier i at (option_map_or (λ r. keys_by_item journal i r.item) o []) → Leaves journal i at (option_map_or (λ r. brought_by_item journal i at r.item) o nothing_pending).entries) [
      | Some r ↦ λ is before. item_leaves journal i at r.item stands kept (ap (option_map (λ x. x.item)) is) before
      | None ↦ λ is before. none_leave journal i at kept
    ] refl

pub step_leaves : (journal : List Receipt) (i : ℕ) (at0 at1 : Key → List Entry) → IsJournal journal → Kept journal at0 → AreEarlier i at0 (keys_of_item journal i) → AddsAll at0 at1 (brings journal i at0).entries → Kept journal at1
step_leaves journal i at0 at1 stands kept before added =
    let same : at1 ≡ with_entries at0 (brings journal i at0).entries = λ j k. added k j in
    subst (Kept journal) (sym same) (brings_leaves journal i at0 stands kept before).kept
