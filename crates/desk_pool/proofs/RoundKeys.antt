-- What a round keeps ready is of the journal that is named; its keys are all that the items touch, each once.
use Rattle.std.proofs.Common.{◌≡◌, ℕ, Bool, false, All, List, [], ◌∷◌, get_or, length, map, refl, sym, ap, subst, ◌∙◌, arith}
use Rattle.std.specs.BTreeMap.{BTreeMap, IsOrdered}
use Rattle.std.specs.Map.{keys_of}
use Rattle.std.specs.Ordering.{is_eq}
use Rattle.std.specs.declared.cmp.Ordering.TheVariants.{Less}
use Rattle.std.specs.List.Sorted.{IsStrictlySortedBy}
use Rattle.std.proofs.lemmas.List.{get_or-map, length-map}
use Rattle.std.proofs.lemmas.List.FromFn.{length-range_with_len}
use Rattle.std.proofs.lemmas.Map.Keys.{Less-from_sorted}
use Rattle.gb_base.specs.Keys.{key_cmp}
use Rattle.gb_base.specs.declared.keys.Key.{Key}
use Rattle.act_model.proofs.KeyOrder.{ties}
use Rattle.act_model.specs.declared.receipts.Receipt.{Receipt}
use Rattle.conflict_queue.specs.Schedules.{in_receipt_order}
use Rattle.desk_pool.proofs.PreparedParts.{all_listed, key_of}
use Rattle.desk_pool.specs.Preparing.{HasFrame}
use Rattle.desk_pool.specs.Rounds.{IsRound}
use Rattle.desk_pool.specs.declared.folio_parts.KeyRoom.{KeyRoom}
use Rattle.desk_pool.specs.declared.register_frames.RegisterFrame.{RegisterFrame}
use Rattle.desk_pool.specs.inner.FoliosBack.{AreAllKeys}
use Rattle.desk_pool.specs.inner.KeyRooms.{AreRooms}
use Rattle.desk_pool.specs.inner.PartsPrepared.{room_of_entry}
use Rattle.folio_sections.specs.Held.{is_given}

keys_are : (es : List (Key × ℕ)) → keys_of es ≡ map key_of (map room_of_entry es)
keys_are [] = refl
keys_are (e ∷ es) = ap (λ ks. e.0 ∷ ks) (keys_are es)

pub all_keys : (journal : List Receipt) (rooms : BTreeMap Key ℕ) (keys : List KeyRoom) → AreRooms journal rooms → IsOrdered key_cmp rooms → keys ≡ map room_of_entry rooms.entries → AreAllKeys journal keys
all_keys journal rooms keys are ordered is = record {
  all = λ k. ap (λ rs. is_given (map key_of rs) k) is ∙ (all_listed rooms ordered).keys k ∙ are.keys k;
  apart = λ i j d less within.
      let sorted : IsStrictlySortedBy key_cmp (map key_of keys) = subst (IsStrictlySortedBy key_cmp) (keys_are rooms.entries ∙ ap (map key_of) (sym is)) ordered in
      let count = length-map keys key_of in
      let below = Less-from_sorted key_cmp (map key_of keys) i j d.key sorted less (omega (arith, count, within)) in
      let first = get_or-map key_of keys i d d.key (omega (arith, less, within)) in
      let second = get_or-map key_of keys j d d.key within in
      ties (get_or keys i d).key (get_or keys j d).key
      ∙ ap is_eq (subst (λ k. key_cmp k (get_or keys j d).key ≡ Less) first (subst (λ k. key_cmp (get_or (map key_of keys) i d.key) k ≡ Less) second below));
}

pub is_round : {journal lent : List Receipt} {frame : RegisterFrame} {seats : ℕ} {receipts : List ℕ} {passed : List Bool}
    → lent ≡ journal → HasFrame lent frame → seats ≡ 64
    → receipts ≡ in_receipt_order lent → All (λ b. b ≡ false) passed → length passed ≡ length receipts → IsRound journal lent frame seats receipts passed
is_round {journal} {lent} {frame} {seats} {receipts} {passed} named frame_is seats_are receipts_are none_passed as_many =
    let own : IsRound lent lent frame seats receipts passed = record {
      named = refl;
      frame_is = frame_is;
      seats_are = seats_are;
      receipts_are = receipts_are;
      none_passed = none_passed;
      as_many = as_many ∙ ap length receipts_are ∙ length-range_with_len 1 (length lent);
    } in
    subst (λ j. IsRound j lent frame seats receipts passed) named own
