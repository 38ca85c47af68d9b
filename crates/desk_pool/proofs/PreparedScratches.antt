-- A scratch with room for the rights of each folio that has a sale has room for each item.
use Rattle.std.proofs.Common.{◌≡◌, ⊎_elim, ℕ, zero, suc, ◌+◌, ◌*◌, ◌-◌, ◌<◌, ◌≤◌, nat_lt, Bool, true, false, cond, ◌||◌, ◌==◌, List, [], ◌∷◌, Some, None, All, IfSome, filter, flat_map, get_or, length, map, slice_get, sum_by, take, refl, sym, ap, subst, ◌∙◌, arith}
use Rattle.std.specs.BTreeMap.{BTreeMap}
use Rattle.std.specs.List.{list_any, range_with_len}
use Rattle.std.specs.Option.{option_map_or}
use Rattle.std.proofs.lemmas.Bool.{cases_Bool, cases_eq, eqb-true, false≢true, or_left, or_right}
use Rattle.std.proofs.lemmas.List.{get_or_default}
use Rattle.std.proofs.lemmas.List.Folds.{list_any-append}
use Rattle.std.proofs.lemmas.List.Sums.{sum_by-cons}
use Rattle.std.proofs.lemmas.Option.{slice_get_within}
use Rattle.gb_base.specs.Keys.{folio_of_key, same_key}
use Rattle.gb_base.specs.RightNo.{RightNo}
use Rattle.gb_base.specs.declared.keys.Key.{Key}
use Rattle.gb_base.specs.declared.keys.Key.TheVariants.{Case, Right, Title}
use Rattle.act_model.proofs.KeyOrder.{itself}
use Rattle.act_model.specs.Creations.{creations_in}
use Rattle.act_model.specs.Limits.{most_creations, most_receipts}
use Rattle.act_model.specs.Receiving.{IsJournal, receipt_at}
use Rattle.act_model.specs.SaleKeys.{earlier_rights, keys_of_sale}
use Rattle.act_model.specs.declared.items.Item.{Item}
use Rattle.act_model.specs.declared.items.Item.TheVariants as item
use Rattle.act_model.specs.declared.receipts.Receipt.{Receipt}
use Rattle.conflict_queue.specs.Dockets.{has_key}
use Rattle.conflict_queue.specs.ItemKeys.{keys_by_item, keys_of_item}
use Rattle.desk_pool.proofs.CountedRooms.{room_few}
use Rattle.desk_pool.proofs.PreparedParts.{in_list}
use Rattle.desk_pool.proofs.RoomsSuffice.{exchanges_fit, room_grows}
use Rattle.desk_pool.specs.FolioStates.{HasAllScratch}
use Rattle.desk_pool.specs.Preparing.{ServesEachItem}
use Rattle.desk_pool.specs.RoundRooms.{room_of_first}
use Rattle.desk_pool.specs.declared.folio_parts.KeyRoom.{KeyRoom}
use Rattle.desk_pool.specs.inner.KeyRooms.{AreRooms, room_in}
use Rattle.desk_pool.specs.inner.PartsPrepared.{AreRoomsAt}
use Rattle.desk_pool.specs.inner.ScratchesPrepared.{IsNoSmaller, ServesAt, ServesFolio}
use Rattle.folio_sections.specs.Entries.{at}
use Rattle.folio_sections.specs.Held.{is_given}
use Rattle.folio_sections.specs.declared.entries.Entry.{Entry}
use Rattle.kept_registers.specs.Kept.{Kept}
use Rattle.registrar.specs.HasSettled.{settled_first}
use Rattle.registrar.specs.HeldKeys.{keys_of_first}
use Rattle.registrar.specs.Rooms.{IsForFolio, IsRoomy}
use Rattle.sale_rules.specs.ScratchRoom.{ScratchRoom}

-- ---- the room for a folio's rights is enough for each item that computes a lowest bid there

fewer_pass : {X : Type 0} (p : X → Bool) (xs : List X) → length (filter p xs) ≤ length xs
fewer_pass p [] = omega arith
fewer_pass p (x ∷ xs) =
    let rest = fewer_pass p xs in
    elim (p x) as (λ b. length (cond b (x ∷ filter p xs) (filter p xs)) ≤ suc (length xs)) [
      | true ↦ omega (arith, rest)
      | false ↦ omega (arith, rest)
    ]

-- a sum over those that pass is no more than the sum over all of numbers that are no smaller
smaller_sum : {X : Type 0} (f g : X → ℕ) (p : X → Bool) (xs : List X) → ((x : X) → f x ≤ g x) → sum_by f (filter p xs) ≤ sum_by g xs
smaller_sum f g p [] less = omega arith
smaller_sum {X} f g p (x ∷ xs) less =
    let rest = smaller_sum f g p xs less in
    let here = less x in
    let whole = sum_by-cons g x xs in
    elim (p x) as (λ b. sum_by f (cond b (x ∷ filter p xs) (filter p xs)) ≤ sum_by g (x ∷ xs)) [
      | true ↦ let first = sum_by-cons f x (filter p xs) in omega (arith, rest, here, whole, first)
      | false ↦ omega (arith, rest, whole)
    ]

pub serves_folio : (journal : List Receipt) (rooms : BTreeMap Key ℕ) (folio : ℕ) (ids : List RightNo) (room : ℕ) (scratch : ScratchRoom) → IsJournal journal → Kept journal (λ k. [])
    → AreRooms journal rooms → ids ≡ take most_creations (creations_in journal folio) → room ≡ sum_by (λ right. room_in rooms (Right folio right)) ids
    → length ids ≤ scratch.rights → room ≤ scratch.exchanges → ServesFolio journal folio scratch
serves_folio journal rooms folio ids room scratch stands empty are all sum rights exchanges = λ i within.
    let own = earlier_rights journal i folio in
    let test : RightNo → Bool = λ right. nat_lt right.receipt i in
    let most : RightNo → ℕ = λ right. room_of_first journal (length journal) (Right folio right) in
    let those : own ≡ filter test ids = ap (filter test) (sym all) in
    let few = fewer_pass test ids in
    let count = ap length those in
    let fit = exchanges_fit journal (i - 1) folio own stands empty in
    let less = smaller_sum (λ right. room_of_first journal (i - 1) (Right folio right)) most test ids (λ right. room_grows journal (i - 1) (length journal) (Right folio right) (omega (arith, within))) in
    let same = ap (sum_by (λ (right : RightNo). room_of_first journal (i - 1) (Right folio right))) those in
    let whole : room ≡ sum_by most ids = sum ∙ (λ j. sum_by (λ (right : RightNo). are.room (Right folio right) j) ids) in
    record {
      rights = omega (arith, few, count, rights);
      exchanges = omega (arith, fit, same, less, whole, exchanges);
    }

pub rooms_few : (journal : List Receipt) (rooms : BTreeMap Key ℕ) → length journal ≤ most_receipts → AreRooms journal rooms → (k : Key) → room_in rooms k ≤ 4 * most_receipts
rooms_few journal rooms received are k =
    let is = are.room k in
    let few = room_few journal (length journal) k in
    omega (arith, is, few, received)

short_front : {X : Type 0} (n : ℕ) (xs : List X) → length (take n xs) ≤ n
short_front zero xs = omega arith
short_front (suc n) [] = omega arith
short_front (suc n) (x ∷ xs) = let rest = short_front n xs in omega (arith, rest)

pub few_filed : (journal : List Receipt) (folio : ℕ) (ids : List RightNo) → ids ≡ take most_creations (creations_in journal folio) → length ids ≤ most_creations
few_filed journal folio ids are =
    let few = short_front most_creations (creations_in journal folio) in
    let count = ap length are in
    omega (arith, few, count)

-- ---- a larger scratch has room, too

pub larger_serves : (journal : List Receipt) (k : Key) (old new : ScratchRoom) → IsNoSmaller old new → ServesAt journal k old → ServesAt journal k new
larger_serves journal (Case folio) old new kept serves = λ i within.
    let was = serves i within in
    record { rights = omega (arith, was.rights, kept.rights); exchanges = omega (arith, was.exchanges, kept.exchanges) }
larger_serves journal (Title folio) old new kept serves = tt
larger_serves journal (Right folio right) old new kept serves = tt

pub next_serves : (journal : List Receipt) (keys : List KeyRoom) (i : ℕ) (r : KeyRoom) (old new : ScratchRoom) → i < length keys → r ≡ get_or keys i r → IsNoSmaller old new → ServesAt journal r.key new
    → ((j : ℕ) (d : KeyRoom) → j < i → ServesAt journal (get_or keys j d).key old) → (j : ℕ) (d : KeyRoom) → j < i + 1 → ServesAt journal (get_or keys j d).key new
next_serves journal keys i r old new within is kept here so_far j d less =
    ⊎_elim
    (λ same_place.
    let key_is : r ≡ get_or keys j d = is ∙ get_or_default keys i r d within ∙ ap (λ n. get_or keys n d) (sym same_place) in
    subst (λ (x : KeyRoom). ServesAt journal x.key new) key_is here)
    (λ other. larger_serves journal (get_or keys j d).key old new kept (so_far j d (omega (arith, other, less))))
    (cases_eq j i)

-- ---- an item that computes a lowest bid touches the sale of its folio

case_first : (journal : List Receipt) (i folio : ℕ) → has_key (Case folio) (keys_of_sale journal i folio) ≡ true
case_first journal i folio = ap (λ b. b || has_key (Case folio) (Title folio ∷ map (Right folio) (earlier_rights journal i folio))) (itself (Case folio))

no_right : (folio f : ℕ) (ids : List RightNo) → (f == folio) ≡ false → list_any (λ k. folio_of_key k == folio) (map (Right f) ids) ≡ false
no_right folio f [] apart = refl
no_right folio f (id ∷ ids) apart = ap (λ b. b || list_any (λ k. folio_of_key k == folio) (map (Right f) ids)) apart ∙ no_right folio f ids apart

-- the keys of a sale are all of its folio
of_sale : (journal : List Receipt) (i folio f : ℕ) → list_any (λ k. folio_of_key k == folio) (keys_of_sale journal i f) ≡ true → f ≡ folio
of_sale journal i folio f touched =
    let ids = earlier_rights journal i f in
    ⊎_elim
    (λ is. eqb-true f folio is)
    (λ apart. absurd (false≢true (sym ((λ j. apart j || (apart j || no_right folio f ids apart j))) ∙ touched)))
    (cases_Bool (f == folio))

by_item : (journal : List Receipt) (i : ℕ) (stands : Key → List Entry) (scratch : ScratchRoom) (w : Item)
    → ((folio : ℕ) → has_key (Case folio) (keys_by_item journal i w) ≡ true → IsForFolio journal i folio stands scratch) → IsRoomy journal i stands w scratch
by_item journal i stands scratch (item.OpenBids folio costs) serves = serves folio (case_first journal i folio)
by_item journal i stands scratch (item.Award folio buyer bid) serves = serves folio (case_first journal i folio)
by_item journal i stands scratch other serves = tt

in_folio : (journal : List Receipt) (i folio : ℕ) (stands : Key → List Entry) (scratch : ScratchRoom) (w : Item) → list_any (λ k. folio_of_key k == folio) (keys_by_item journal i w) ≡ true
    → (has_key (Case folio) (keys_by_item journal i w) ≡ true → IsForFolio journal i folio stands scratch) → IsRoomy journal i stands w scratch
in_folio journal i folio stands scratch (item.OpenBids f costs) touched serves =
    let same = of_sale journal i folio f touched in
    subst (λ x. IsForFolio journal i x stands scratch) (sym same) (serves (subst (λ x. has_key (Case x) (keys_of_sale journal i f) ≡ true) same (case_first journal i f)))
in_folio journal i folio stands scratch (item.Award f buyer bid) touched serves =
    let same = of_sale journal i folio f touched in
    subst (λ x. IsForFolio journal i x stands scratch) (sym same) (serves (subst (λ x. has_key (Case x) (keys_of_sale journal i f) ≡ true) same (case_first journal i f)))
in_folio journal i folio stands scratch other touched serves = tt

-- ---- the keys of an item are among those of all

pub given_at : (journal : List Receipt) (k : Key) (a n i : ℕ) → a ≤ i → i < a + n → has_key k (keys_of_item journal i) ≡ true → is_given (flat_map (keys_of_item journal) (range_with_len a n)) k ≡ true
given_at journal k a zero i low high has = absurd (omega (arith, low, high))
given_at journal k a (suc n) i low high has =
    let rest = flat_map (keys_of_item journal) (range_with_len (a + 1) n) in
    list_any-append (λ j. same_key j k) (keys_of_item journal a) rest
    ∙ ⊎_elim
    (λ first. or_left (has_key k (keys_of_item journal a)) (is_given rest k) (subst (λ m. has_key k (keys_of_item journal m) ≡ true) first has))
    (λ other. or_right (has_key k (keys_of_item journal a)) (is_given rest k) (given_at journal k (a + 1) n i (omega (arith, low, other)) (omega (arith, high)) has))
    (cases_eq i a)

received : (journal : List Receipt) (i : ℕ) (r : Receipt) → receipt_at journal i ≡ Some r → i ≤ length journal
received journal i r is =
    elim (i == 0) as (λ b. cond b None (slice_get journal (i - 1)) ≡ Some r → i ≤ length journal) [
      | true ↦ λ e. absurd (cc e)
      | false ↦ λ e. let within = slice_get_within journal (i - 1) r e in omega (arith, within)
    ] is

module _ (journal : List Receipt) (scratch : ScratchRoom) where
  abbrev before : ℕ → Key → List Entry
  before i = at (settled_first journal (i - 1)).entries

  given_case : (i : ℕ) → i ≤ length journal → (folio : ℕ) → has_key (Case folio) (keys_of_item journal i) ≡ true → is_given (keys_of_first journal (length journal)) (Case folio) ≡ true
  given_case zero within folio has = absurd (false≢true has)
  given_case (suc i) within folio has = given_at journal (Case folio) 1 (length journal) (suc i) (omega arith) (omega (arith, within)) has

  pub serves_all : ((folio : ℕ) → is_given (keys_of_first journal (length journal)) (Case folio) ≡ true → ServesFolio journal folio scratch) → ServesEachItem journal scratch
  serves_all serves = λ i within.
      elim (receipt_at journal i) as (λ o. receipt_at journal i ≡ o → ((folio : ℕ) → has_key (Case folio) (option_map_or (λ (r : Receipt). keys_by_item journal i r.item) o []) ≡ true → IsForFolio journal i folio (before i) scratch)
      → IfSome o (λ (r : Receipt). IsRoomy journal i (before i) r.item scratch)) [
        | None ↦ λ _ _. tt
        | Some r ↦ λ _ given. by_item journal i (before i) scratch r.item given
      ] refl (λ folio has. serves folio (given_case i within folio has) i within)

  pub serves_own : (folio : ℕ) → (is_given (keys_of_first journal (length journal)) (Case folio) ≡ true → ServesFolio journal folio scratch) → HasAllScratch journal folio scratch
  serves_own folio serves = λ i touched.
      elim (receipt_at journal i) as (λ o. receipt_at journal i ≡ o → list_any (λ k. folio_of_key k == folio) (option_map_or (λ (r : Receipt). keys_by_item journal i r.item) o []) ≡ true
      → (i ≤ length journal → has_key (Case folio) (option_map_or (λ (r : Receipt). keys_by_item journal i r.item) o []) ≡ true → IsForFolio journal i folio (before i) scratch)
      → IfSome o (λ (r : Receipt). IsRoomy journal i (before i) r.item scratch)) [
        | None ↦ λ _ _ _. tt
        | Some r ↦ λ is there given. in_folio journal i folio (before i) scratch r.item there (given (received journal i r is))
      ] refl touched (λ within has. serves (given_case i within folio has) i within)

-- a scratch that has room for all keys has room for a folio whose sale an item touches
pub at_case : (journal : List Receipt) (rooms : BTreeMap Key ℕ) (keys : List KeyRoom) (scratch : ScratchRoom) (folio : ℕ) → AreRooms journal rooms → AreRoomsAt rooms (λ k. true) keys
    → All (λ r. ServesAt journal r.key scratch) keys → is_given (keys_of_first journal (length journal)) (Case folio) ≡ true → ServesFolio journal folio scratch
at_case journal rooms keys scratch folio are all serves given =
    let there = in_list (λ r. ServesAt journal r.key scratch) keys (Case folio) serves (all.keys (Case folio) ∙ are.keys (Case folio) ∙ given) in
    subst (λ k. ServesAt journal k scratch) there.1.1 there.1.0
