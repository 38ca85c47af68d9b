-- What items touch in a folio adds up to the room of its keys, and the rooms of all folios add up to the room of all keys.
use Rattle.std.proofs.Common.{◌≡◌, ℕ, zero, suc, ◌+◌, ◌<◌, Bool, true, false, cond, ◌&&◌, ◌||◌, ◌==◌, List, [], ◌∷◌, AllPairs, filter, flat_map, get_or, length, sum_by, refl, sym, ap, subst, ◌∙◌, arith}
use Rattle.std.specs.List.{list_any, range_with_len}
use Rattle.std.specs.List.Sorted.{IsPermutation, IsStrictlySortedBy}
use Rattle.std.proofs.lemmas.Bool.{eqb-true}
use Rattle.std.proofs.lemmas.Bool.Decides.{nat_tests}
use Rattle.std.proofs.lemmas.List.Folds.{list_any-append}
use Rattle.std.proofs.lemmas.List.Sorted.{list_any-IsPermutation, sum_by-IsPermutation}
use Rattle.std.proofs.lemmas.List.Sums.{sum_by-append, sum_by-cons}
use Rattle.gb_base.specs.Keys.{folio_of_key, key_cmp, same_key}
use Rattle.gb_base.specs.declared.keys.Key.{Key}
use Rattle.act_model.proofs.KeyOrder.{in_key_order_sorted, not_above_itself, same_is}
use Rattle.act_model.specs.declared.receipts.Receipt.{Receipt}
use Rattle.conflict_queue.proofs.SaleKeys.{in_order_has}
use Rattle.conflict_queue.specs.Dockets.{has_key, keys_touched}
use Rattle.conflict_queue.specs.ItemKeys.{keys_of_item}
use Rattle.desk_pool.proofs.Turns.{key_untouched}
use Rattle.desk_pool.specs.FolioQueues.{is_key_of, queue_of, touches_folio}
use Rattle.desk_pool.specs.RoundRooms.{room_for, room_of_first}
use Rattle.desk_pool.specs.declared.folio_parts.KeyRoom.{KeyRoom}
use Rattle.desk_pool.specs.declared.folio_queues.FolioQueue.{FolioQueue}
use Rattle.desk_pool.specs.inner.AllQueues.{AreAllQueues}
use Rattle.desk_pool.specs.inner.RoomsCounted.{is_listed, keys_with_room, room_if, room_of_folio, rooms_of_items, sum_at}
use Rattle.folio_sections.specs.Held.{is_given}
use Rattle.registrar.specs.HeldKeys.{keys_of_first}

-- the key is of the folio
abbrev is_own : ℕ → Key → Bool
is_own folio k = folio_of_key k == folio

none_of : (c : Bool) → (c && false) ≡ false
none_of true = refl
none_of false = refl

either_way : (c : Bool) (n : ℕ) → cond c n n ≡ n
either_way true n = refl
either_way false n = refl

-- ---- the keys of one item

as_its_like : (folio : ℕ) (j k : Key) (b : Bool) → same_key j k ≡ true → is_own folio j ≡ b → is_own folio k ≡ b
as_its_like folio j k b same is = ap (is_own folio) (sym (same_is j k same)) ∙ is

one_listed : (ks : List Key) (folio room : ℕ) (k : Key) → is_listed (keys_with_room ks folio room) k ≡ (is_own folio k && has_key k ks)
one_listed [] folio room k = sym (none_of (is_own folio k))
one_listed (j ∷ js) folio room k =
    let rest = keys_with_room js folio room in
    let later = one_listed js folio room k in
    elim (is_own folio j) as (λ a. is_own folio j ≡ a → is_listed (cond a (record { key = j; room = room } ∷ rest) rest) k ≡ (is_own folio k && (same_key j k || has_key k js))) [
      | true ↦ λ ours.
          elim (same_key j k) as (λ b. same_key j k ≡ b → (b || is_listed rest k) ≡ (is_own folio k && (b || has_key k js))) [
            | true ↦ λ same. sym (ap (λ c. c && true) (as_its_like folio j k true same ours))
            | false ↦ λ other. later
          ] refl
      | false ↦ λ theirs.
          elim (same_key j k) as (λ b. same_key j k ≡ b → is_listed rest k ≡ (is_own folio k && (b || has_key k js))) [
            | true ↦ λ same. let no = as_its_like folio j k false same theirs in later ∙ ap (λ c. c && has_key k js) no ∙ sym (ap (λ c. c && true) no)
            | false ↦ λ other. later
          ] refl
    ] refl

one_sum : (ks : List Key) (folio room : ℕ) (k : Key) → IsStrictlySortedBy key_cmp ks → sum_at (keys_with_room ks folio room) k ≡ cond (is_own folio k && has_key k ks) room 0
unfolding IsStrictlySortedBy
one_sum [] folio room k sorted = sym (ap (λ b. cond b room 0) (none_of (is_own folio k)))
one_sum (j ∷ js) folio room k sorted =
    let rest = keys_with_room js folio room in
    let later = one_sum js folio room k sorted.1 in
    elim (is_own folio j) as (λ a. is_own folio j ≡ a → sum_at (cond a (record { key = j; room = room } ∷ rest) rest) k ≡ cond (is_own folio k && (same_key j k || has_key k js)) room 0) [
      | true ↦ λ ours.
          sum_by-cons (λ r. room_if r.key r.room k) (record { key = j; room = room }) rest
          ∙ elim (same_key j k) as (λ b. same_key j k ≡ b → cond b room 0 + sum_at rest k ≡ cond (is_own folio k && (b || has_key k js)) room 0) [
            | true ↦ λ same.
                let no_more : has_key k js ≡ false = subst (λ x. has_key x js ≡ false) (same_is j k same) (not_above_itself j js sorted.0) in
                let none : sum_at rest k ≡ 0 = later ∙ ap (λ h. cond (is_own folio k && h) room 0) no_more ∙ ap (λ b. cond b room 0) (none_of (is_own folio k)) in
                let whole : cond (is_own folio k && true) room 0 ≡ room = ap (λ c. cond (c && true) room 0) (as_its_like folio j k true same ours) in
                omega (arith, none, whole)
            | false ↦ λ other. omega (arith, later)
          ] refl
      | false ↦ λ theirs.
          elim (same_key j k) as (λ b. same_key j k ≡ b → sum_at rest k ≡ cond (is_own folio k && (b || has_key k js)) room 0) [
            | true ↦ λ same. let no = as_its_like folio j k false same theirs in later ∙ ap (λ c. cond (c && has_key k js) room 0) no ∙ sym (ap (λ c. cond (c && true) room 0) no)
            | false ↦ λ other. later
          ] refl
    ] refl

-- ---- item by item

-- an item that does not touch the folio has no key of it
untouched : (journal : List Receipt) (folio n : ℕ) (k : Key) → touches_folio journal folio n ≡ false → (is_own folio k && has_key k (keys_of_item journal n)) ≡ false
untouched journal folio n k none =
    elim (is_own folio k) as (λ c. is_own folio k ≡ c → (c && has_key k (keys_of_item journal n)) ≡ false) [
      | true ↦ λ is. key_untouched journal folio n k (eqb-true (folio_of_key k) folio is) none
      | false ↦ λ _. refl
    ] refl

both_of : (c h r : Bool) → ((c && h) || (c && r)) ≡ (c && (h || r))
both_of true h r = refl
both_of false h r = refl

without : (c h r : Bool) → (c && h) ≡ false → (c && r) ≡ (c && (h || r))
without true h r none = ap (λ b. b || r) (sym none)
without false h r none = refl

items_listed : (journal : List Receipt) (folio : ℕ) (k : Key) (ns : List ℕ)
    → is_listed (rooms_of_items journal folio (filter (touches_folio journal folio) ns)) k ≡ (is_own folio k && is_given (flat_map (keys_of_item journal) ns) k)
items_listed journal folio k [] = sym (none_of (is_own folio k))
items_listed journal folio k (n ∷ ns) =
    let those = filter (touches_folio journal folio) ns in
    let later = items_listed journal folio k ns in
    let has = has_key k (keys_of_item journal n) in
    let rest = is_given (flat_map (keys_of_item journal) ns) k in
    let given = list_any-append (λ j. same_key j k) (keys_of_item journal n) (flat_map (keys_of_item journal) ns) in
    elim (touches_folio journal folio n) as (λ b. touches_folio journal folio n ≡ b → is_listed (rooms_of_items journal folio (cond b (n ∷ those) those)) k ≡ (is_own folio k && (has || rest))) [
      | true ↦ λ _.
          list_any-append (λ r. same_key r.key k) (keys_with_room (keys_touched journal n) folio (room_for journal n)) (rooms_of_items journal folio those)
          ∙ (λ i. one_listed (keys_touched journal n) folio (room_for journal n) k i || later i)
          ∙ ap (λ h. (is_own folio k && h) || (is_own folio k && rest)) (in_order_has k (keys_of_item journal n))
          ∙ both_of (is_own folio k) has rest
      | false ↦ λ none. later ∙ without (is_own folio k) has rest (untouched journal folio n k none)
    ] refl
    ∙ ap (λ b. is_own folio k && b) (sym given)

joined : (c h : Bool) (a s : ℕ) → cond (c && h) a 0 + cond c s 0 ≡ cond c (cond h a 0 + s) 0
joined true h a s = refl
joined false h a s = refl

unchanged : (c h : Bool) (a s : ℕ) → (c && h) ≡ false → cond c s 0 ≡ cond c (cond h a 0 + s) 0
unchanged true h a s none = let is = ap (λ b. cond b a 0) none in omega (arith, is)
unchanged false h a s none = refl

sum_of : (f : ℕ → ℕ) (b : Bool) (n : ℕ) (ns : List ℕ) → sum_by f (cond b (n ∷ ns) ns) ≡ cond b (f n) 0 + sum_by f ns
sum_of f true n ns = sum_by-cons f n ns
sum_of f false n ns = omega arith

items_sum : (journal : List Receipt) (folio : ℕ) (k : Key) (ns : List ℕ)
    → sum_at (rooms_of_items journal folio (filter (touches_folio journal folio) ns)) k ≡ cond (is_own folio k) (sum_by (room_for journal) (filter (λ i. has_key k (keys_of_item journal i)) ns)) 0
items_sum journal folio k [] = sym (either_way (is_own folio k) 0)
items_sum journal folio k (n ∷ ns) =
    let those = filter (touches_folio journal folio) ns in
    let room = room_for journal in
    let later = items_sum journal folio k ns in
    let has = has_key k (keys_of_item journal n) in
    let theirs = filter (λ i. has_key k (keys_of_item journal i)) ns in
    elim (touches_folio journal folio n) as (λ b. touches_folio journal folio n ≡ b → sum_at (rooms_of_items journal folio (cond b (n ∷ those) those)) k ≡ cond (is_own folio k) (cond has (room n) 0 + sum_by room theirs) 0) [
      | true ↦ λ _.
          sum_by-append (λ r. room_if r.key r.room k) (keys_with_room (keys_touched journal n) folio (room n)) (rooms_of_items journal folio those)
          ∙ (λ i. one_sum (keys_touched journal n) folio (room n) k (in_key_order_sorted (keys_of_item journal n)) i + later i)
          ∙ ap (λ h. cond (is_own folio k && h) (room n) 0 + cond (is_own folio k) (sum_by room theirs) 0) (in_order_has k (keys_of_item journal n))
          ∙ joined (is_own folio k) has (room n) (sum_by room theirs)
      | false ↦ λ none. later ∙ unchanged (is_own folio k) has (room n) (sum_by room theirs) (untouched journal folio n k none)
    ] refl
    ∙ ap (λ s. cond (is_own folio k) s 0) (sym (sum_of room has n theirs))

-- ---- the items of one folio

folio_sum : (journal : List Receipt) (folio : ℕ) (items : List ℕ) (k : Key) → items ≡ queue_of journal folio → sum_at (rooms_of_items journal folio items) k ≡ room_of_folio journal folio k
folio_sum journal folio items k are = ap (λ ns. sum_at (rooms_of_items journal folio ns) k) are ∙ items_sum journal folio k (range_with_len 1 (length journal))

folio_listed : (journal : List Receipt) (folio : ℕ) (items : List ℕ) (k : Key) → items ≡ queue_of journal folio → is_listed (rooms_of_items journal folio items) k ≡ is_key_of journal folio k
folio_listed journal folio items k are = ap (λ ns. is_listed (rooms_of_items journal folio ns) k) are ∙ items_listed journal folio k (range_with_len 1 (length journal))

pub of_sorted : (journal : List Receipt) (folio : ℕ) (items : List ℕ) (list sorted : List KeyRoom) (k : Key) → items ≡ queue_of journal folio → list ≡ rooms_of_items journal folio items → IsPermutation list sorted
    → (sum_at sorted k ≡ room_of_folio journal folio k) × (is_listed sorted k ≡ is_key_of journal folio k)
of_sorted journal folio items list sorted k are listed permutation = (
  sum_by-IsPermutation (λ r. room_if r.key r.room k) list sorted permutation ∙ ap (λ rs. sum_at rs k) listed ∙ folio_sum journal folio items k are,
  sym (list_any-IsPermutation (λ r. same_key r.key k) list sorted permutation) ∙ ap (λ rs. is_listed rs k) listed ∙ folio_listed journal folio items k are,
)

-- ---- all folios

-- the room that the items keep at a key, counted over the folios of these queues
abbrev pub room_of_folios : List Receipt → List FolioQueue → Key → ℕ
room_of_folios journal queues k = sum_by (λ q. room_of_folio journal q.folio k) queues

-- the key is one of the journal's, and of one of these folios
abbrev pub is_key_of_any : List Receipt → List FolioQueue → Key → Bool
is_key_of_any journal queues k = list_any (λ q. is_key_of journal q.folio k) queues

abbrev is_own_of_any : List FolioQueue → Key → Bool
is_own_of_any queues k = list_any (λ q. is_own q.folio k) queues

is_apart : (f g h : ℕ) → (f == g) ≡ true → g < h → (f == h) ≡ false
is_apart f g h is less = let same = eqb-true f g is in grind (arith, nat_tests, same, less)

no_later : (qs : List FolioQueue) (folio : ℕ) (k : Key) → is_own folio k ≡ true → ((i : ℕ) (d : FolioQueue) → i < length qs → folio < (get_or qs i d).folio) → is_own_of_any qs k ≡ false
no_later [] folio k is later = refl
no_later (q ∷ qs) folio k is later =
    ap (λ b. b || is_own_of_any qs k) (is_apart (folio_of_key k) folio q.folio is (later zero q (omega arith)))
    ∙ no_later qs folio k is (λ i d within. later (suc i) d (omega (arith, within)))

all_sum : (journal : List Receipt) (qs : List FolioQueue) (k : Key) → AllPairs (λ q later. q.folio < later.folio) qs
    → room_of_folios journal qs k ≡ cond (is_own_of_any qs k) (room_of_first journal (length journal) k) 0
all_sum journal [] k rise = refl
all_sum journal (q ∷ qs) k rise =
    let room = room_of_first journal (length journal) k in
    let rest = all_sum journal qs k (λ i j d less within. rise (suc i) (suc j) d (omega (arith, less)) (omega (arith, within))) in
    sum_by-cons (λ x. room_of_folio journal x.folio k) q qs
    ∙ elim (is_own q.folio k) as (λ b. is_own q.folio k ≡ b → cond b room 0 + room_of_folios journal qs k ≡ cond (b || is_own_of_any qs k) room 0) [
      | true ↦ λ is.
          let none = rest ∙ ap (λ b. cond b room 0) (no_later qs q.folio k is (λ i d within. rise zero (suc i) d (omega arith) (omega (arith, within)))) in
          omega (arith, none)
      | false ↦ λ _. omega (arith, rest)
    ] refl

all_keys : (journal : List Receipt) (qs : List FolioQueue) (k : Key) → is_key_of_any journal qs k ≡ (is_own_of_any qs k && is_given (keys_of_first journal (length journal)) k)
all_keys journal [] k = refl
all_keys journal (q ∷ qs) k =
    let given = is_given (keys_of_first journal (length journal)) k in
    ap (λ b. (is_own q.folio k && given) || b) (all_keys journal qs k) ∙ either_of (is_own q.folio k) (is_own_of_any qs k) given
  where
    either_of : (a b g : Bool) → ((a && g) || (b && g)) ≡ ((a || b) && g)
    either_of true true true = refl
    either_of true true false = refl
    either_of true false true = refl
    either_of true false false = refl
    either_of false b g = refl

-- the items keep no room where none of them has the key
none_kept : (journal : List Receipt) (k : Key) (ns : List ℕ) → is_given (flat_map (keys_of_item journal) ns) k ≡ false → sum_by (room_for journal) (filter (λ i. has_key k (keys_of_item journal i)) ns) ≡ 0
none_kept journal k [] none = refl
none_kept journal k (n ∷ ns) none =
    let theirs = filter (λ i. has_key k (keys_of_item journal i)) ns in
    let both = sym (list_any-append (λ j. same_key j k) (keys_of_item journal n) (flat_map (keys_of_item journal) ns)) ∙ none in
    elim (has_key k (keys_of_item journal n)) as (λ b. (b || is_given (flat_map (keys_of_item journal) ns) k) ≡ false → sum_by (room_for journal) (cond b (n ∷ theirs) theirs) ≡ 0) [
      | true ↦ λ h. absurd (cc h)
      | false ↦ λ h. none_kept journal k ns h
    ] both

module _ (journal : List Receipt) (queues : List FolioQueue) (k : Key) (are : AreAllQueues journal queues) where
  found : is_given (keys_of_first journal (length journal)) k ≡ true → is_own_of_any queues k ≡ true
  found given = are.all k given

  pub all_counted : room_of_folios journal queues k ≡ room_of_first journal (length journal) k
  all_counted =
      let room = room_of_first journal (length journal) k in
      let whole = all_sum journal queues k are.ascending in
      elim (is_given (keys_of_first journal (length journal)) k) as (λ b. is_given (keys_of_first journal (length journal)) k ≡ b → room_of_folios journal queues k ≡ room) [
        | true ↦ λ given. whole ∙ ap (λ b. cond b room 0) (found given)
        | false ↦ λ none.
            let is = none_kept journal k (range_with_len 1 (length journal)) none in
            whole ∙ ap (λ r. cond (is_own_of_any queues k) r 0) is ∙ either_way (is_own_of_any queues k) 0 ∙ sym is
      ] refl

  pub all_given : is_key_of_any journal queues k ≡ is_given (keys_of_first journal (length journal)) k
  all_given =
      let given = is_given (keys_of_first journal (length journal)) k in
      all_keys journal queues k
      ∙ elim given as (λ b. given ≡ b → (is_own_of_any queues k && b) ≡ b) [
        | true ↦ λ is. ap (λ b. b && true) (found is)
        | false ↦ λ _. none_of (is_own_of_any queues k)
      ] refl
