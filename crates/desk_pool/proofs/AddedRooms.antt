-- A list of keys with rooms is added run by run.
use Rattle.std.proofs.Common.{◌≡◌, ℕ, ◌+◌, ◌<◌, Bool, true, false, cond, ◌||◌, List, drop, get_or, length, refl, sym, ap, ◌∙◌, arith}
use Rattle.std.specs.BTreeMap.{BTreeMap}
use Rattle.std.proofs.lemmas.List.Sums.{sum_by-cons}
use Rattle.gb_base.specs.Keys.{same_key}
use Rattle.gb_base.specs.declared.keys.Key.{Key}
use Rattle.desk_pool.proofs.CountedRooms.{cut}
use Rattle.desk_pool.specs.declared.folio_parts.KeyRoom.{KeyRoom}
use Rattle.desk_pool.specs.inner.KeyRooms.{room_in}
use Rattle.desk_pool.specs.inner.RoomsCounted.{is_listed, room_if, sum_at}

-- ---- the next key of a list

pub sum_next : (list : List KeyRoom) (i : ℕ) (r : KeyRoom) (k : Key) → i < length list → r ≡ get_or list i r → sum_at (drop i list) k ≡ room_if r.key r.room k + sum_at (drop (i + 1) list) k
sum_next list i r k within is = ap (λ rs. sum_at rs k) (cut list i r within is) ∙ sum_by-cons (λ x. room_if x.key x.room k) r (drop (i + 1) list)

pub listed_next : (list : List KeyRoom) (i : ℕ) (r : KeyRoom) (k : Key) → i < length list → r ≡ get_or list i r → is_listed (drop i list) k ≡ (same_key r.key k || is_listed (drop (i + 1) list) k)
listed_next list i r k within is = ap (λ rs. is_listed rs k) (cut list i r within is)

-- ---- where the next one is another key, the sum in hand is added

pub more_room : (b : Bool) (kept room : ℕ) → cond b (kept + room) kept ≡ kept + cond b room 0
more_room true kept room = refl
more_room false kept room = omega arith

pub next_run : (before after : BTreeMap Key ℕ) (key now : Key) (sum had : ℕ) (r : KeyRoom) (k : Key) → room_in after k ≡ cond (same_key key k) (room_in before k + sum) (room_in before k) → now ≡ r.key → had ≡ 0
    → room_in after k + room_if now (had + r.room) k ≡ room_in before k + room_if key sum k + room_if r.key r.room k
next_run before after key now sum had r k added is none =
    let more = added ∙ more_room (same_key key k) (room_in before k) sum in
    let alone : had + r.room ≡ r.room = omega (arith, none) in
    let in_hand : room_if now (had + r.room) k ≡ room_if r.key r.room k = λ j. room_if (is j) (alone j) k in
    omega (arith, more, in_hand)

pub in_turn : (a b c d : Bool) → ((a || b) || (c || d)) ≡ (a || (b || (c || d)))
in_turn true b c d = refl
in_turn false b c d = refl

-- ---- where the next one is the same key, its room is added to the sum in hand

both_kept : (b : Bool) (sum room : ℕ) → cond b (sum + room) 0 ≡ cond b sum 0 + cond b room 0
both_kept true sum room = refl
both_kept false sum room = refl

pub same_run : (key now : Key) (sum had : ℕ) (r : KeyRoom) (k : Key) → now ≡ key → had ≡ sum → r.key ≡ key → room_if now (had + r.room) k ≡ room_if key sum k + room_if r.key r.room k
same_run key now sum had r k is has same =
    (λ j. room_if (is j) (has j + r.room) k) ∙ both_kept (same_key key k) sum r.room ∙ ap (λ x. room_if key sum k + room_if x r.room k) (sym same)

pub once_only : (a b c : Bool) → (a || (b || c)) ≡ (a || (b || (b || c)))
once_only a true c = refl
once_only a false c = refl
