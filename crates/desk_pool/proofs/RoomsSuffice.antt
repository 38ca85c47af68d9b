-- The room that the items up to one keep at a key is enough for what stands there, and for the exchanges by which rights rise.
use Rattle.std.proofs.Common.{◌≡◌, ⊎_elim, ℕ, zero, suc, ◌+◌, ◌-◌, ◌≤◌, Bool, true, false, cond, List, [], ◌∷◌, ◌++◌, Option, Some, None, filter, filter_map, length, sum_by, Contains, refl, sym, ap, subst, ◌∙◌, length-append, arith}
use Rattle.std.specs.List.{cons_option, range_with_len}
use Rattle.std.proofs.lemmas.Bool.{cases_Bool}
use Rattle.std.proofs.lemmas.List.Elements.{filter-append}
use Rattle.std.proofs.lemmas.List.Sums.{sum_by-append, sum_by-cons}
use Rattle.gb_base.specs.RightNo.{RightNo}
use Rattle.gb_base.specs.declared.keys.Key.{Key}
use Rattle.gb_base.specs.declared.keys.Key.TheVariants.{Right}
use Rattle.act_model.proofs.KeyOrder.{has_decides}
use Rattle.act_model.specs.Receiving.{IsJournal}
use Rattle.act_model.specs.declared.receipts.Receipt.{Receipt}
use Rattle.conflict_queue.specs.ItemKeys.{keys_of_item}
use Rattle.folio_line.specs.Exchanges.{rise_by}
use Rattle.folio_line.specs.FolioLine.{all_rises, rises_of}
use Rattle.folio_sections.specs.Entries.{at}
use Rattle.folio_sections.specs.declared.entries.Entry.{Entry}
use Rattle.kept_registers.specs.Kept.{Kept}
use Rattle.registrar.proofs.PermittedOrders.{touches}
use Rattle.registrar.proofs.Registering.{left_by, range_more}
use Rattle.registrar.proofs.UnnoticedFew.{unnoticed_at_most}
use Rattle.registrar.specs.Brings.{brings}
use Rattle.registrar.specs.HasSettled.{settled_first}
use Rattle.registrar.specs.Rooms.{room_wanted}
use Rattle.desk_pool.proofs.ItemRoom.{receipt_takes, receipt_wants}
use Rattle.desk_pool.proofs.NothingBetween.{at_next, one_leaves}
use Rattle.desk_pool.proofs.RoomGrows.{FitWithNotices, fit_behind}
use Rattle.desk_pool.specs.RoundRooms.{room_for, room_of_first}

-- ---- the room of one item more

summed : (f : ℕ → ℕ) (b : Bool) (n : ℕ) → sum_by f (cond b (n ∷ []) []) ≡ cond b (f n) 0
summed f true n = let one = sum_by-cons f n [] in omega arith
summed f false n = refl

pub room_next : (journal : List Receipt) (n : ℕ) (k : Key) → room_of_first journal (n + 1) k ≡ room_of_first journal n k + cond (touches journal k (n + 1)) (room_for journal (n + 1)) 0
room_next journal n k =
    let those : List ℕ → List ℕ = filter (touches journal k) in
    let number : 1 + n ≡ n + 1 = omega arith in
    ap (λ ns. sum_by (room_for journal) (those ns)) (range_more 1 n ∙ ap (λ m. range_with_len 1 n ++ m ∷ []) number)
    ∙ ap (sum_by (room_for journal)) (filter-append (touches journal k) (range_with_len 1 n) ((n + 1) ∷ []))
    ∙ sum_by-append (room_for journal) (those (range_with_len 1 n)) (those ((n + 1) ∷ []))
    ∙ ap (λ more. room_of_first journal n k + more) (summed (room_for journal) (touches journal k (n + 1)) (n + 1))

grows_by : (journal : List Receipt) (n d : ℕ) (k : Key) → room_of_first journal n k ≤ room_of_first journal (n + d) k
grows_by journal n zero k = let same : room_of_first journal n k ≡ room_of_first journal (n + 0) k = ap (λ m. room_of_first journal m k) (omega arith) in omega arith
grows_by journal n (suc d) k =
    let last : (n + d) + 1 ≡ n + suc d = omega arith in
    let rest = grows_by journal n d k in
    let next = room_next journal (n + d) k in
    let same : room_of_first journal ((n + d) + 1) k ≡ room_of_first journal (n + suc d) k = ap (λ m. room_of_first journal m k) last in
    omega arith

pub room_grows : (journal : List Receipt) (n m : ℕ) (k : Key) → n ≤ m → room_of_first journal n k ≤ room_of_first journal m k
room_grows journal n m k within =
    let number : n + (m - n) ≡ m = omega arith in
    subst (λ j. room_of_first journal n k ≤ room_of_first journal j k) number (grows_by journal n (m - n) k)

-- ---- what stands at a key

module _ (journal : List Receipt) (k : Key) (stands : IsJournal journal) (empty : Kept journal (λ j. [])) where
  next_fits : (n : ℕ) → FitWithNotices (at (settled_first journal n).entries k) (room_of_first journal n k) → FitWithNotices (at (settled_first journal (n + 1)).entries k) (room_of_first journal (n + 1) k)
  next_fits n fit =
      let register = at (settled_first journal n).entries in
      let es = at (brings journal (n + 1) register).entries k in
      let left = left_by journal n stands empty in
      let room = room_of_first journal n k in
      let number = room_next journal n k in
      ⊎_elim
      (λ own.
      let whole : room_of_first journal (n + 1) k ≡ room + room_for journal (n + 1) = number ∙ ap (λ b. room + cond b (room_for journal (n + 1)) 0) own in
      subst (FitWithNotices (at (settled_first journal (n + 1)).entries k)) (sym whole)
      (subst (λ (all : List Entry). FitWithNotices all (room + room_for journal (n + 1))) (sym (at_next journal n k))
      (fit_behind (register k) es room (room_for journal (n + 1)) fit
      (receipt_takes journal (n + 1) register k stands left.settled.kept left.settled.earlier own))))
      (λ lacks.
      let whole : room_of_first journal (n + 1) k ≡ room = number ∙ ap (λ b. room + cond b (room_for journal (n + 1)) 0) lacks ∙ omega arith in
      subst (FitWithNotices (at (settled_first journal (n + 1)).entries k)) (sym whole)
      (subst (λ (all : List Entry). FitWithNotices all room) (sym (one_leaves journal k stands empty n lacks)) fit))
      (cases_Bool (touches journal k (n + 1)))

  -- the entries after the first n items, and the notices that are still to come, fit into the room that these items keep
  first_fit : (n : ℕ) → FitWithNotices (at (settled_first journal n).entries k) (room_of_first journal n k)
  first_fit zero = λ m. let none = unnoticed_at_most m [] in omega arith
  first_fit (suc n) =
      let number : n + 1 ≡ suc n = omega arith in
      subst (λ m. FitWithNotices (at (settled_first journal m).entries k) (room_of_first journal m k)) number (next_fits n (first_fit n))

  pub room_suffices : (i : ℕ) → 1 ≤ i → Contains (keys_of_item journal i) k
      → length (at (settled_first journal (i - 1)).entries k) + room_wanted journal i (at (settled_first journal (i - 1)).entries k) ≤ room_of_first journal i k
  room_suffices i low there =
      let own = (has_decides k (keys_of_item journal i)).1 there in
      let number : (i - 1) + 1 ≡ i = omega (arith, low) in
      let room = room_of_first journal (i - 1) k in
      let wants = receipt_wants journal i (at (settled_first journal (i - 1)).entries k) room k (first_fit (i - 1)) own in
      let next : room_of_first journal i k ≡ room + room_for journal i =
      subst (λ j. room_of_first journal j k ≡ room + cond (touches journal k j) (room_for journal j) 0) number (room_next journal (i - 1) k)
      ∙ ap (λ b. room + cond b (room_for journal i) 0) own in
      omega (arith, wants, next)

  -- so the entries alone fit into it
  pub entries_fit : (n : ℕ) → length (at (settled_first journal n).entries k) ≤ room_of_first journal n k
  entries_fit n = let fits = first_fit n 0 in omega arith

-- ---- exchanges

few_given : {X Y : Type 0} (f : X → Option Y) (xs : List X) → length (filter_map f xs) ≤ length xs
few_given f [] = omega arith
few_given {X} {Y} f (x ∷ xs) =
    let rest = few_given f xs in
    elim (f x) as (λ o. length (cons_option o (filter_map f xs)) ≤ suc (length xs)) [
      | Some y ↦ omega arith
      | None ↦ omega arith
    ]

rises_fit : (at0 : Key → List Entry) (folio : ℕ) (room : Key → ℕ) → ((id : RightNo) → length (at0 (Right folio id)) ≤ room (Right folio id)) → (ids : List RightNo)
    → length (all_rises at0 folio ids) ≤ sum_by (λ right. room (Right folio right)) ids
rises_fit at0 folio room fit [] = omega arith
rises_fit at0 folio room fit (id ∷ ids) =
    let both = length-append (rises_of at0 folio id) (all_rises at0 folio ids) in
    let few = few_given (λ (e : Entry). rise_by id e.receipt e.what) (at0 (Right folio id)) in
    let here = fit id in
    let rest = rises_fit at0 folio room fit ids in
    let sum = sum_by-cons (λ right. room (Right folio right)) id ids in
    omega arith

pub exchanges_fit : (journal : List Receipt) (n folio : ℕ) (ids : List RightNo) → IsJournal journal → Kept journal (λ j. [])
    → length (all_rises (at (settled_first journal n).entries) folio ids) ≤ sum_by (λ right. room_of_first journal n (Right folio right)) ids
exchanges_fit journal n folio ids stands empty =
    rises_fit (at (settled_first journal n).entries) folio (room_of_first journal n) (λ id. entries_fit journal (Right folio id) stands empty n) ids
