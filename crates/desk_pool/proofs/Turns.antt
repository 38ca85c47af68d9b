-- Whose turn it is in a queue: the numbers of a row that pass a test, in their order.
use Rattle.std.proofs.Common.{◌≡◌, ⊎_elim, ℕ, zero, suc, ◌+◌, ◌-◌, ◌<◌, ◌≤◌, Bool, true, false, cond, ◌||◌, ◌==◌, List, [], ◌∷◌, length, filter, Some, None, slice_get, refl, sym, ap, subst, ◌∙◌, arith}
use Rattle.std.specs.List.{list_any, range_with_len}
use Rattle.std.specs.Option.{option_map_or}
use Rattle.std.proofs.lemmas.Bool.{cases_lt, eqb-true, false≢true}
use Rattle.std.proofs.lemmas.Bool.Decides.{nat_tests}
use Rattle.gb_base.specs.Keys.{folio_of_key, same_key}
use Rattle.gb_base.specs.declared.keys.Key.{Key}
use Rattle.act_model.proofs.KeyOrder.{same_is}
use Rattle.act_model.specs.declared.receipts.Receipt.{Receipt}
use Rattle.conflict_queue.specs.Dockets.{has_key}
use Rattle.conflict_queue.specs.ItemKeys.{keys_of_item}
use Rattle.desk_pool.specs.FolioQueues.{is_next, last_taken, queue_of, touches_folio}

-- the number at place t, or 0 where there is none
abbrev number_at : List ℕ → ℕ → ℕ
number_at ns t = option_map_or (λ m. m) (slice_get ns t) 0

-- Number i stands at place t of those numbers of a row that pass: it is in the row, and no number passes between it and the one at the place before.
record IsNext (p : ℕ → Bool) (ns : List ℕ) (b a n t i : ℕ) : Type 0 where
  low : a ≤ i
  high : i < a + n
  passes : p i ≡ true
  after : number_at (b ∷ ns) t < i
  none : (m : ℕ) → number_at (b ∷ ns) t < m → m < i → p m ≡ false

-- where the first of a row passes, it is the next itself, or one of the others is
passing : (p : ℕ → Bool) (ns : List ℕ) (b a n t i : ℕ) → p a ≡ true → b < a → ((j : ℕ) → b < j → j < a → p j ≡ false)
    → ((s : ℕ) → slice_get ns s ≡ Some i → IsNext p ns a (a + 1) n s i) → slice_get (a ∷ ns) t ≡ Some i → IsNext p (a ∷ ns) b a (suc n) t i
passing p ns b a n zero i is low fails later got =
    let here : a ≡ i = grind (arith, got) in
    record {
      low = omega (arith, here);
      high = omega (arith, here);
      passes = ap p (sym here) ∙ is;
      after = omega (arith, here, low);
      none = λ m above below. fails m above (omega (arith, here, below));
    }
passing p ns b a n (suc t) i is low fails later got =
    let rest = later t got in
    record { low = omega (arith, rest.low); high = omega (arith, rest.high); passes = rest.passes; after = rest.after; none = rest.none }

next : (p : ℕ → Bool) (b a n t i : ℕ) → b < a → ((j : ℕ) → b < j → j < a → p j ≡ false) → slice_get (filter p (range_with_len a n)) t ≡ Some i
    → IsNext p (filter p (range_with_len a n)) b a n t i
next p b a zero t i low fails got = absurd (grind (arith, got))
next p b a (suc n) t i low fails got =
    elim (p a) as (λ v. p a ≡ v → slice_get (cond v (a ∷ filter p (range_with_len (a + 1) n)) (filter p (range_with_len (a + 1) n))) t ≡ Some i
    → IsNext p (cond v (a ∷ filter p (range_with_len (a + 1) n)) (filter p (range_with_len (a + 1) n))) b a (suc n) t i) [
      | true ↦ λ is there.
          passing p (filter p (range_with_len (a + 1) n)) b a n t i is low fails
          (λ s. next p a (a + 1) n s i (omega arith) (λ j above below. absurd (omega (arith, above, below)))) there
      | false ↦ λ is there.
          let rest = next p b (a + 1) n t i (omega (arith, low))
          (λ j above below. ⊎_elim (λ less. fails j above less) (λ no. ap p (omega (arith, no, below)) ∙ is) (cases_lt j a)) there in
          record { low = omega (arith, rest.low); high = omega (arith, rest.high); passes = rest.passes; after = rest.after; none = rest.none }
    ] refl got

not_second : (x y : Bool) → (x || y) ≡ false → y ≡ false
not_second true y h = absurd (false≢true (sym h))
not_second false y h = h

-- where no element passes a test, none passes a stricter one
any_wider : {X : Type 0} (p q : X → Bool) → ((x : X) → p x ≡ true → q x ≡ true) → (xs : List X) → list_any q xs ≡ false → list_any p xs ≡ false
any_wider p q wider [] none = refl
any_wider p q wider (x ∷ xs) none =
    elim (p x) as (λ v. p x ≡ v → (v || list_any p xs) ≡ false) [
      | true ↦ λ is. absurd (false≢true (sym (sym (ap (λ w. w || list_any q xs) (wider x is)) ∙ none)))
      | false ↦ λ is. any_wider p q wider xs (not_second (q x) (list_any q xs) none)
    ] refl

-- ---- a folio's queue

-- The item is the next of the folio: it touches the folio, and no item between it and the last that is settled does.
pub record TurnComes (journal : List Receipt) (folio taken i : ℕ) : Type 0 where
  pub low : 1 ≤ i
  pub high : i ≤ length journal
  pub touches : touches_folio journal folio i ≡ true
  pub before : last_taken (queue_of journal folio) taken ≤ i - 1
  pub none : (m : ℕ) → last_taken (queue_of journal folio) taken < m → m ≤ i - 1 → touches_folio journal folio m ≡ false
  pub taken_next : last_taken (queue_of journal folio) (taken + 1) ≡ i

pub turn_comes : (journal : List Receipt) (folio taken i : ℕ) → slice_get (queue_of journal folio) taken ≡ Some i → TurnComes journal folio taken i
turn_comes journal folio taken i got =
    let found = next (touches_folio journal folio) 0 1 (length journal) taken i (omega arith) (λ j above below. absurd (omega (arith, above, below))) got in
    let low = found.low in
    let one_more : taken + 1 ≡ suc taken = omega arith in
    record {
      low = found.low;
      high = omega (arith, found.high);
      touches = found.passes;
      before = omega (arith, found.after);
      none = λ m above below. found.none m above (omega (arith, below, low));
      taken_next = ap (number_at (0 ∷ queue_of journal folio)) one_more ∙ ap (λ o. option_map_or (λ m. m) o 0) got;
    }

-- the test says that the item stands at its place in the queue
pub next_found : (queue : List ℕ) (taken i : ℕ) → is_next queue taken i ≡ true → slice_get queue taken ≡ Some i
next_found queue taken i =
    elim (slice_get queue taken) as (λ o. option_map_or (λ n. n == i) o false ≡ true → o ≡ Some i) [
      | Some n ↦ λ is. ap (λ m. Some m) (eqb-true n i is)
      | None ↦ λ is. absurd (false≢true is)
    ]

-- ---- a folio that is done

-- In a row, no number passes after the last one that does.
record IsLast (p : ℕ → Bool) (ns : List ℕ) (b a n : ℕ) : Type 0 where
  high : number_at (b ∷ ns) (length ns) < a + n
  none : (m : ℕ) → number_at (b ∷ ns) (length ns) < m → m < a + n → p m ≡ false

last : (p : ℕ → Bool) (b a n : ℕ) → b < a → ((j : ℕ) → b < j → j < a → p j ≡ false) → IsLast p (filter p (range_with_len a n)) b a n
last p b a zero low fails = record { high = omega (arith, low); none = λ m above below. fails m above (omega (arith, below)) }
last p b a (suc n) low fails =
    elim (p a) as (λ v. p a ≡ v → IsLast p (cond v (a ∷ filter p (range_with_len (a + 1) n)) (filter p (range_with_len (a + 1) n))) b a (suc n)) [
      | true ↦ λ is.
          let rest = last p a (a + 1) n (omega arith) (λ j above below. absurd (omega (arith, above, below))) in
          record { high = let high = rest.high in omega (arith, high); none = λ m above below. rest.none m above (omega (arith, below)) }
      | false ↦ λ is.
          let rest = last p b (a + 1) n (omega (arith, low))
          (λ j above below. ⊎_elim (λ less. fails j above less) (λ no. ap p (omega (arith, no, below)) ∙ is) (cases_lt j a)) in
          record { high = let high = rest.high in omega (arith, high); none = λ m above below. rest.none m above (omega (arith, below)) }
    ] refl

-- No item of the journal after the folio's last touches it.
pub record IsDone (journal : List Receipt) (folio taken : ℕ) : Type 0 where
  pub within : last_taken (queue_of journal folio) taken ≤ length journal
  pub none : (m : ℕ) → last_taken (queue_of journal folio) taken < m → m ≤ length journal → touches_folio journal folio m ≡ false

pub all_done : (journal : List Receipt) (folio taken : ℕ) → taken ≡ length (queue_of journal folio) → IsDone journal folio taken
all_done journal folio taken is =
    let found = last (touches_folio journal folio) 0 1 (length journal) (omega arith) (λ j above below. absurd (omega (arith, above, below))) in
    subst (IsDone journal folio) (sym is)
    (record { within = let high = found.high in omega (arith, high); none = λ m above below. found.none m above (omega (arith, below)) })

-- an item that does not touch the folio touches none of its keys
pub key_untouched : (journal : List Receipt) (folio m : ℕ) (k : Key) → folio_of_key k ≡ folio → touches_folio journal folio m ≡ false → has_key k (keys_of_item journal m) ≡ false
key_untouched journal folio m k own none =
    any_wider (λ j. same_key j k) (λ j. folio_of_key j == folio) (λ j same. ap (λ l. folio_of_key l == folio) (same_is j k same) ∙ ap (λ f. f == folio) own ∙ grind (arith, nat_tests)) (keys_of_item journal m) none
