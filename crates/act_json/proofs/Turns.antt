-- The elements of an array, read by a loop.
use Rattle.std.proofs.Common.{◌≡◌, ℕ, ◌+◌, ◌<◌, ◌≤◌, Global, List, [], ◌∷◌, ◌++◌, length, drop, get_or, Result, Ok, Err, decimal, refl, sym, ap, ◌∙◌, append_assoc, arith}
use Rattle.std.proofs.lemmas.List.{append-nil, length_push, drop_more, drop_all}
use Rattle.std.specs.Prelude.{IsOk, OnOk, OnErr, Bool, IsTrue}
use Rattle.std.specs.List.{list_all}
use Rattle.std.proofs.lemmas.List.Folds.{list_all-append}
use Rattle.serde_json.specs.Data.{Data}
use Rattle.json.specs.declared.value.Value.{Value}
use Rattle.act_json.specs.Reading.{Read, ◌>>=◌, within, elements}
use Rattle.act_json.specs.inner.Values.{view, items_view}

-- where a result is Ok, what holds of an Ok holds
pub holds_at_ok : {T E P : Type 0} (r : Result T E) → IsOk r → OnOk r P → P
holds_at_ok (Ok x) ok holds = holds
holds_at_ok (Err e) ok holds = absurd (cc)

all_after_push : {A : Type 0} (p : A → Bool) (xs : List A) (x : A) → IsTrue (list_all p xs) → IsTrue (p x) → IsTrue (list_all p (xs ++ x ∷ []))
all_after_push p xs x all one = rw (list_all-append p xs (x ∷ []), all, one) refl

-- what holds of all elements and of one more holds of all after this one was pushed, or found no room
pub all_after_try_push : {A E : Type 0} (p : A → Bool) (r : Result (Unit {0}) E) (xs after : List A) (x : A) → OnOk r (after ≡ xs ++ x ∷ []) → OnErr r (after ≡ xs)
    → IsTrue (list_all p xs) → IsTrue (p x) → IsTrue (list_all p after)
all_after_try_push p (Ok u) xs after x pushed stays all one = rw pushed (all_after_push p xs x all one)
all_after_try_push p (Err e) xs after x pushed stays all one = rw stays all

module _ {A : Type 0} (read : Data → Read A) where
  -- what was read before, put in front of what is still read
  abbrev pub prepended : List A → Read (List A) → Read (List A)
  prepended before more = more >>= λ xs. Ok (before ++ xs)

  -- the first i elements are read, and kept where they are at most n
  pub record ReadSoFar (vs : List (Value Global)) (i n : ℕ) (kept : List A) : Type 0 where
    pub before : List A
    pub count : length before ≡ i
    pub all_kept : length before ≤ n → kept ≡ before
    pub total : prepended before (elements read i (items_view (drop i vs))) ≡ elements read 0 (items_view vs)

  unprepended : (r : Read (List A)) → prepended [] r ≡ r
  unprepended (Ok xs) = refl
  unprepended (Err path) = refl

  pub read_none : (vs : List (Value Global)) (n : ℕ) → ReadSoFar vs 0 n []
  read_none vs n = record { before = []; count = refl; all_kept = λ _. refl; total = unprepended _ }

  regrouped : (before : List A) (x : A) (r : Read (List A)) → prepended before (r >>= λ xs. Ok (x ∷ xs)) ≡ prepended (before ++ x ∷ []) r
  regrouped before x (Ok xs) = ap (λ (ys : List A). Ok ys) (simp append_assoc)
  regrouped before x (Err path) = refl

  one_read : (vs : List (Value Global)) (i : ℕ) (v : Value Global) → i < length vs → v ≡ get_or vs i v
      → elements read i (items_view (drop i vs)) ≡ (within (decimal i) (read (view v)) >>= λ x. elements read (i + 1) (items_view (drop (i + 1) vs)) >>= λ xs. Ok (x ∷ xs))
  one_read vs i v h is = rw (drop_more vs i v h, ← is) refl

  pub read_more : (vs : List (Value Global)) (i n : ℕ) (kept after : List A) (v : Value Global) (x : A) → ReadSoFar vs i n kept → i < length vs → v ≡ get_or vs i v
      → within (decimal i) (read (view v)) ≡ Ok x → (length kept < n → after ≡ kept ++ x ∷ []) → ReadSoFar vs (i + 1) n after
  read_more vs i n kept after v x so_far h is read_x push =
      let longer = length_push so_far.before x in
      let goes_on : elements read i (items_view (drop i vs)) ≡ (elements read (i + 1) (items_view (drop (i + 1) vs)) >>= λ xs. Ok (x ∷ xs)) = one_read vs i v h is ∙ rw read_x refl in
      record {
        before = so_far.before ++ x ∷ [];
        count = omega (arith, so_far.count);
        all_kept = λ few. let same = so_far.all_kept (omega arith) in push (omega (arith, ap length same)) ∙ ap (λ (ys : List A). ys ++ x ∷ []) same;
        total = sym (regrouped so_far.before x _) ∙ ap (prepended so_far.before) (sym goes_on) ∙ so_far.total;
      }

  pub read_fault : (vs : List (Value Global)) (i n : ℕ) (kept : List A) (v : Value Global) (path : List ℕ) → ReadSoFar vs i n kept → i < length vs → v ≡ get_or vs i v
      → within (decimal i) (read (view v)) ≡ Err path → elements read 0 (items_view vs) ≡ Err path
  read_fault vs i n kept v path so_far h is fault =
      let stops : elements read i (items_view (drop i vs)) ≡ Err path = one_read vs i v h is ∙ rw fault refl in
      sym so_far.total ∙ ap (prepended so_far.before) stops

  pub read_all : (vs : List (Value Global)) (i n : ℕ) (kept : List A) (so_far : ReadSoFar vs i n kept) → length vs ≤ i → elements read 0 (items_view vs) ≡ Ok so_far.before
  read_all vs i n kept so_far past = sym so_far.total ∙ rw (drop_all i vs past) (ap (λ (ys : List A). Ok ys) (append-nil so_far.before))
