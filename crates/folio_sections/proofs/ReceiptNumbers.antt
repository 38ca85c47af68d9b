-- The numbers that a receipt may have: a row of so many, which is never computed.
use Rattle.std.proofs.Common.{◌≡◌, ℕ, zero, suc, ◌+◌, ◌<◌, ◌≤◌, Bool, false, List, [], ◌++◌, flat_map, refl, sym, ap, subst, ◌∙◌, arith}
use Rattle.std.specs.List.{IsDistinct, range_with_len}
use Rattle.gb_base.proofs.Members.{In, in_range, of_range}
use Rattle.folio_sections.specs.HeldRights.{last_number, receipt_numbers}
use Rattle.folio_sections.proofs.DistinctLists.{distinct_flat}

pub numbers_are : receipt_numbers ≡ range_with_len 1 last_number
unfolding receipt_numbers
numbers_are = refl

-- ---- which they are

in_numbers : (n k : ℕ) (ms : List ℕ) → ms ≡ range_with_len 1 n → 1 ≤ k → k ≤ n → In k ms
in_numbers n k ms is from to = subst (In k) (sym is) (in_range 1 n k from (omega (arith, to)))

of_numbers : (n k : ℕ) (ms : List ℕ) → ms ≡ range_with_len 1 n → In k ms → (1 ≤ k) × (k ≤ n)
of_numbers n k ms is there =
    let within = of_range 1 n k (subst (In k) is there) in
    (within.0, omega (arith, within.1))

pub in_receipt_numbers : (k : ℕ) → 1 ≤ k → k ≤ last_number → In k receipt_numbers
in_receipt_numbers k from to = in_numbers last_number k receipt_numbers numbers_are from to

pub of_receipt_numbers : (k : ℕ) → In k receipt_numbers → (1 ≤ k) × (k ≤ last_number)
of_receipt_numbers k there = of_numbers last_number k receipt_numbers numbers_are there

-- ---- what each gives

over_row : {X : Type 0} (e : X → X → Bool) (f : ℕ → List X) → ((k : ℕ) → IsDistinct e (f k)) → ((k l : ℕ) (x y : X) → k < l → In x (f k) → In y (f l) → e x y ≡ false)
    → (n : ℕ) (ms : List ℕ) → ms ≡ range_with_len 1 n → IsDistinct e (flat_map f ms)
over_row e f each later n ms is = subst (λ xs. IsDistinct e (flat_map f xs)) (sym is) (distinct_flat e f each later 1 n)

pub distinct_over_numbers : {X : Type 0} (e : X → X → Bool) (f : ℕ → List X) → ((k : ℕ) → IsDistinct e (f k)) → ((k l : ℕ) (x y : X) → k < l → In x (f k) → In y (f l) → e x y ≡ false)
    → IsDistinct e (flat_map f receipt_numbers)
distinct_over_numbers e f each later = over_row e f each later last_number receipt_numbers numbers_are

-- where those above a number give nothing, those up to it give all
up_to : {X : Type 0} (f : ℕ → List X) (a n b : ℕ) → b ≤ n → ((m : ℕ) → a + b ≤ m → f m ≡ []) → flat_map f (range_with_len a n) ≡ flat_map f (range_with_len a b)
up_to f a zero zero within none = refl
up_to f a zero (suc b) within none = absurd (omega (arith, within))
up_to f a (suc n) zero within none =
    ap (λ xs. xs ++ flat_map f (range_with_len (a + 1) n)) (none a (omega arith)) ∙ up_to f (a + 1) n zero (omega arith) (λ m above. none m (omega (arith, above)))
up_to f a (suc n) (suc b) within none =
    ap (λ xs. f a ++ xs) (up_to f (a + 1) n b (omega (arith, within)) (λ m above. none m (omega (arith, above))))

up_to_row : {X : Type 0} (f : ℕ → List X) (b n : ℕ) (ms : List ℕ) → ms ≡ range_with_len 1 n → b ≤ n → ((m : ℕ) → b < m → f m ≡ []) → flat_map f ms ≡ flat_map f (range_with_len 1 b)
up_to_row f b n ms is within none = ap (flat_map f) is ∙ up_to f 1 n b within (λ m above. none m (omega (arith, above)))

pub numbers_up_to : {X : Type 0} (f : ℕ → List X) (b : ℕ) → b ≤ last_number → ((m : ℕ) → b < m → f m ≡ []) → flat_map f receipt_numbers ≡ flat_map f (range_with_len 1 b)
numbers_up_to f b within none = up_to_row f b last_number receipt_numbers numbers_are within none
