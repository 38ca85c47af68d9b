-- Lists in which a test holds of no element and a later one.
use Rattle.std.proofs.Common.{◌≡◌, ℕ, zero, suc, ◌+◌, ◌<◌, Bool, true, false, cond, List, [], ◌∷◌, ◌++◌, filter, filter_map, flat_map, map, Option, Some, None, inl, inr, refl, sym, ap, subst, ◌∙◌, ⊎_elim, arith}
use Rattle.std.specs.List.{AllByRecursion, IsDistinct, cons_option, range_with_len}
use Rattle.gb_base.proofs.Members.{In, of_flat_map, of_map, of_range}
use Rattle.folio_sections.proofs.FilteredLists.{all_filtered, all_in, in_all, of_filter_map}
use Rattle.folio_sections.proofs.Unchanged.{all_both}

-- where the test holds of no two elements, the list is distinct
pub distinct_by : {X : Type 0} (e : X → X → Bool) (xs : List X) → ((x y : X) → In x xs → In y xs → e x y ≡ false) → IsDistinct e xs
unfolding IsDistinct
distinct_by e [] apart = tt
distinct_by e (x ∷ xs) apart =
    (all_in (λ y. e x y ≡ false) xs (λ y there. apart x y (inl refl) (inr there)), distinct_by e xs (λ a b here there. apart a b (inr here) (inr there)))

-- a list that is distinct by a test is so by a stronger one
pub distinct_weaker : {X : Type 0} (d e : X → X → Bool) (xs : List X) → IsDistinct d xs → ((x y : X) → In x xs → In y xs → d x y ≡ false → e x y ≡ false) → IsDistinct e xs
unfolding IsDistinct
distinct_weaker d e [] apart weaker = tt
distinct_weaker {X} d e (x ∷ xs) apart weaker =
    (behind xs apart.0 (λ y there. weaker x y (inl refl) (inr there)), distinct_weaker d e xs apart.1 (λ a b here there. weaker a b (inr here) (inr there)))
  where
    behind : (ys : List X) → AllByRecursion (λ y. d x y ≡ false) ys → ((y : X) → In y ys → d x y ≡ false → e x y ≡ false) → AllByRecursion (λ y. e x y ≡ false) ys
    behind [] all each = tt
    behind (y ∷ ys) all each = (each y (inl refl) all.0, behind ys all.1 (λ z there. each z (inr there)))

pub distinct_append : {X : Type 0} (e : X → X → Bool) (xs ys : List X) → IsDistinct e xs → IsDistinct e ys → ((x y : X) → In x xs → In y ys → e x y ≡ false) → IsDistinct e (xs ++ ys)
unfolding IsDistinct
distinct_append e [] ys first second apart = second
distinct_append e (x ∷ xs) ys first second apart = (
  all_both (λ y. e x y ≡ false) xs ys first.0 (all_in (λ y. e x y ≡ false) ys (λ y there. apart x y (inl refl) there)),
  distinct_append e xs ys first.1 second (λ a b here there. apart a b (inr here) there),
)

pub distinct_filter : {X : Type 0} (e : X → X → Bool) (p : X → Bool) (xs : List X) → IsDistinct e xs → IsDistinct e (filter p xs)
unfolding IsDistinct
distinct_filter e p [] apart = tt
distinct_filter e p (x ∷ xs) apart =
    elim (p x) as (λ b. IsDistinct e (cond b (x ∷ filter p xs) (filter p xs))) [
      | true ↦ (all_filtered (λ y. e x y ≡ false) p xs apart.0, distinct_filter e p xs apart.1)
      | false ↦ distinct_filter e p xs apart.1
    ]

-- the lists that the numbers of a row give, one after another
pub distinct_flat : {X : Type 0} (e : X → X → Bool) (f : ℕ → List X) → ((k : ℕ) → IsDistinct e (f k)) → ((k l : ℕ) (x y : X) → k < l → In x (f k) → In y (f l) → e x y ≡ false)
    → (a n : ℕ) → IsDistinct e (flat_map f (range_with_len a n))
unfolding IsDistinct
distinct_flat e f each later a zero = tt
distinct_flat e f each later a (suc n) =
    distinct_append e (f a) (flat_map f (range_with_len (a + 1) n)) (each a) (distinct_flat e f each later (a + 1) n)
    (λ x y here there.
    let from = of_flat_map f (range_with_len (a + 1) n) y there in
    let above : a < from.0 = omega (arith, (of_range (a + 1) n from.0 from.1).0) in
    later a from.0 x y above here from.2)

-- what each number of a row is mapped to
pub distinct_mapped : {X : Type 0} (e : X → X → Bool) (g : ℕ → X) → ((k l : ℕ) → k < l → e (g k) (g l) ≡ false) → (a n : ℕ) → IsDistinct e (map g (range_with_len a n))
unfolding IsDistinct
distinct_mapped e g later a zero = tt
distinct_mapped {X} e g later a (suc n) =
    let rest : List X = map g (range_with_len (a + 1) n) in (
      all_in (λ y. e (g a) y ≡ false) rest (λ y there.
          let from = of_map g (range_with_len (a + 1) n) y there in
          let above : a < from.0 = omega (arith, (of_range (a + 1) n from.0 from.1).0) in
          subst (λ z. e (g a) z ≡ false) from.2 (later a from.0 above)),
      distinct_mapped e g later (a + 1) n,
    )

-- what the elements give, where they give something
pub distinct_given : {X Y : Type 0} (d : X → X → Bool) (e : Y → Y → Bool) (h : X → Option Y) (xs : List X) → IsDistinct d xs
    → ((a b : X) (x y : Y) → In a xs → In b xs → d a b ≡ false → h a ≡ Some x → h b ≡ Some y → e x y ≡ false) → IsDistinct e (filter_map h xs)
unfolding IsDistinct
distinct_given d e h [] apart gives = tt
distinct_given {X} {Y} d e h (a ∷ xs) apart gives =
    let behind : IsDistinct e (filter_map h xs) = distinct_given d e h xs apart.1 (λ b c x y here there. gives b c x y (inr here) (inr there)) in
    elim (h a) as (λ o. h a ≡ o → IsDistinct e (cons_option o (filter_map h xs))) [
      | None ↦ λ _. behind
      | Some x ↦ λ is. (all_in (λ y. e x y ≡ false) (filter_map h xs) (λ y there. next x y is (of_filter_map h xs y there)), behind)
    ] refl
  where
    next : (x y : Y) → h a ≡ Some x → (b : X) × In b xs × (h b ≡ Some y) → e x y ≡ false
    next x y is from = gives a from.0 x y (inl refl) (inr from.1) (in_all (λ b. d a b ≡ false) xs from.0 apart.0 from.1) is from.2

-- what the elements give that the numbers of a row are mapped to

pub distinct_row : {X Y : Type 0} (e : Y → Y → Bool) (g : ℕ → X) (h : X → Option Y) → ((k l : ℕ) (x y : Y) → k < l → h (g k) ≡ Some x → h (g l) ≡ Some y → e x y ≡ false)
    → (a n : ℕ) → IsDistinct e (filter_map h (map g (range_with_len a n)))
unfolding IsDistinct
distinct_row e g h later a zero = tt
distinct_row {X} {Y} e g h later a (suc n) =
    let rest : List Y = filter_map h (map g (range_with_len (a + 1) n)) in
    let behind : IsDistinct e rest = distinct_row e g h later (a + 1) n in
    elim (h (g a)) as (λ o. h (g a) ≡ o → IsDistinct e (cons_option o rest)) [
      | None ↦ λ _. behind
      | Some x ↦ λ is. (all_in (λ y. e x y ≡ false) rest (λ y there. next x y is there), behind)
    ] refl
  where
    next : (x y : Y) → h (g a) ≡ Some x → In y (filter_map h (map g (range_with_len (a + 1) n))) → e x y ≡ false
    next x y is there =
        let from = of_filter_map h (map g (range_with_len (a + 1) n)) y there in
        let number = of_map g (range_with_len (a + 1) n) from.0 from.1 in
        let above : a < number.0 = omega (arith, (of_range (a + 1) n number.0 number.1).0) in
        later a number.0 x y above is (ap h number.2 ∙ from.2)

-- ---- one list

-- Two lists with the same elements are one, where the test holds of any two elements one way or the other: each ascends, and none is there twice.
pub one_distinct : {X : Type 0} (e : X → X → Bool) → ((x y : X) → e x y ≡ false → e y x ≡ false → ⊥) → (xs ys : List X) → IsDistinct e xs → IsDistinct e ys
    → ((z : X) → In z xs → In z ys) → ((z : X) → In z ys → In z xs) → xs ≡ ys
unfolding IsDistinct
one_distinct e apart [] [] first second into from = refl
one_distinct e apart [] (y ∷ ys) first second into from = absurd (from y (inl refl))
one_distinct e apart (x ∷ xs) [] first second into from = absurd (into x (inl refl))
one_distinct {X} e apart (x ∷ xs) (y ∷ ys) first second into from =
    let same : x ≡ y = ⊎_elim (λ is. sym is) (λ x_later. ⊎_elim (λ is. is) (λ y_later.
    absurd (apart x y (in_all (λ z. e x z ≡ false) xs y first.0 y_later) (in_all (λ z. e y z ≡ false) ys x second.0 x_later)))
    (from y (inl refl))) (into x (inl refl)) in
    let ahead : (z : X) (zs : List X) → (w : X) → w ≡ z → AllByRecursion (λ v. e w v ≡ false) zs → In z zs → ⊥ = λ z zs w is all there.
    let itself = subst (λ v. e v z ≡ false) is (in_all (λ v. e w v ≡ false) zs z all there) in apart z z itself itself in
    let there : (z : X) → In z xs → In z ys = λ z more. ⊎_elim (λ is. absurd (ahead z xs x (same ∙ is) first.0 more)) (λ later. later) (into z (inr more)) in
    let back : (z : X) → In z ys → In z xs = λ z more. ⊎_elim (λ is. absurd (ahead z ys y (sym same ∙ is) second.0 more)) (λ later. later) (from z (inr more)) in
    λ i. same i ∷ one_distinct e apart xs ys first.1 second.1 there back i
