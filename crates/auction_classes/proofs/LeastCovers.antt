-- The least cover of the seizures that are left, and the least of some numbers as it is found in one walk.
use Rattle.std.proofs.Common.{◌≡◌, ◌⊎◌, ℕ, ◌*◌, ◌<◌, ◌≤◌, Bool, true, ◌&&◌, IfSome, List, [], ◌∷◌, Option, Some, None, drop, min, nat_le, sum_by, take, inl, inr, refl, sym, ap, ◌∙◌, ⊎_elim, arith}
use Rattle.std.specs.List.{list_all}
use Rattle.std.proofs.Math.Nat.{min-eq_left, min-eq_right}
use Rattle.std.proofs.lemmas.Bool.{and_parts, cases_lt}
use Rattle.std.proofs.lemmas.Bool.Decides.{nat_tests}
use Rattle.gb_base.specs.Limits.{most_sum}
use Rattle.gb_base.proofs.Members.{In, find_complete}
use Rattle.rank_slots.specs.Filled.{Filled}
use Rattle.auction_classes.specs.LowestBid.{least, personal_amount}
use Rattle.auction_classes.specs.inner.Covers.{covers_from, least_from}
use Rattle.auction_classes.specs.declared.claim_items.SeizedFor.{SeizedFor}

-- the least so far, with the covers of the seizures that are left, gives the least of all; and `before` is what personal creditors seized for so far
pub record CoversLeft (four : Filled) (seizures : List SeizedFor) (index : ℕ) (least : Option ℕ) (before : ℕ) : Type 0 where
  pub covered : least_from least (covers_from four before (drop index seizures)) ≡ least_from None (covers_from four 0 seizures)
  pub amounts : before ≡ sum_by (λ z. personal_amount z.basis) (take index seizures)
  pub bound : IfSome least (λ n. n < 2 * most_sum)

-- ---- the least of some numbers

-- one of the numbers is found, and it is above none of them
record IsLeast (numbers : List ℕ) (found : Option ℕ) : Type 0 where
  pub item : ℕ
  pub is : found ≡ Some item
  pub there : In item numbers
  pub below : (m : ℕ) → In m numbers → item ≤ m

-- one walk over a and these numbers finds such a number
walked : (a : ℕ) (xs : List ℕ) → IsLeast (a ∷ xs) (least_from (Some a) xs)
walked a [] = record { item = a; is = refl; there = inl refl; below = λ m there. ⊎_elim (λ same. omega (arith, same)) (λ none. absurd none) there }
walked a (x ∷ xs) =
    let rest = walked (min a x) xs in
    let least : (min a x ≤ a) × (min a x ≤ x) × ((a ≡ min a x) ⊎ (x ≡ min a x)) =
    ⊎_elim
    (λ less. let same = min-eq_left {n = a} {m = x} (omega (arith, less)) in (omega (arith, same), omega (arith, same, less), inl (sym same)))
    (λ more. let same = min-eq_right {n = x} {m = a} more in (omega (arith, same, more), omega (arith, same), inr (sym same)))
    (cases_lt a x) in
    record {
      item = rest.item;
      is = rest.is;
      there = ⊎_elim (λ here. ⊎_elim (λ first. inl (first ∙ here)) (λ second. inr (inl (second ∙ here))) least.2) (λ more. inr (inr more)) rest.there;
      below = λ m there.
          ⊎_elim
          (λ first. omega (arith, first, least.0, rest.below (min a x) (inl refl)))
          (λ more. ⊎_elim (λ second. omega (arith, second, least.1, rest.below (min a x) (inl refl))) (λ later. rest.below m (inr later)) more)
          there;
    }

-- such a number passes the test by which the definition searches
passes : (n : ℕ) (numbers : List ℕ) → ((m : ℕ) → In m numbers → n ≤ m) → list_all (λ m. nat_le n m) numbers ≡ true
passes n [] below = refl
passes n (x ∷ xs) below =
    let up = below x (inl refl) in
    let first : nat_le n x ≡ true = grind (arith, nat_tests, up) in
    let rest = passes n xs (λ m there. below m (inr there)) in
    λ j. first j && rest j

-- a number that passes is at most each of them
at_most : (n : ℕ) (numbers : List ℕ) (m : ℕ) → list_all (λ k. nat_le n k) numbers ≡ true → In m numbers → n ≤ m
at_most n [] m all there = absurd there
at_most n (x ∷ xs) m all there =
    let both = and_parts (nat_le n x) (list_all (λ k. nat_le n k) xs) all in
    ⊎_elim (λ same. let up = both.0 in grind (arith, nat_tests, up, same)) (λ more. at_most n xs m both.1 more) there

-- So the one walk finds the least, which is the first that passes.
pub least_found : (numbers : List ℕ) → least_from None numbers ≡ least numbers
least_found [] = refl
least_found (x ∷ xs) =
    let numbers = x ∷ xs in
    let walk = walked x xs in
    let test : ℕ → Bool = λ n. list_all (λ m. nat_le n m) numbers in
    let search = find_complete test numbers walk.item walk.there (passes walk.item numbers walk.below) in
    let up = walk.below search.item search.there in
    let down = at_most search.item numbers walk.item search.passes walk.there in
    let same : walk.item ≡ search.item = omega (arith, up, down) in
    walk.is ∙ ap Some same ∙ sym search.is
