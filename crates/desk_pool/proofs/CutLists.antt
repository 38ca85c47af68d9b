-- Lists of numbers that are cut at one of them, and the last of those that ascend.
use Rattle.std.proofs.Common.{◌≡◌, ℕ, suc, ◌+◌, ◌≤◌, List, [], ◌∷◌, ◌++◌, Option, Some, None, AllPairs, inl, inr, refl, sym, ap, ◌∙◌, ⊎_elim, append_assoc, arith}
use Rattle.std.specs.List.{last_or}
use Rattle.std.proofs.lemmas.List.Elements.{All-from_recursion}
use Rattle.std.proofs.lemmas.List.Kept.{AllPairs-cons}
use Rattle.conflict_queue.proofs.Numbered.{some_is}
use Rattle.gb_base.specs.Ascending.{AscendsBy}
use Rattle.gb_base.proofs.Members.{In, in_append_right}
use Rattle.folio_sections.proofs.FilteredLists.{all_in}
use Rattle.registrar.proofs.RisingNumbers.{contains_of_in}

-- a list that is cut at one of its numbers: what stands before the number, and what stands after it
pub record CutAt (x : ℕ) (xs : List ℕ) : Type 0 where
  pub ahead : List ℕ
  pub behind : List ℕ
  pub is : xs ≡ ahead ++ x ∷ behind

pub cut_at : (x : ℕ) (xs : List ℕ) → In x xs → CutAt x xs
cut_at x [] there = absurd there
cut_at x (y ∷ ys) there =
    ⊎_elim
    (λ same. record { ahead = []; behind = ys; is = ap (λ z. z ∷ ys) same })
    (λ later. let rest = cut_at x ys later in record { ahead = y ∷ rest.ahead; behind = rest.behind; is = ap (λ zs. y ∷ zs) rest.is })
    there

-- what holds of each number and each further one holds of all pairs
pub pairs_by : (R : ℕ → ℕ → Type 0) (done rest : List ℕ) → ((before after : List ℕ) (x y : ℕ) → done ++ rest ≡ before ++ x ∷ after → In y after → R x y) → AllPairs R rest
pairs_by R done [] each = λ i j d less within. absurd (omega arith)
pairs_by R done (x ∷ rest) each =
    AllPairs-cons R x rest
    (All-from_recursion (R x) rest (all_in (R x) rest (λ y there. each done rest x y refl there)))
    (pairs_by R (done ++ x ∷ []) rest (λ before after z y is there. each before after z y (sym (append_assoc done (x ∷ []) rest) ∙ is) there))

-- a number that stands once does not stand both before and after a place
pub stands_once : (before after : List ℕ) (y : ℕ) → AllPairs (λ i later. i ≡ later → ⊥) (before ++ after) → In y before → In y after → ⊥
stands_once [] after y once there later = absurd there
stands_once (x ∷ before) after y once there later =
    ⊎_elim
    (λ same. let again = contains_of_in (before ++ after) y (in_append_right before after y later) in once 0 (suc again.0) y (omega arith) (omega (arith, again.1)) (same ∙ sym again.2))
    (λ more. stands_once before after y (λ i j d less within. once (suc i) (suc j) d (omega arith) (omega arith)) more later)
    there

-- ---- the last one

-- the last of these numbers is one of them
last_behind : (x y : ℕ) (ys : List ℕ) → last_or (Some y) ys ≡ Some x → In x (y ∷ ys)
last_behind x y [] is = inl (some_is y x is)
last_behind x y (z ∷ zs) is = inr (last_behind x z zs is)

pub last_in : (x : ℕ) (xs : List ℕ) → last_or None xs ≡ Some x → In x xs
last_in x [] is = absurd (grind arith)
last_in x (y ∷ ys) is = last_behind x y ys is

-- the last of these numbers is j or a greater one
pub record LastFrom (j : ℕ) (found : Option ℕ) : Type 0 where
  pub last : ℕ
  pub is : found ≡ Some last
  pub from : j ≤ last

greatest : (j a y : ℕ) (ys : List ℕ) → AscendsBy (λ n. n) a (y ∷ ys) → In j (y ∷ ys) → LastFrom j (last_or (Some y) ys)
greatest j a y [] up there = ⊎_elim (λ same. record { last = y; is = refl; from = omega (arith, same) }) (λ none. absurd none) there
greatest j a y (z ∷ zs) up there =
    ⊎_elim
    (λ same. let further = greatest z (y + 1) z zs up.1 (inl refl) in record { last = further.last; is = further.is; from = omega (arith, same, up.1.0, further.from) })
    (λ later. greatest j (y + 1) z zs up.1 later)
    there

-- where numbers ascend, none is above the last one
pub last_is_greatest : (j a : ℕ) (xs : List ℕ) → AscendsBy (λ n. n) a xs → In j xs → LastFrom j (last_or None xs)
last_is_greatest j a [] up there = absurd there
last_is_greatest j a (y ∷ ys) up there = greatest j a y ys up there
