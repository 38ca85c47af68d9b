-- Sums that a loop has come to.
use Rattle.std.proofs.Common.{◌≡◌, ℕ, ◌+◌, ◌≤◌, ◌<◌, Bool, List, length, cond, count_by, take, get_or, subst, sum_by, sym, ap, ◌∙◌}
use Rattle.std.proofs.lemmas.List.Sums.{length-filter, sum_by_more}
use Rattle.std.proofs.lemmas.List.Filters.{length-filter_more}

-- the number is the sum, and within the bound
pub record IsSum (number sum bound : ℕ) : Type 0 where
  pub is : number ≡ sum
  pub within : number ≤ bound

-- with one element more, the count goes by its test
pub counted_more : {X : Type 0} (p : X → Bool) (xs : List X) (i : ℕ) (d : X) → i < length xs → count_by p (take (i + 1) xs) ≡ count_by p (take i xs) + cond (p (get_or xs i d)) 1 0
counted_more p xs i d less =
    sym (length-filter p (take (i + 1) xs)) ∙ length-filter_more p xs i d less ∙ ap (λ n. n + cond (p (get_or xs i d)) 1 0) (length-filter p (take i xs))

-- with one element more the sum grows by it; what is read is the list that is summed
pub summed_more : {X : Type 0} (f : X → ℕ) (read xs : List X) (i : ℕ) (d : X) → read ≡ xs → i < length read → sum_by f (take (i + 1) xs) ≡ sum_by f (take i xs) + f (get_or read i d)
summed_more f read xs i d same less =
    subst (λ ys. sum_by f (take (i + 1) ys) ≡ sum_by f (take i ys) + f (get_or read i d)) same (sum_by_more f read i d less)
