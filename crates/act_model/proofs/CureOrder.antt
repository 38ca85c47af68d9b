-- Lemmas on the cures of a filing, which ascend.
use Rattle.std.proofs.Common.{◌≡◌, ℕ, ◌+◌, ◌<◌, Bool, true, false, ◌&&◌, if◌then◌else◌, nat_le, nat_lt, List, [], ◌∷◌, Some, None, refl, arith, ◌||◌, cond, filter, flat_map, ap, ◌∙◌}
use Rattle.std.specs.List.{cons_option, enumerate_from, filter_map, list_any}
use Rattle.act_model.specs.Cures.{cure_of, cures}
use Rattle.act_model.specs.declared.receipts.Receipt.{Receipt}
use Rattle.std.proofs.lemmas.List.Folds.{list_any-append}

-- of these numbers, none that passes the test is up to the receipt
abbrev NoneUpTo : (ℕ → Bool) → ℕ → List ℕ → Type 0
NoneUpTo p upto ns = list_any (λ n. nat_le n upto && p n) ns ≡ false

-- a number after another is not up to it
beyond : (n upto : ℕ) → upto < n → nat_le n upto ≡ false
beyond n upto lt = search (arith)

-- so it stays with one number more, where there is one
with_one : (p : ℕ → Bool) (upto k : ℕ) (b : Bool) (ns : List ℕ) → upto < k → NoneUpTo p upto ns
    → NoneUpTo p upto (cons_option (if b then Some k else None) ns)
with_one p upto k true ns lt rest = rw (beyond k upto lt) rest
with_one p upto k false ns lt rest = rest

-- where the receipts begin after one, no cure is up to that one
pub none_above : (p : ℕ → Bool) (upto m k : ℕ) (journal : List Receipt) → upto < k → NoneUpTo p upto (filter_map (cure_of m) (enumerate_from k journal))
none_above p upto m k [] lt = refl
none_above p upto m k (r ∷ rs) lt =
    with_one p upto k (nat_lt m k && cures m r.item) (filter_map (cure_of m) (enumerate_from (k + 1) rs)) lt
    (none_above p upto m (k + 1) rs (omega (arith, lt)))

-- whether one element passes a test among what elements bring: it is brought by the first of them, or by the others
any_of_parts : {X Y : Type 0} (p : Y → Bool) (d : X → List Y) → (x : X) (xs : List X) (b r : Bool)
    → list_any p (flat_map d xs) ≡ r
    → list_any p (flat_map d (cond b (x ∷ xs) xs)) ≡ ((b && list_any p (d x)) || r)
any_of_parts p d x xs true r rest = list_any-append p (d x) (flat_map d xs) ∙ ap (λ s. list_any p (d x) || s) rest
any_of_parts p d x xs false r rest = rest

-- something passes a test p among what the elements bring that pass t, just where one of these elements brings it
pub any_brought : {X Y : Type 0} (p : Y → Bool) (t : X → Bool) (d : X → List Y) → (xs : List X)
    → list_any p (flat_map d (filter t xs)) ≡ list_any (λ x. t x && list_any p (d x)) xs
any_brought p t d [] = refl
any_brought p t d (x ∷ xs) = any_of_parts p d x (filter t xs) (t x) _ (any_brought p t d xs)
