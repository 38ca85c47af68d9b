-- The keys of a forced sale, in order.
use Rattle.std.proofs.Common.{◌≡◌, ℕ, ◌+◌, Bool, true, false, ◌||◌, List, [], ◌∷◌, ◌++◌, map, refl, sym, ap, ◌∙◌, arith}
use Rattle.std.specs.List.{AllByRecursion}
use Rattle.std.specs.List.Sorted.{IsStrictlySortedBy}
use Rattle.std.specs.Ordering.{nat_cmp}
use Rattle.std.specs.declared.cmp.Ordering.TheVariants.{Less, Equal}
use Rattle.std.proofs.lemmas.Bool.Decides.{nat_tests, same_from_decides}
use Rattle.std.proofs.lemmas.List.Folds.{list_any-append}
use Rattle.gb_base.specs.Keys.{key_cmp, same_key}
use Rattle.gb_base.specs.RightNo.{RightNo}
use Rattle.gb_base.specs.declared.keys.Key.{Key}
use Rattle.gb_base.specs.declared.keys.Key.TheVariants.{Title, Right, Case}
use Rattle.act_model.specs.Touches.{in_key_order}
use Rattle.act_model.specs.inner.CreationOrder.{is_from, Rises}
use Rattle.act_model.proofs.KeyOrder.{has_decides, in_key_order_members, in_key_order_sorted, one_list}
use Rattle.conflict_queue.specs.Dockets.{has_key}

-- ---- the keys of a sale

tied : (n : ℕ) → nat_cmp n n ≡ Equal
tied n = grind (arith, nat_tests)

title_ahead_of_right : (folio : ℕ) (r : RightNo) → key_cmp (Title folio) (Right folio r) ≡ Less
title_ahead_of_right folio r = rw (tied folio) refl

title_ahead_of_case : (folio : ℕ) → key_cmp (Title folio) (Case folio) ≡ Less
title_ahead_of_case folio = rw (tied folio) refl

right_ahead_of_case : (folio : ℕ) (r : RightNo) → key_cmp (Right folio r) (Case folio) ≡ Less
right_ahead_of_case folio r = rw (tied folio) refl

right_ahead : (folio : ℕ) (x y : RightNo) → is_from x.receipt (x.act + 1) y ≡ true → key_cmp (Right folio x) (Right folio y) ≡ Less
right_ahead folio x y h = rw (tied folio) (grind (arith, nat_tests, h))

from_later : (x : RightNo) (r s : RightNo) → is_from x.receipt (x.act + 1) r ≡ true → is_from r.receipt (r.act + 1) s ≡ true → is_from x.receipt (x.act + 1) s ≡ true
from_later x r s h g = grind (arith, nat_tests, h, g)

-- the key of a right is before those of the later rights and that of the sale
right_above : (folio : ℕ) (x : RightNo) (rs : List RightNo) → Rises x.receipt (x.act + 1) rs → AllByRecursion (λ k. key_cmp (Right folio x) k ≡ Less) (map (Right folio) rs ++ Case folio ∷ [])
right_above folio x [] up = (right_ahead_of_case folio x, tt)
right_above folio x (r ∷ rs) up = (right_ahead folio x r up.0, right_above folio x rs (later rs up.1))
  where
    later : (ss : List RightNo) → Rises r.receipt (r.act + 1) ss → Rises x.receipt (x.act + 1) ss
    later [] behind = tt
    later (s ∷ ss) behind = (from_later x r s up.0 behind.0, behind.1)

rights_sorted : (folio m a : ℕ) (rs : List RightNo) → Rises m a rs → IsStrictlySortedBy key_cmp (map (Right folio) rs ++ Case folio ∷ [])
unfolding IsStrictlySortedBy
rights_sorted folio m a [] up = (tt, tt)
rights_sorted folio m a (r ∷ rs) up = (right_above folio r rs up.1, rights_sorted folio r.receipt (r.act + 1) rs up.1)

title_above : (folio : ℕ) (rs : List RightNo) → AllByRecursion (λ k. key_cmp (Title folio) k ≡ Less) (map (Right folio) rs ++ Case folio ∷ [])
title_above folio [] = (title_ahead_of_case folio, tt)
title_above folio (r ∷ rs) = (title_ahead_of_right folio r, title_above folio rs)

sale_sorted : (folio : ℕ) (rs : List RightNo) → Rises 0 0 rs → IsStrictlySortedBy key_cmp (Title folio ∷ (map (Right folio) rs ++ Case folio ∷ []))
unfolding IsStrictlySortedBy
sale_sorted folio rs up = (title_above folio rs, rights_sorted folio 0 0 rs up)

rotated : (t m c : Bool) → (t || (m || (c || false))) ≡ (c || (t || m))
rotated true true true = refl
rotated true true false = refl
rotated true false true = refl
rotated true false false = refl
rotated false true true = refl
rotated false true false = refl
rotated false false true = refl
rotated false false false = refl

sale_has : (folio : ℕ) (rs : List RightNo) (q : Key) → has_key q (Title folio ∷ (map (Right folio) rs ++ Case folio ∷ [])) ≡ has_key q (Case folio ∷ Title folio ∷ map (Right folio) rs)
sale_has folio rs q =
    ap (λ b. same_key (Title folio) q || b) (list_any-append (λ j. same_key j q) (map (Right folio) rs) (Case folio ∷ []))
    ∙ rotated (same_key (Title folio) q) (has_key q (map (Right folio) rs)) (same_key (Case folio) q)

-- the title, then the rights, then the sale: that is the order of keys
pub sale_in_order : (folio : ℕ) (rs : List RightNo) → Rises 0 0 rs → Title folio ∷ (map (Right folio) rs ++ Case folio ∷ []) ≡ in_key_order (Case folio ∷ Title folio ∷ map (Right folio) rs)
sale_in_order folio rs up =
    let ours = Title folio ∷ (map (Right folio) rs ++ Case folio ∷ []) in
    let theirs = Case folio ∷ Title folio ∷ map (Right folio) rs in
    one_list ours (in_key_order theirs) (sale_sorted folio rs up) (in_key_order_sorted theirs) (λ q.
    let here = has_decides q ours in
    let there = has_decides q theirs in
    let both = in_key_order_members theirs q in
    (λ c. both.1 (there.0 (sym (sale_has folio rs q) ∙ here.1 c)), λ c. here.0 (sale_has folio rs q ∙ there.1 (both.0 c))))

-- putting keys in order adds no key and loses none
pub in_order_has : (k : Key) (ks : List Key) → has_key k (in_key_order ks) ≡ has_key k ks
in_order_has k ks =
    let there = has_decides k (in_key_order ks) in
    let here = has_decides k ks in
    let both = in_key_order_members ks k in
    same_from_decides (has_key k (in_key_order ks)) (has_key k ks) there (λ h. both.1 (here.0 h), λ c. here.1 (both.0 c))
