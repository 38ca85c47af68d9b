-- The first cure that brings what is looked for: with one receipt more, and for documents up to a receipt.
use Rattle.std.proofs.Common.{◌≡◌, ℕ, zero, suc, ◌+◌, ◌-◌, ◌<◌, ◌≤◌, Bool, true, false, cond, eqb, ltb, ◌&&◌, nat_lt, List, [], ◌∷◌, ◌++◌, find, length, Some, None, refl, sym, subst, ap, ◌∙◌, arith}
use Rattle.std.specs.List.{cons_option, enumerate_from, filter_map, list_any, slice_get}
use Rattle.std.specs.Option.{option_map_or, option_or}
use Rattle.std.proofs.lemmas.Bool.Decides.{nat_tests}
use Rattle.act_model.specs.declared.items.Item.{Item}
use Rattle.act_model.specs.declared.items.Item.TheVariants as item
use Rattle.act_model.specs.declared.receipts.Receipt.{Receipt}
use Rattle.act_model.specs.declared.sought.Sought.{Sought}
use Rattle.act_model.specs.Cures.{cure_of, cures, cures_of}
use Rattle.act_model.specs.DocumentTests.{docs_by_cure, docs_of_cure}
use Rattle.act_model.specs.Receiving.{receipt_at}
use Rattle.act_model.specs.Sought.{is_sought}
use Rattle.act_model.specs.inner.CureDocuments.{found_by, key_of}
use Rattle.act_model.specs.inner.Firsts.{first_cure}
use Rattle.act_model.specs.inner.ItemIndexes.{cures_by}
use Rattle.act_model.proofs.ItemIndexLemmas.{cures_of-push}

-- ---- with one receipt more

get_before : {X : Type 0} (xs : List X) (x : X) (i : ℕ) → i < length xs → slice_get (xs ++ x ∷ []) i ≡ slice_get xs i
get_before [] x i within = absurd (omega arith)
get_before (y ∷ ys) x zero within = refl
get_before (y ∷ ys) x (suc i) within = get_before ys x i (omega arith)

get_last : {X : Type 0} (xs : List X) (x : X) → slice_get (xs ++ x ∷ []) (length xs) ≡ Some x
get_last [] x = refl
get_last (y ∷ ys) x = get_last ys x

-- the receipts that stood stay as they are
receipt_before : (journal : List Receipt) (r : Receipt) (n : ℕ) → n ≤ length journal → receipt_at (journal ++ r ∷ []) n ≡ receipt_at journal n
receipt_before journal r n within = either (eqb n 0) refl
  where
    either : (b : Bool) → eqb n 0 ≡ b → cond b None (slice_get (journal ++ r ∷ []) (n - 1)) ≡ cond b None (slice_get journal (n - 1))
    either true e = refl
    either false e = get_before journal r (n - 1) (grind (arith, nat_tests, e, within))

receipt_last : (journal : List Receipt) (r : Receipt) (n : ℕ) → n ≡ length journal + 1 → receipt_at (journal ++ r ∷ []) n ≡ Some r
receipt_last journal r n at =
    let some : eqb n 0 ≡ false = grind (arith, nat_tests, at) in
    let last : n - 1 ≡ length journal = omega arith in
    ap (λ b. cond b None (slice_get (journal ++ r ∷ []) (n - 1))) some ∙ ap (slice_get (journal ++ r ∷ [])) last ∙ get_last journal r

-- where two tests answer alike for some receipts, a search among the cures there finds the same one
same_option : (p q : ℕ → Bool) (b : Bool) (k : ℕ) (ns : List ℕ) → p k ≡ q k → find p ns ≡ find q ns → find p (cons_option (cond b (Some k) None) ns) ≡ find q (cons_option (cond b (Some k) None) ns)
same_option p q true k ns same rest = λ i. cond (same i) (Some k) (rest i)
same_option p q false k ns same rest = rest

same_find : (p q : ℕ → Bool) (m k : ℕ) (rs : List Receipt) → ((n : ℕ) → k ≤ n → n < k + length rs → p n ≡ q n)
    → find p (filter_map (cure_of m) (enumerate_from k rs)) ≡ find q (filter_map (cure_of m) (enumerate_from k rs))
same_find p q m k [] same = refl
same_find p q m k (r ∷ rs) same =
    same_option p q (nat_lt m k && cures m r.item) k (filter_map (cure_of m) (enumerate_from (k + 1) rs)) (same k (omega arith) (omega arith))
    (same_find p q m (k + 1) rs (λ n low high. same n (omega arith) (omega arith)))

find_append : (p : ℕ → Bool) (xs ys : List ℕ) → find p (xs ++ ys) ≡ option_or (find p xs) (find p ys)
find_append p [] ys = refl
find_append p (x ∷ xs) ys = ap (λ o. cond (p x) (Some x) o) (find_append p xs ys) ∙ either (p x)
  where
    either : (b : Bool) → cond b (Some x) (option_or (find p xs) (find p ys)) ≡ option_or (cond b (Some x) (find p xs)) (find p ys)
    either true = refl
    either false = refl

none : (n : ℕ) (b : Bool) (p : ℕ → Bool) → find p (cond (b && false) (n ∷ []) []) ≡ None
none n true p = refl
none n false p = refl

-- what the last receipt brings
last_brings : (s : Sought) (n m : ℕ) (i : Item) (p : ℕ → Bool) → p n ≡ list_any (is_sought s) (docs_of_cure i) → find p (cures_by n i m) ≡ found_by n i (key_of m s)
last_brings s n m (item.Cure filing docs) p is = by_number (eqb filing m) refl
  where
    by_number : (c : Bool) → eqb filing m ≡ c → find p (cond (ltb m n && c) (n ∷ []) []) ≡ cond (ltb filing n) (cond (c && list_any (is_sought s) docs) (Some n) None) None
    by_number true e =
        let same : filing ≡ m = grind (arith, nat_tests, e) in
        subst (λ f. find p (cond (ltb m n && true) (n ∷ []) []) ≡ cond (ltb f n) (cond (list_any (is_sought s) docs) (Some n) None) None) (sym same)
        (by_order (ltb m n))
      where
        by_order : (b : Bool) → find p (cond (b && true) (n ∷ []) []) ≡ cond b (cond (list_any (is_sought s) docs) (Some n) None) None
        by_order true = ap (λ t. cond t (Some n) None) is
        by_order false = refl
    by_number false e = by_order (ltb m n) (ltb filing n)
      where
        by_order : (b c : Bool) → find p (cond (b && false) (n ∷ []) []) ≡ cond c None None
        by_order true true = refl
        by_order true false = refl
        by_order false true = refl
        by_order false false = refl
last_brings s n m other p is = none n (ltb m n) p

pub first_cure-push : (journal : List Receipt) (r : Receipt) (n m : ℕ) (s : Sought) → n ≡ length journal + 1
    → first_cure (journal ++ r ∷ []) m s ≡ option_or (first_cure journal m s) (found_by n r.item (key_of m s))
first_cure-push journal r n m s at =
    ap (find now) (cures_of-push journal r n m at) ∙ find_append now (cures_of journal m) (cures_by n r.item m)
    ∙ (λ i. option_or (before i) (last i))
  where
    now : ℕ → Bool
    now k = list_any (is_sought s) (docs_by_cure (journal ++ r ∷ []) k)

    before : find now (cures_of journal m) ≡ first_cure journal m s
    before = same_find now (λ k. list_any (is_sought s) (docs_by_cure journal k)) m 1 journal
        (λ k low high. ap (λ o. list_any (is_sought s) (option_map_or (λ x. docs_of_cure x.item) o [])) (receipt_before journal r k (omega arith)))

    last : find now (cures_by n r.item m) ≡ found_by n r.item (key_of m s)
    last = last_brings s n m r.item now (ap (λ o. list_any (is_sought s) (option_map_or (λ x. docs_of_cure x.item) o [])) (receipt_last journal r n at))
