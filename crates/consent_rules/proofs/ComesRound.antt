-- A walk over those who wait may begin at any filing: those from it on, and then those before it, are all.
use Rattle.std.proofs.Common.{◌≡◌, ℕ, suc, zero, ◌+◌, ◌-◌, ◌<◌, ◌≤◌, Bool, true, false, cond, ◌||◌, nat_le, List, ◌∷◌, filter, filter_map, Option, Some, None, IsNone, IfSome, refl, sym, ap, ◌∙◌, arith}
use Rattle.std.specs.List.{list_any, range_with_len}
use Rattle.std.specs.Option.{option_map_or}
use Rattle.std.specs.Prelude.{◌↔◌}
use Rattle.std.proofs.lemmas.Bool.Decides.{nat_tests}
use Rattle.act_model.specs.declared.receipts.Receipt.{Receipt}
use Rattle.act_model.specs.Touches.{applicant_of}
use Rattle.folio_sections.specs.Waiting.{is_above, is_pending}
use Rattle.folio_sections.specs.declared.entries.Entry.{Entry}
use Rattle.consent_rules.specs.Persons.{waiting_applicants}
use Rattle.consent_rules.specs.inner.WaitersAbove.{applicants_above}
use Rattle.consent_rules.proofs.ListLemmas.{any_given}
use Rattle.consent_rules.proofs.WaitersLeft.{all_left}

or_last : (x y z : Bool) → (x || (y || z)) ≡ (y || (x || z))
or_last true true z = refl
or_last true false z = refl
or_last false true z = refl
or_last false false z = refl

or_turned : (x y : Bool) → (x || y) ≡ (y || x)
or_turned true true = refl
or_turned true false = refl
or_turned false true = refl
or_turned false false = refl

or_none : (x : Bool) → (x || false) ≡ x
or_none true = refl
or_none false = refl

-- what is above the number below s is at s or above it
at_or_above : (o : Option ℕ) (s n : ℕ) → 0 < s → 0 < n → (IsNone o ↔ (s - 1 ≡ 0)) → IfSome o (λ k. k ≡ s - 1) → is_above o n ≡ nat_le s n
at_or_above None s n some first none value =
    let low : s - 1 ≡ 0 = none.0 refl in
    grind (arith, nat_tests, low, some, first)
at_or_above (Some k) s n some first none value =
    let is : k ≡ s - 1 = value in
    grind (arith, nat_tests, is, some, first)

module _ (p waits : ℕ → Bool) (f : ℕ → Option ℕ) (o : Option ℕ) (s : ℕ) (tells : (n : ℕ) → 0 < n → is_above o n ≡ nat_le s n) where
  -- from s on all are above
  all_from : (a n : ℕ) → 0 < a → s ≤ a → filter (is_above o) (filter waits (range_with_len a n)) ≡ filter waits (range_with_len a n)
  all_from a zero some low = refl
  all_from a (suc n) some low = by_test (waits a) (all_from (a + 1) n (omega arith) (omega arith))
    where
      by_test : (b : Bool) → filter (is_above o) (filter waits (range_with_len (a + 1) n)) ≡ filter waits (range_with_len (a + 1) n)
          → filter (is_above o) (cond b (a ∷ filter waits (range_with_len (a + 1) n)) (filter waits (range_with_len (a + 1) n))) ≡ cond b (a ∷ filter waits (range_with_len (a + 1) n)) (filter waits (range_with_len (a + 1) n))
      by_test true rest =
          let above : is_above o a ≡ true = tells a some ∙ grind (arith, nat_tests, low) in
          ap (λ c. cond c (a ∷ filter (is_above o) (filter waits (range_with_len (a + 1) n))) (filter (is_above o) (filter waits (range_with_len (a + 1) n)))) above ∙ ap (λ ns. a ∷ ns) rest
      by_test false rest = rest

  -- k of the numbers are below s
  round : (a k n : ℕ) → 0 < a → a + k ≡ s → k ≤ n
      → (list_any p (filter_map f (filter (is_above o) (filter waits (range_with_len a n)))) || list_any p (filter_map f (filter waits (range_with_len a k))))
      ≡ list_any p (filter_map f (filter waits (range_with_len a n)))
  round a zero n some at le =
      or_none _ ∙ ap (λ ns. list_any p (filter_map f ns)) (all_from a n some (omega arith))
  round a (suc k) zero some at le = absurd (omega arith)
  round a (suc k) (suc n) some at le = by_test (waits a) (round (a + 1) k n (omega arith) (omega arith) (omega arith))
    where
      by_test : (b : Bool)
          → (list_any p (filter_map f (filter (is_above o) (filter waits (range_with_len (a + 1) n)))) || list_any p (filter_map f (filter waits (range_with_len (a + 1) k))))
          ≡ list_any p (filter_map f (filter waits (range_with_len (a + 1) n)))
          → (list_any p (filter_map f (filter (is_above o) (cond b (a ∷ filter waits (range_with_len (a + 1) n)) (filter waits (range_with_len (a + 1) n))))) || list_any p (filter_map f (cond b (a ∷ filter waits (range_with_len (a + 1) k)) (filter waits (range_with_len (a + 1) k)))))
          ≡ list_any p (filter_map f (cond b (a ∷ filter waits (range_with_len (a + 1) n)) (filter waits (range_with_len (a + 1) n))))
      by_test true rest =
          let ours = filter_map f (filter (is_above o) (filter waits (range_with_len (a + 1) n))) in
          let ahead = filter_map f (filter waits (range_with_len (a + 1) k)) in
          let below : is_above o a ≡ false = tells a some ∙ grind (arith, nat_tests, at) in
          ap (λ c. list_any p (filter_map f (cond c (a ∷ filter (is_above o) (filter waits (range_with_len (a + 1) n))) (filter (is_above o) (filter waits (range_with_len (a + 1) n))))) || list_any p (filter_map f (a ∷ filter waits (range_with_len (a + 1) k)))) below
          ∙ ap (λ c. list_any p ours || c) (any_given p (f a) ahead)
          ∙ or_last (list_any p ours) (option_map_or p (f a) false) (list_any p ahead)
          ∙ ap (λ c. option_map_or p (f a) false || c) rest
          ∙ sym (any_given p (f a) (filter_map f (filter waits (range_with_len (a + 1) n))))
      by_test false rest = rest

-- those below s, and those above the number below s, are all
pub comes_round : (p : ℕ → Bool) (journal : List Receipt) (o : Option ℕ) (s m : ℕ) (entries : List Entry) → 0 < s → s ≤ m → (IsNone o ↔ (s - 1 ≡ 0)) → IfSome o (λ k. k ≡ s - 1)
    → (list_any p (applicants_above journal None s entries) || list_any p (applicants_above journal o m entries)) ≡ list_any p (waiting_applicants journal m entries)
comes_round p journal o s m entries some le none value =
    ap (λ c. c || list_any p (applicants_above journal o m entries)) (all_left p journal s entries)
    ∙ or_turned (list_any p (waiting_applicants journal s entries)) (list_any p (applicants_above journal o m entries))
    ∙ round p (λ n. is_pending n entries) (applicant_of journal) o s (λ n first. at_or_above o s n some first none value) 1 (s - 1) (m - 1) (omega arith) (omega arith) (omega arith)
