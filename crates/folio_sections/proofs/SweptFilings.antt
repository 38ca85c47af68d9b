-- The days until which filings wait, and the marks beside them, once a day is put in or those that have ended are taken away.
use Rattle.std.proofs.Common.{◌≡◌, ℕ, suc, zero, ◌+◌, ◌<◌, ◌≤◌, Bool, not, drop, length, length-drop, take, subst, true, false, cond, count_by, ◌==◌, List, [], ◌∷◌, Option, Some, None, filter, is_none, is_some, min, option_and_then, option_map, refl, sym, ap, ◌∙◌, arith}
use Rattle.std.specs.List.{AllByRecursion, position_or_len}
use Rattle.std.proofs.lemmas.Bool.Decides.{nat_tests}
use Rattle.std.proofs.lemmas.List.Sums.{prefix_len-le-length, sum_by-cons}
use Rattle.folio_sections.specs.inner.FilingLists.{Ascends, of_filing}
use Rattle.folio_sections.specs.inner.Waiters.{IsMark, Until, has_ended, until_in, waits}
use Rattle.folio_sections.proofs.FilingsInOrder.{fewer, none_below}
use Rattle.folio_sections.proofs.Indexes.{is_none_of}

-- ---- the mark after a day is put at i

pub mark_low : (is_lacking : Bool) (n i : ℕ) → cond is_lacking (min n i) n ≤ n
mark_low true n i = omega arith
mark_low false n i = omega arith

pub lower_mark : (is_lacking : Bool) (n i : ℕ) → i < cond is_lacking (min n i) n → is_lacking ≡ false
lower_mark true n i less = absurd (omega arith)
lower_mark false n i less = refl

-- where the first k of the list still do not pass then, the mark may stand at k
pub mark_put : (t : Until → Bool) (n k : ℕ) (xs ys : List Until) → k ≤ n → IsMark t n xs → length xs ≤ length ys
    → (AllByRecursion (λ x. t x ≡ false) (take k xs) → AllByRecursion (λ x. t x ≡ false) (take k ys)) → IsMark t k ys
mark_put t n k xs ys low is_mark longer goes_over =
    let within = is_mark.within in
    record { within = omega (arith, within, low, longer); first = goes_over (fewer (λ x. t x ≡ false) n k xs low is_mark.first) }

-- ---- a mark that moves past those that do not pass

none_ahead : (t : Until → Bool) (k : ℕ) (xs : List Until) → k ≡ position_or_len t xs → AllByRecursion (λ x. t x ≡ false) (take k xs)
none_ahead t zero xs is = tt
none_ahead t (suc k) [] is = tt
none_ahead t (suc k) (x ∷ xs) is =
    elim (t x) as (λ b. t x ≡ b → suc k ≡ cond (not b) (1 + position_or_len t xs) 0 → AllByRecursion (λ y. t y ≡ false) (x ∷ take k xs)) [
      | true ↦ λ passes at. absurd (omega (arith, at))
      | false ↦ λ fails at. (fails, none_ahead t k xs (omega (arith, at)))
    ] refl is

joined : (t : Until → Bool) (n k m : ℕ) (xs : List Until) → m ≡ n + k → AllByRecursion (λ x. t x ≡ false) (take n xs) → AllByRecursion (λ x. t x ≡ false) (take k (drop n xs))
    → AllByRecursion (λ x. t x ≡ false) (take m xs)
joined t n k zero xs is all rest = tt
joined t n k (suc m) [] is all rest = tt
joined t zero k (suc m) (x ∷ xs) is all rest = let same : k ≡ suc m = omega (arith, is) in subst (λ j. AllByRecursion (λ y. t y ≡ false) (take j (x ∷ xs))) same rest
joined t (suc n) k (suc m) (x ∷ xs) is all rest = (all.0, joined t n k m xs (omega (arith, is)) all.1 rest)

-- the next so many from the mark on do not pass
pub record MovesTo (t : Until → Bool) (n k : ℕ) (xs : List Until) : Type 0 where
  pub within : n + k ≤ length xs
  pub is_mark : IsMark t (n + k) xs

-- as a count tells it over what is lent of the list
pub moved_mark : (t : Until → Bool) (n k : ℕ) (xs lent rest : List Until) → k ≡ position_or_len t rest → rest ≡ drop n lent → lent ≡ xs → IsMark t n xs → MovesTo t n k xs
moved_mark t n k xs lent rest ahead cut whole is_mark =
    let behind : rest ≡ drop n xs = cut ∙ ap (drop n) whole in
    let count : k ≡ position_or_len t (drop n xs) = ahead ∙ ap (position_or_len t) behind in
    let before = is_mark.within in
    let up_to = prefix_len-le-length (λ x. not (t x)) (drop n xs) in
    let left = length-drop n xs in
    let within : n + k ≤ length xs = omega (arith, before, count, up_to, left) in
    record { within = within; is_mark = record { within = within; first = joined t n k (n + k) xs refl is_mark.first (none_ahead t k (drop n xs) count) } }

-- ---- those that wait alone

-- the day of one, where it is there
abbrev day_of : Option Until → Option ℕ
day_of o = option_and_then (λ day. day) (option_map (λ x. x.value) o)

-- each filing waits as before
pub until_swept : (m a : ℕ) (xs : List Until) → Ascends a xs → until_in m (filter waits xs) ≡ until_in m xs
until_swept m a [] up = refl
until_swept m a (x ∷ xs) up =
    let rest = until_swept m (x.filing + 1) xs up.1 in
    elim (is_some x.value) as (λ b. is_some x.value ≡ b → until_in m (cond b (x ∷ filter waits xs) (filter waits xs)) ≡ day_of (cond (x.filing == m) (Some x) (of_filing m xs))) [
      | true ↦ λ day. elim (x.filing == m) as (λ b. day_of (cond b (Some x) (of_filing m (filter waits xs))) ≡ day_of (cond b (Some x) (of_filing m xs))) [
        | true ↦ refl
        | false ↦ rest
      ]
      | false ↦ λ ended. elim (x.filing == m) as (λ b. (x.filing == m) ≡ b → until_in m (filter waits xs) ≡ day_of (cond b (Some x) (of_filing m xs))) [
        | true ↦ λ same. rest ∙ ap day_of (none_below m (x.filing + 1) xs up.1 (grind (arith, nat_tests, same))) ∙ sym (is_none_of x.value ended)
        | false ↦ λ apart. rest
      ] refl
    ] refl

none_of_some : (o : Option ℕ) → is_some o ≡ true → is_none o ≡ false
none_of_some None is = cc
none_of_some (Some n) is = refl

-- none that has ended is left
pub none_ended : (xs : List Until) → count_by has_ended (filter waits xs) ≡ 0
none_ended [] = refl
none_ended (x ∷ xs) =
    elim (is_some x.value) as (λ b. is_some x.value ≡ b → count_by has_ended (cond b (x ∷ filter waits xs) (filter waits xs)) ≡ 0) [
      | true ↦ λ day. sum_by-cons (λ y. cond (has_ended y) 1 0) x (filter waits xs)
          ∙ ap (λ b. cond b 1 0 + count_by has_ended (filter waits xs)) (none_of_some x.value day) ∙ ap (λ n. 0 + n) (none_ended xs)
      | false ↦ λ ended. none_ended xs
    ] refl
