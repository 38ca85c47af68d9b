-- The walk of a path over a table of routes, along texts and numbers.
use Rattle.std.proofs.Common.{◌≡◌, ℕ, zero, suc, ◌+◌, ◌-◌, ◌<◌, ◌≤◌, Bool, true, false, cond, ◌==◌, ◌&&◌, ltb, List, [], ◌∷◌, ◌++◌, length, drop, Option, Some, None, refl, sym, ap, ◌∙◌, arith, length-append, add-zero, nat_eq}
use Rattle.std.specs.Cmp.Lexicographic.{pointwise}
use Rattle.std.specs.Str.Parse.{AllDigits}
use Rattle.std.proofs.lemmas.Bool.{ne_eqb, lt-ltb, le-leb, and_left, and_right, and_from, and_parts, false≢true}
use Rattle.std.proofs.lemmas.Str.Parse.{digit_from_value}
use Rattle.std.proofs.lemmas.List.{take_at}
use Rattle.std.proofs.Math.Seq.{drop-append_seam}
use Rattle.matchit.specs.Rows.{RowsOf, param_token, catch_all_token}
use Rattle.matchit.specs.Seek.{segment, has_slash, cuts, own, step, or_else, longest_suffix, with_suffix, param_step, seek}
use Rattle.matchit.specs.Params.{wild_from, part_of}

-- ---- digits

not_slash : (c : ℕ) (cs : List ℕ) → AllDigits 10 (c ∷ cs) → (c == 47) ≡ false
not_slash c cs d = let r = digit_from_value c d.0 in ne_eqb c 47 (λ e. absurd (omega (arith, r, e)))

below_tokens : (c : ℕ) (cs : List ℕ) → AllDigits 10 (c ∷ cs) → c < 256
below_tokens c cs d = let r = digit_from_value c d.0 in omega (arith, r)

digits_segment : (x : List ℕ) → AllDigits 10 x → segment x ≡ x
digits_segment [] d = refl
digits_segment (c ∷ cs) d = rw (not_slash c cs d) (ap (λ l. c ∷ l) (digits_segment cs d.1))

digits_no_slash : (x : List ℕ) → AllDigits 10 x → has_slash x ≡ false
digits_no_slash [] d = refl
digits_no_slash (c ∷ cs) d = rw (not_slash c cs d) (digits_no_slash cs d.1)

pub segment_to_slash : (x rest : List ℕ) → AllDigits 10 x → segment (x ++ 47 ∷ rest) ≡ x ++ 47 ∷ []
segment_to_slash [] rest d = refl
segment_to_slash (c ∷ cs) rest d = rw (not_slash c cs d) (ap (λ l. c ∷ l) (segment_to_slash cs rest d.1))

digits_drop : (n : ℕ) (x : List ℕ) → AllDigits 10 x → AllDigits 10 (drop n x)
digits_drop zero x d = d
digits_drop (suc n) [] d = d
digits_drop (suc n) (c ∷ cs) d = digits_drop n cs d.1

no_slash_alone : (x : List ℕ) → AllDigits 10 x → pointwise nat_eq (47 ∷ []) x ≡ false
no_slash_alone [] d = refl
no_slash_alone (c ∷ cs) d =
    let r = digit_from_value c d.0 in
    and_left (47 == c) (pointwise nat_eq [] cs) (ne_eqb 47 c (λ e. absurd (omega (arith, r, e))))

-- a number does not end in a slash
pub digits_not_cut : (x : List ℕ) → AllDigits 10 x → cuts x (47 ∷ []) ≡ false
digits_not_cut x d = and_right _ _ (no_slash_alone (drop (length x - 1) x) (digits_drop (length x - 1) x d))

-- a number and a slash end in a slash
pub slash_cut : (x : List ℕ) → 0 < length x → cuts (x ++ 47 ∷ []) (47 ∷ []) ≡ true
slash_cut x some =
    let long : length (x ++ 47 ∷ []) ≡ length x + 1 = length-append x (47 ∷ []) in
    let front : length (x ++ 47 ∷ []) - 1 ≡ length x = omega (arith, long) in
    and_from _ _ (lt-ltb 1 (length (x ++ 47 ∷ [])) (omega (arith, long)))
    (rw (front, drop-append_seam x (47 ∷ [])) refl)

drop_end : (p : List ℕ) → drop (length p) p ≡ []
drop_end [] = refl
drop_end (b ∷ p) = drop_end p

module _ {K : Type 0} where
  -- ---- texts

  or_none : (o : Option K) → or_else o None ≡ o
  or_none None = refl
  or_none (Some k) = refl

  param_step_none : (p : List ℕ) → (param_step {K = K} [] p).1 ≡ []
  unfolding param_step
  param_step_none p =
      elim (has_slash p) as (λ v. (cond {A = ℕ × RowsOf K} v (0, []) (length p, [])).1 ≡ []) [
        | true ↦ refl
        | false ↦ refl
      ]

  seek_none : (k : ℕ) (p : List ℕ) → seek {K = K} k [] p ≡ None
  unfolding seek
  seek_none k [] = refl
  seek_none (suc k) (b ∷ p) = seek_none k p
  seek_none zero (b ∷ p) = simp (seek_none 0 p, param_step_none (b ∷ p), seek_none (((param_step {K = K} [] (b ∷ p)).0) - 1) p)

  seek_drop : (k : ℕ) (rs : RowsOf K) (p : List ℕ) → seek k rs p ≡ seek 0 rs (drop k p)
  unfolding seek
  seek_drop zero rs p = refl
  seek_drop (suc k) rs [] = refl
  seek_drop (suc k) rs (b ∷ p) = seek_drop k rs p

  abbrev is_empty : RowsOf K → Bool
  is_empty [] = true
  is_empty (r ∷ rs) = false

  empty : (rs : RowsOf K) → is_empty rs ≡ true → rs ≡ []
  empty [] e = refl
  empty (r ∷ rs) e = absurd (false≢true e)

  -- the rows that go on with these bytes
  abbrev pub steps : List ℕ → RowsOf K → RowsOf K
  steps [] rs = rs
  steps (b ∷ w) rs = steps w (step b rs)

  -- along these bytes no row has a parameter
  abbrev pub is_literal : List ℕ → RowsOf K → Bool
  is_literal [] rs = true
  is_literal (b ∷ w) rs = is_empty (step param_token rs) && (is_empty (step catch_all_token rs) && is_literal w (step b rs))

  seek_byte : (b : ℕ) (p : List ℕ) (rs : RowsOf K) → step param_token rs ≡ [] → step catch_all_token rs ≡ []
      → seek 0 rs (b ∷ p) ≡ seek 0 (step b rs) p
  unfolding seek
  seek_byte b p rs no_param no_catch =
      simp (no_param, no_catch, param_step_none (b ∷ p), seek_none ((param_step {K = K} [] (b ∷ p)).0 - 1) p, or_none)

  pub seek_text : (w p : List ℕ) (rs : RowsOf K) → is_literal w rs ≡ true → seek 0 rs (w ++ p) ≡ seek 0 (steps w rs) p
  seek_text [] p rs h = refl
  seek_text (b ∷ w) p rs h =
      let first = and_parts _ _ h in
      let then = and_parts _ _ first.1 in
      seek_byte b (w ++ p) rs (empty _ first.0) (empty _ then.0) ∙ seek_text w p (step b rs) then.1

  -- ---- numbers

  -- where a parameter must come, the walk goes on behind it
  seek_param : (rs : RowsOf K) (b : ℕ) (p : List ℕ) (taken : ℕ) (more : RowsOf K) → step b rs ≡ [] → step catch_all_token rs ≡ []
      → param_step (step param_token rs) (b ∷ p) ≡ (suc taken, more) → seek 0 rs (b ∷ p) ≡ seek 0 more (drop taken p)
  unfolding seek
  seek_param rs b p taken more no_byte no_catch is =
      let one : suc taken - 1 ≡ taken = omega arith in
      simp (no_byte, no_catch, is, seek_none 0 p, or_none, one) (seek_drop taken more p)

  param_to_end : (rs : RowsOf K) (x : List ℕ) → AllDigits 10 x → longest_suffix x rs ≡ [] → param_step rs x ≡ (length x, rs)
  unfolding param_step
  param_to_end rs x d none = rw (digits_segment x d, none, digits_no_slash x d) refl

  param_to_slash : (rs : RowsOf K) (x rest : List ℕ) → AllDigits 10 x → longest_suffix (x ++ 47 ∷ []) rs ≡ 47 ∷ []
      → param_step rs (x ++ 47 ∷ rest) ≡ (length x, with_suffix (47 ∷ []) rs)
  unfolding param_step
  param_to_slash rs x rest d slash =
      let size : length (x ++ 47 ∷ []) - 1 ≡ length x = omega (arith, length-append x (47 ∷ [])) in
      rw (segment_to_slash x rest d, slash) (ap (λ n. (n, with_suffix (47 ∷ []) rs)) size)

  -- a number at the end of the path
  pub seek_number : (rs : RowsOf K) (x : List ℕ) (k : K) → AllDigits 10 x → 0 < length x → ((b : ℕ) → b < 256 → step b rs ≡ [])
      → step catch_all_token rs ≡ [] → longest_suffix x (step param_token rs) ≡ [] → own (step param_token rs) ≡ Some k → seek 0 rs x ≡ Some k
  unfolding seek
  seek_number rs [] k d some bytes no_catch none is = absurd (omega arith)
  seek_number rs (b ∷ p) k d some bytes no_catch none is =
      seek_param rs b p (length p) (step param_token rs) (bytes b (below_tokens b p d)) no_catch (param_to_end (step param_token rs) (b ∷ p) d none)
      ∙ ap (seek 0 (step param_token rs)) (drop_end p) ∙ is

  -- a number and a slash behind it
  pub seek_number_then : (rs : RowsOf K) (x rest : List ℕ) (o : Option K) → AllDigits 10 x → 0 < length x → ((b : ℕ) → b < 256 → step b rs ≡ [])
      → step catch_all_token rs ≡ [] → longest_suffix (x ++ 47 ∷ []) (step param_token rs) ≡ 47 ∷ []
      → seek 0 (with_suffix (47 ∷ []) (step param_token rs)) (47 ∷ rest) ≡ o → seek 0 rs (x ++ 47 ∷ rest) ≡ o
  seek_number_then rs [] rest o d some bytes no_catch slash is = absurd (omega arith)
  seek_number_then rs (b ∷ p) rest o d some bytes no_catch slash is =
      seek_param rs b (p ++ 47 ∷ rest) (length p) (with_suffix (47 ∷ []) (step param_token rs)) (bytes b (below_tokens b p d)) no_catch
      (param_to_slash (step param_token rs) (b ∷ p) rest d slash)
      ∙ ap (seek 0 (with_suffix (47 ∷ []) (step param_token rs))) (drop-append_seam p (47 ∷ rest)) ∙ is

-- ---- the part that a parameter took

-- bytes below the tokens
abbrev pub are_bytes : List ℕ → Bool
are_bytes [] = true
are_bytes (b ∷ w) = ltb b param_token && are_bytes w

pub wild_at : (w rest : List ℕ) (len token at : ℕ) → are_bytes w ≡ true → at + length w ≤ len
    → wild_from (w ++ param_token ∷ rest) len token at ≡ (token + length w, at + length w)
wild_at [] rest len token at all fits = λ i. (sym (add-zero token) i, sym (add-zero at) i)
wild_at (b ∷ w) rest len token at all fits =
    let parts = and_parts (ltb b 256) (are_bytes w) all in
    let sum1 : token + 1 + length w ≡ token + length (b ∷ w) = omega arith in
    let sum2 : at + 1 + length w ≡ at + length (b ∷ w) = omega arith in
    rw (parts.0, lt-ltb at len (omega arith)) (wild_at w rest len (token + 1) (at + 1) parts.1 (omega arith) ∙ (λ i. (sum1 i, sum2 i)))

pub part_is : (w x rest : List ℕ) → part_of (w ++ (x ++ rest)) (length w) (length w + length x) ≡ x
part_is w x rest =
    let total : length w + length x ≤ length (w ++ (x ++ rest)) = omega (arith, length-append w (x ++ rest), length-append x rest) in
    let size : length w + length x - length w ≡ length x = omega arith in
    rw (le-leb (length w) (length w + length x) (omega arith), le-leb (length w + length x) (length (w ++ (x ++ rest))) total, size, drop-append_seam w (x ++ rest))
    (take_at x rest (length x) refl)
