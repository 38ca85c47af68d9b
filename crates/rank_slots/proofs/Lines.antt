-- Pieces stand for their line.
use Rattle.std.proofs.Common.{◌≡◌, ℕ, zero, suc, ◌+◌, ◌-◌, ◌*◌, ◌<◌, ◌≤◌, Bool, true, false, ◌&&◌, ◌||◌, cond, nat_lt, List, [], ◌∷◌, ◌++◌, count_by, drop, get_or, length, min, refl, replicate, subst, sum_by, sym, take, ap, arith, inl, inr, ◌∙◌}
use Rattle.std.proofs.lemmas.Bool.{cases_lt, lt-ltb, le-ltb}
use Rattle.std.proofs.Math.Bool.{or-false, or_self}
use Rattle.std.proofs.lemmas.List.Folds.{list_any-append}
use Rattle.std.specs.List.{list_any}
use Rattle.std.proofs.lemmas.List.{append-nil, drop-append-le, drop-replicate, drop_more, length-append, length-replicate, take-append-le, take-replicate}
use Rattle.std.proofs.lemmas.List.Concat.{flat_map-append}
use Rattle.std.proofs.lemmas.List.Sums.{sum_by-append, sum_by-cons, sum_by_more}
use Rattle.std.proofs.lemmas.List.Folds.{sum_by-replicate}
use Rattle.std.proofs.Math.Seq.{drop-append-add, take-append-add}
use Rattle.gb_base.specs.RightNo.{RightNo}
use Rattle.rank_slots.specs.declared.places.Piece.{Piece}
use Rattle.rank_slots.specs.inner.Pieces.{line_of}

-- the line with one more piece
pub line_push : (ps : List Piece) (p : Piece) → line_of (ps ++ p ∷ []) ≡ line_of ps ++ replicate p.cents p.right
line_push ps p = flat_map-append (λ q. replicate q.cents q.right) ps (p ∷ []) ∙ ap (λ t. line_of ps ++ t) (append-nil (replicate p.cents p.right))

pub line_drop : (ps : List Piece) (i : ℕ) (d : Piece) → i < length ps → line_of (drop i ps) ≡ replicate (get_or ps i d).cents (get_or ps i d).right ++ line_of (drop (i + 1) ps)
line_drop ps i d h = ap line_of (drop_more ps i d h)

-- the line has as many cents as the pieces
pub length_line : (ps : List Piece) → length (line_of ps) ≡ sum_by (λ p. p.cents) ps
length_line [] = refl
length_line (p ∷ ps) =
    length-append (replicate p.cents p.right) (line_of ps)
    ∙ (λ i. length-replicate p.cents p.right i + length_line ps i)
    ∙ sym (sum_by-cons (λ q. q.cents) p ps)

-- the first cents of a line that begins with n of one right
take_fewer : (left n : ℕ) (c : RightNo) (cs : List RightNo) → left ≤ n → take left (replicate n c ++ cs) ≡ replicate left c
take_fewer left n c cs few = take-append-le left (replicate n c) cs (subst (λ k. left ≤ k) (sym (length-replicate n c)) few) ∙ take-replicate left n c few

take_others : (n m : ℕ) (c : RightNo) (cs : List RightNo) → take (n + m) (replicate n c ++ cs) ≡ replicate n c ++ take m cs
take_others n m c cs = ap (λ k. take (k + m) (replicate n c ++ cs)) (sym (length-replicate n c)) ∙ take-append-add (replicate n c) cs m

count_replicate : (test : RightNo → Bool) (n : ℕ) (c : RightNo) → count_by test (replicate n c) ≡ n * cond (test c) 1 0
count_replicate test n c = sum_by-replicate (λ x. cond (test x) 1 0) n c

times_tally : (n : ℕ) (b : Bool) → n * cond b 1 0 ≡ cond b n 0
times_tally n true = omega arith
times_tally n false = omega arith

-- how many of the first `left` cents pass a test, where n of one right come first
pub counted_front : (test : RightNo → Bool) (left n : ℕ) (c : RightNo) (cs : List RightNo) → count_by test (take left (replicate n c ++ cs)) ≡ cond (test c) (min left n) 0 + count_by test (take (left - min left n) cs)
counted_front test left n c cs = elim (cases_lt left n) [
  | inl less ↦
      let all : min left n ≡ left = omega arith in
      let none : left - min left n ≡ 0 = omega arith in
      let front = ap (count_by test) (take_fewer left n c cs (omega arith)) ∙ count_replicate test left c ∙ times_tally left (test c) in
      rw (none, all) (front ∙ omega arith)
  | inr more ↦
      let all : min left n ≡ n = omega arith in
      let whole : n + (left - n) ≡ left = omega arith in
      let front = ap (λ k. count_by test (take k (replicate n c ++ cs))) (sym whole)
      ∙ ap (count_by test) (take_others n (left - n) c cs)
      ∙ sum_by-append (λ x. cond (test x) 1 0) (replicate n c) (take (left - n) cs)
      ∙ (λ i. (count_replicate test n c ∙ times_tally n (test c)) i + count_by test (take (left - n) cs)) in
      rw all front
]

-- whether one passes among some of one right
any_replicate : (test : RightNo → Bool) (n : ℕ) (c : RightNo) → list_any test (replicate (suc n) c) ≡ test c
any_replicate test zero c = or-false (test c)
any_replicate test (suc n) c = ap (λ b. test c || b) (any_replicate test n c) ∙ or_self (test c)

any_some : (test : RightNo → Bool) (n : ℕ) (c : RightNo) → 0 < n → list_any test (replicate n c) ≡ test c
any_some test zero c some = absurd (omega arith)
any_some test (suc n) c some = any_replicate test n c

-- whether one passes behind the first `left` cents, where n of one right come first
pub any_behind : (test : RightNo → Bool) (left n : ℕ) (c : RightNo) (cs : List RightNo)
    → list_any test (drop left (replicate n c ++ cs)) ≡ (nat_lt left n && test c) || list_any test (drop (left - n) cs)
any_behind test left n c cs = elim (cases_lt left n) [
  | inl less ↦
      let none : left - n ≡ 0 = omega arith in
      let front = drop-append-le left (replicate n c) cs (omega (arith, length-replicate n c)) ∙ ap (λ xs. xs ++ cs) (drop-replicate left n c) in
      let some = list_any-append test (replicate (n - left) c) cs ∙ ap (λ b. b || list_any test cs) (any_some test (n - left) c (omega arith)) in
      rw (none, lt-ltb left n less) (ap (list_any test) front ∙ some)
  | inr more ↦
      let whole : length (replicate n c) + (left - n) ≡ left = omega (arith, length-replicate n c) in
      rw (le-ltb left n more) (ap (λ k. list_any test (drop k (replicate n c ++ cs))) (sym whole) ∙ ap (list_any test) (drop-append-add (replicate n c) cs (left - n)))
]

-- ---- at the piece that a loop reads

pub line_at : (ps : List Piece) (i : ℕ) (p : Piece) → i < length ps → p ≡ get_or ps i p → line_of (drop i ps) ≡ replicate p.cents p.right ++ line_of (drop (i + 1) ps)
line_at ps i p here is = line_drop ps i p here ∙ ap (λ q. replicate q.cents q.right ++ line_of (drop (i + 1) ps)) (sym is)

pub sum_so_far : (ps : List Piece) (i : ℕ) (p : Piece) → i < length ps → p ≡ get_or ps i p → sum_by (λ q. q.cents) (take (i + 1) ps) ≡ sum_by (λ q. q.cents) (take i ps) + p.cents
sum_so_far ps i p here is = sum_by_more (λ q. q.cents) ps i p here ∙ ap (λ q. sum_by (λ r. r.cents) (take i ps) + q.cents) (sym is)
