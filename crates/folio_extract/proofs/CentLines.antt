-- The cents of a line, written run by run.
use Rattle.std.proofs.Common.{◌≡◌, ℕ, zero, suc, ◌+◌, ◌≤◌, All, List, [], ◌∷◌, ◌++◌, Some, drop, slice_get, take, sym, ap, ◌∙◌, append_assoc, arith}
use Rattle.std.specs.List.{AllByRecursion}
use Rattle.std.proofs.lemmas.List.Sums.{sum_by-cons, sum_by-take-drop}
use Rattle.std.proofs.lemmas.List.Elements.{All-from_recursion, recursion_from_All}
use Rattle.gb_base.specs.Limits.{most_sum}
use Rattle.rank_slots.specs.declared.places.Piece.{Piece}
use Rattle.rank_slots.specs.declared.places.Place.{Place}
use Rattle.rank_slots.specs.Groups.{group_of}
use Rattle.folio_extract.specs.CentTexts.{joined_groups, piece_line, piece_lines}
use Rattle.folio_extract.specs.inner.PieceRuns.{run_len}
use Rattle.folio_extract.proofs.PieceRuns.{cents_of, first_run}

-- What was written, with the lines of the pieces that are left, is the whole text; the cents keep within a bound, and each piece has some.
pub record WritesOn (places : List Place) (text whole : List ℕ) (from : ℕ) (rest : List Piece) : Type 0 where
  pub written : text ++ piece_lines places from (joined_groups places rest) ≡ whole
  pub begun : 1 ≤ from
  pub bound : from + cents_of rest ≤ most_sum
  pub some : All (λ p. 1 ≤ p.cents) rest

-- each of the pieces that are left has cents
all_behind : (n : ℕ) (ps : List Piece) → AllByRecursion (λ p. 1 ≤ p.cents) ps → AllByRecursion (λ p. 1 ≤ p.cents) (drop n ps)
all_behind zero ps all = all
all_behind (suc n) [] all = tt
all_behind (suc n) (p ∷ ps) all = all_behind n ps all.1

-- a run has cents
some_cents : (n : ℕ) (p : Piece) (ps : List Piece) → 1 ≤ n → 1 ≤ p.cents → 1 ≤ cents_of (take n (p ∷ ps))
some_cents zero p ps some own = absurd (omega (arith, some))
some_cents (suc n) p ps some own = (let sum = sum_by-cons (λ (q : Piece). q.cents) p (take n ps) in omega (arith, sum, own))

-- A run takes at least one cent, and keeps within the bounds.
pub record Takes (from cents : ℕ) : Type 0 where
  pub some : 1 ≤ cents
  pub below : from + cents ≤ most_sum

pub takes : (places : List Place) (text whole : List ℕ) (from : ℕ) (rest : List Piece) (p : Piece) (n : ℕ) → slice_get rest 0 ≡ Some p → 1 ≤ n
    → WritesOn places text whole from rest → Takes from (cents_of (take n rest))
takes places text whole from [] p n first some on = absurd (grind arith)
takes places text whole from (q ∷ qs) p n first some on =
    let all = recursion_from_All (λ (x : Piece). 1 ≤ x.cents) (q ∷ qs) on.some in
    let parts = sum_by-take-drop (λ (x : Piece). x.cents) (q ∷ qs) n in
    let bound = on.bound in
    record { some = some_cents n q qs some all.0; below = omega (arith, parts, bound) }

-- with the run written, the pieces that are left go on
pub goes_on : (places : List Place) (text new whole : List ℕ) (from cents : ℕ) (rest : List Piece) (p : Piece) (n : ℕ) → slice_get rest 0 ≡ Some p → 1 ≤ n → n ≡ run_len places rest
    → cents ≡ cents_of (take n rest) → new ≡ text ++ piece_line from cents (group_of places p.right)
    → WritesOn places text whole from rest → WritesOn places new whole (from + cents) (drop n rest)
goes_on places text new whole from cents [] p n first some run took added on = absurd (grind arith)
goes_on places text new whole from cents (q ∷ qs) p n first some run took added on =
    let rest = q ∷ qs in
    let same : q ≡ p = grind arith in
    let owner = first_run places q qs ∙ ap (λ k. record { right = q.right; cents = cents_of (take k rest) } ∷ joined_groups places (drop k rest)) (sym run) in
    let lines = ap (λ ps. text ++ piece_lines places from ps) owner in
    let behind = piece_lines places (from + cents) (joined_groups places (drop n rest)) in
    let parts = sum_by-take-drop (λ (x : Piece). x.cents) rest n in
    let bound = on.bound in
    let begun = on.begun in
    record {
      written =
          ap (λ t. t ++ behind) added ∙ append_assoc text (piece_line from cents (group_of places p.right)) behind
          ∙ (λ i. text ++ (piece_line from (took i) (group_of places ((sym same) i).right) ++ piece_lines places (from + took i) (joined_groups places (drop n rest))))
          ∙ sym lines ∙ on.written;
      begun = omega (arith, begun);
      bound = omega (arith, parts, bound, took);
      some = All-from_recursion (λ (x : Piece). 1 ≤ x.cents) (drop n rest) (all_behind n rest (recursion_from_All (λ (x : Piece). 1 ≤ x.cents) rest on.some));
    }
