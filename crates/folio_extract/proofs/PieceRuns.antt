-- The pieces at the front of a line that are of one group make the first piece once groups are joined.
use Rattle.std.proofs.Common.{◌≡◌, ℕ, zero, suc, ◌+◌, ◌-◌, ◌≤◌, ◌<◌, true, false, cond, List, [], ◌∷◌, drop, get_or, length, sum_by, take, refl, sym, ap, ◌∙◌, arith}
use Rattle.std.proofs.lemmas.List.Sums.{sum_by-cons}
use Rattle.rank_slots.specs.declared.places.Piece.{Piece}
use Rattle.rank_slots.specs.declared.places.Place.{Place}
use Rattle.rank_slots.specs.Groups.{shares_group}
use Rattle.folio_extract.specs.CentTexts.{joined_groups, with_piece}
use Rattle.folio_extract.specs.inner.PieceRuns.{run_len}

-- how many cents these pieces have
abbrev pub cents_of : List Piece → ℕ
cents_of ps = sum_by (λ p. p.cents) ps

-- the first so many pieces as one, under the right of the first, and then the others with their groups joined
abbrev joined_to : List Place → Piece → List Piece → ℕ → List Piece
joined_to places p ps n = record { right = p.right; cents = cents_of (take n (p ∷ ps)) } ∷ joined_groups places (drop n (p ∷ ps))

-- one piece has just its own cents
alone : (p : Piece) (ps : List Piece) → p ∷ ps ≡ record { right = p.right; cents = cents_of (take 1 (p ∷ ps)) } ∷ ps
alone p ps =
    let own : p.cents ≡ 0 + p.cents = omega arith in
    ap (λ n. record { right = p.right; cents = n } ∷ ps) own

pub first_run : (places : List Place) (p : Piece) (ps : List Piece) → joined_groups places (p ∷ ps) ≡ joined_to places p ps (run_len places (p ∷ ps))
first_run places p [] = alone p []
first_run places p (q ∷ qs) =
    let next = run_len places (q ∷ qs) in
    ap (with_piece places p) (first_run places q qs)
    ∙ elim (shares_group places p.right q.right)
    as (λ b. cond b (record { right = p.right; cents = p.cents + cents_of (take next (q ∷ qs)) } ∷ joined_groups places (drop next (q ∷ qs)))
    (p ∷ joined_to places q qs next) ≡ joined_to places p (q ∷ qs) (cond b (suc next) 1)) [
      | true ↦ ap (λ n. record { right = p.right; cents = n } ∷ joined_groups places (drop next (q ∷ qs))) (sym (sum_by-cons (λ (x : Piece). x.cents) p (take next (q ∷ qs))))
      | false ↦ ap (λ xs. p ∷ xs) (sym (first_run places q qs)) ∙ alone p (joined_groups places (q ∷ qs))
    ]

-- ---- how long the run is, piece by piece

pub run_from : (places : List Place) (ps : List Piece) (n : ℕ) (a b : Piece) → suc n < length ps → a ≡ get_or ps n a → b ≡ get_or ps (suc n) b
    → run_len places (drop n ps) ≡ cond (shares_group places a.right b.right) (suc (run_len places (drop (suc n) ps))) 1
run_from places [] n a b within first second = absurd (omega (arith, within))
run_from places (p ∷ []) n a b within first second = absurd (omega (arith, within))
run_from places (p ∷ q ∷ qs) zero a b within first second =
    λ i. cond (shares_group places ((sym first) i).right ((sym second) i).right) (suc (run_len places (q ∷ qs))) 1
run_from places (p ∷ q ∷ qs) (suc n) a b within first second = run_from places (q ∷ qs) n a b (omega (arith, within)) first second

-- the last piece is a run of its own
pub run_of_last : (places : List Place) (ps : List Piece) (n : ℕ) → n + 1 ≡ length ps → run_len places (drop n ps) ≡ 1
run_of_last places [] n last = absurd (omega (arith, last))
run_of_last places (p ∷ []) zero last = refl
run_of_last places (p ∷ q ∷ qs) zero last = absurd (omega (arith, last))
run_of_last places (p ∷ ps) (suc n) last = run_of_last places ps n (omega (arith, last))

-- The run that goes on from the last piece that is counted, with the pieces before it, is the whole run.
pub record RunsOn (places : List Place) (ps : List Piece) (len : ℕ) : Type 0 where
  pub some : 1 ≤ len
  pub within : len ≤ length ps
  pub whole : len - 1 + run_len places (drop (len - 1) ps) ≡ run_len places ps

after_one : (n : ℕ) → 1 ≤ n → suc (n - 1) ≡ n
after_one n some = omega (arith, some)

-- the run that begins at the last piece counted goes on where the next two pieces share a group
next_pair : (places : List Place) (ps : List Piece) (len : ℕ) (a b : Piece) → RunsOn places ps len → len < length ps → a ≡ get_or ps (len - 1) a → b ≡ get_or ps len b
    → run_len places (drop (len - 1) ps) ≡ cond (shares_group places a.right b.right) (suc (run_len places (drop len ps))) 1
next_pair places ps len a b runs more first second =
    let one = after_one len runs.some in
    run_from places ps (len - 1) a b (omega (arith, one, more)) first (second ∙ ap (λ n. get_or ps n b) (sym one))
    ∙ ap (λ n. cond (shares_group places a.right b.right) (suc (run_len places (drop n ps))) 1) one

pub runs_one_more : (places : List Place) (ps : List Piece) (len : ℕ) (a b : Piece) → RunsOn places ps len → len < length ps → a ≡ get_or ps (len - 1) a → b ≡ get_or ps len b
    → shares_group places a.right b.right ≡ true → RunsOn places ps (len + 1)
runs_one_more places ps len a b runs more first second shared =
    let pair = next_pair places ps len a b runs more first second ∙ ap (λ t. cond t (suc (run_len places (drop len ps))) 1) shared in
    let whole = runs.whole in
    let some = runs.some in
    let back : len + 1 - 1 ≡ len = omega arith in
    record {
      some = omega arith;
      within = omega (arith, more);
      whole = ap (λ n. n + run_len places (drop n ps)) back ∙ omega (arith, pair, whole, some);
    }

pub run_stops : (places : List Place) (ps : List Piece) (len : ℕ) (a b : Piece) → RunsOn places ps len → len < length ps → a ≡ get_or ps (len - 1) a → b ≡ get_or ps len b
    → shares_group places a.right b.right ≡ false → len ≡ run_len places ps
run_stops places ps len a b runs more first second apart =
    let pair = next_pair places ps len a b runs more first second ∙ ap (λ t. cond t (suc (run_len places (drop len ps))) 1) apart in
    let whole = runs.whole in
    let some = runs.some in
    omega (arith, pair, whole, some)

pub run_ends : (places : List Place) (ps : List Piece) (len : ℕ) → RunsOn places ps len → length ps ≤ len → len ≡ run_len places ps
run_ends places ps len runs end =
    let within = runs.within in
    let some = runs.some in
    let last = run_of_last places ps (len - 1) (omega (arith, within, end, some)) in
    let whole = runs.whole in
    omega (arith, last, whole, some)
