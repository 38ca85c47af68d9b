-- The runs of equal rank, found claim by claim, are the groups.
use Rattle.std.proofs.Common.{◌≡◌, ℕ, ◌+◌, ◌<◌, Bool, true, false, cond, not, ◌||◌, ◌==◌, List, [], ◌∷◌, ◌++◌, drop, filter, length, map, refl, sym, ap, ◌∙◌, append_assoc, append-nil, arith}
use Rattle.std.specs.Prelude.{take_while}
use Rattle.std.specs.List.{enumerate_from}
use Rattle.std.proofs.lemmas.Bool.Decides.{nat_tests}
use Rattle.std.proofs.lemmas.List.{drop_at, length-append}
use Rattle.std.proofs.lemmas.List.Sums.{take_while-cons}
use Rattle.auction_classes.specs.declared.claim_items.ClaimItem.{ClaimItem}
use Rattle.proceeds_split.specs.Plan.{begins_group, group_from, groups}
use Rattle.proceeds_split.specs.inner.Runs.{runs, runs_behind}

-- the claim ranks equally with the one before it
abbrev joins : ClaimItem → Bool
joins claim = claim.with_previous

-- the groups of the whole that begin among these claims, which have the numbers from n on
abbrev groups_from : List ClaimItem → ℕ → List ClaimItem → List (List ClaimItem)
groups_from whole n claims = map (group_from whole) (filter begins_group (enumerate_from n claims))

-- The run that was begun goes on as far as claims join it, and behind it come the groups that begin later.
runs_left : (whole done run claims : List ClaimItem) (n : ℕ) → whole ≡ done ++ claims → length done ≡ n → 0 < n
    → runs_behind run claims ≡ (run ++ take_while joins claims) ∷ groups_from whole n claims
runs_left whole done run [] n is at some = ap (λ xs. xs ∷ []) (sym (append-nil run))
runs_left whole done run (x ∷ xs) n is at some =
    let next : whole ≡ (done ++ x ∷ []) ++ xs = is ∙ sym (append_assoc done (x ∷ []) xs) in
    let size = length-append done (x ∷ []) in
    let more : length (done ++ x ∷ []) ≡ n + 1 = omega (arith, size, at) in
    let later = λ (r : List ClaimItem). runs_left whole (done ++ x ∷ []) r xs (n + 1) next more (omega arith) in
    let front : take_while joins (x ∷ xs) ≡ cond (joins x) (x ∷ take_while joins xs) [] = take_while-cons joins x xs in
    let none : (n == 0) ≡ false = grind (arith, nat_tests, some) in
    let rest : drop (n + 1) whole ≡ xs = ap (drop (n + 1)) next ∙ drop_at (done ++ x ∷ []) xs (n + 1) more in
    let groups_later : List (List ClaimItem) = groups_from whole (n + 1) xs in
    let begins : groups_from whole n (x ∷ xs) ≡ cond (not (joins x)) (group_from whole (n, x) ∷ groups_later) groups_later =
    (λ k. map (group_from whole) (cond (none k || not (joins x)) ((n, x) ∷ filter begins_group (enumerate_from (n + 1) xs)) (filter begins_group (enumerate_from (n + 1) xs))))
    ∙ mapped (not (joins x)) in
    elim (joins x) as (λ b. take_while joins (x ∷ xs) ≡ cond b (x ∷ take_while joins xs) [] → groups_from whole n (x ∷ xs) ≡ cond (not b) (group_from whole (n, x) ∷ groups_later) groups_later
    → cond b (runs_behind (run ++ x ∷ []) xs) (run ∷ runs_behind (x ∷ []) xs) ≡ (run ++ take_while joins (x ∷ xs)) ∷ groups_from whole n (x ∷ xs)) [
      | true ↦ λ goes own.
          later (run ++ x ∷ []) ∙ (λ k. (append_assoc run (x ∷ []) (take_while joins xs) ∙ ap (λ ys. run ++ ys) (sym goes)) k ∷ sym own k)
      | false ↦ λ ends own.
          ap (λ gs. run ∷ gs) (later (x ∷ []) ∙ ap (λ ys. (x ∷ take_while joins ys) ∷ groups_later) (sym rest))
          ∙ (λ k. (sym (append-nil run) ∙ ap (λ ys. run ++ ys) (sym ends)) k ∷ sym own k)
    ] front begins
  where
    mapped : (b : Bool) → map (group_from whole) (cond b ((n, x) ∷ filter begins_group (enumerate_from (n + 1) xs)) (filter begins_group (enumerate_from (n + 1) xs)))
        ≡ cond b (group_from whole (n, x) ∷ groups_from whole (n + 1) xs) (groups_from whole (n + 1) xs)
    mapped true = refl
    mapped false = refl

pub runs_are : (claims : List ClaimItem) → runs claims ≡ groups claims
runs_are [] = refl
runs_are (x ∷ xs) = runs_left (x ∷ xs) (x ∷ []) (x ∷ []) xs 1 refl refl (omega arith)
