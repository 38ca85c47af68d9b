-- Rights that are written group by group: what is written so far, and that the list has room.
use Rattle.std.proofs.Common.{◌≡◌, ℕ, suc, ◌+◌, ◌-◌, ◌<◌, ◌≤◌, List, [], ◌++◌, length, flat_map, sym, ap, ◌∙◌, append_assoc, arith}
use Rattle.std.specs.List.{range_with_len}
use Rattle.std.proofs.lemmas.List.{length-append}
use Rattle.folio_line.specs.FolioRights.{by_group}
use Rattle.folio_line.specs.declared.folio_rights.CreatedRight.{CreatedRight}
use Rattle.folio_line.proofs.GroupedRights.{by_group_few}

-- the numbers from g up to 8 begin with g
one_ahead : (f : ℕ → List CreatedRight) (g : ℕ) → g < 9 → flat_map f (range_with_len g (9 - g)) ≡ f g ++ flat_map f (range_with_len (g + 1) (9 - (g + 1)))
one_ahead f g below =
    let many : 9 - g ≡ suc (9 - (g + 1)) = omega (arith, below) in
    ap (λ n. flat_map f (range_with_len g n)) many

pub next_group : (f : ℕ → List CreatedRight) (g : ℕ) (done new all : List CreatedRight) → g < 9 → new ≡ done ++ f g → done ++ flat_map f (range_with_len g (9 - g)) ≡ all
    → new ++ flat_map f (range_with_len (g + 1) (9 - (g + 1))) ≡ all
next_group f g done new all below wrote whole =
    ap (λ xs. xs ++ flat_map f (range_with_len (g + 1) (9 - (g + 1)))) wrote
    ∙ append_assoc done (f g) (flat_map f (range_with_len (g + 1) (9 - (g + 1)))) ∙ sym (ap (λ xs. done ++ xs) (one_ahead f g below)) ∙ whole

pub group_fits : (f : ℕ → List CreatedRight) (g capacity : ℕ) (done old of_filing : List CreatedRight) → g < 9 → done ++ flat_map f (range_with_len g (9 - g)) ≡ old ++ by_group of_filing
    → length old + length of_filing ≤ capacity → length (done ++ f g) ≤ capacity
group_fits f g capacity done old of_filing below whole room =
    let rest = flat_map f (range_with_len (g + 1) (9 - (g + 1))) in
    let all = ap length (append_assoc done (f g) rest ∙ sym (ap (λ xs. done ++ xs) (one_ahead f g below)) ∙ whole) in
    let left = length-append (done ++ f g) rest in
    let right = length-append old (by_group of_filing) in
    let few = by_group_few of_filing in
    omega (arith, all, left, right, few, room)

-- what is written and what is left are no more than all, where a front is written by group
pub still_few : (done new rest front behind : List CreatedRight) (most : ℕ) → new ≡ done ++ by_group front → length front + length behind ≤ length rest → length done + length rest ≤ most → length new + length behind ≤ most
still_few done new rest front behind most wrote parts few =
    let whole = ap length wrote ∙ length-append done (by_group front) in
    let less = by_group_few front in
    omega (arith, whole, less, parts, few)
