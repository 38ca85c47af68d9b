-- Claims are paid run by run.
use Rattle.std.proofs.Common.{◌≡◌, ℕ, ◌+◌, ◌-◌, ◌<◌, ◌≤◌, true, false, cond, List, [], ◌∷◌, ◌++◌, All, drop, get_or, length, map, take, refl, sym, ap, ◌∙◌, subst, arith}
use Rattle.std.specs.List.{AllByRecursion}
use Rattle.std.proofs.lemmas.List.{drop_all, drop_more, get_or-drop, length-drop, length-take, take_more}
use Rattle.std.proofs.lemmas.List.Elements.{All-from_recursion, recursion_from_All}
use Rattle.auction_classes.specs.PayableClaims.{IsAmountClaimed, amount_claimed}
use Rattle.auction_classes.specs.declared.claim_items.ClaimItem.{ClaimItem}
use Rattle.proceeds_split.specs.Plan.{in_proportion, in_rank, in_turn}
use Rattle.proceeds_split.specs.declared.payments.Payments.{Payments}
use Rattle.proceeds_split.specs.declared.plan_lines.PlanLine.{PlanLine}
use Rattle.proceeds_split.specs.declared.plan_lines.PlanPart.{PlanPart}
use Rattle.proceeds_split.specs.inner.Payments.{AddsLines, Pays}
use Rattle.proceeds_split.specs.inner.Runs.{runs_behind, runs_in_turn}
use Rattle.proceeds_split.proofs.EqualRank.{runs_are}
use Rattle.proceeds_split.proofs.LinesAdded.{AreToAdd, all_added, all_to_add, next_added}

-- each amount is at least a cent
pub amounts_some : (claims : List ClaimItem) → All IsAmountClaimed claims → All (λ n. 1 ≤ n) (map amount_claimed claims)
amounts_some claims all = All-from_recursion (λ n. 1 ≤ n) (map amount_claimed claims) (each claims (recursion_from_All IsAmountClaimed claims all))
  where
    each : (cs : List ClaimItem) → AllByRecursion IsAmountClaimed cs → AllByRecursion (λ n. 1 ≤ n) (map amount_claimed cs)
    each [] none = tt
    each (c ∷ cs) some = (some.0.some, each cs some.1)

-- the claims from one number up to another
abbrev pub between : List ClaimItem → ℕ → ℕ → List ClaimItem
between claims start end = take (end - start) (drop start claims)

-- the lines of a run and of those behind it
abbrev lines_left : PlanPart → List ClaimItem → List ClaimItem → ℕ → List PlanLine
lines_left part run behind money = in_turn (map (in_proportion part) (runs_behind run behind)) money

-- the run that was begun, and those behind it, are still to be paid
pub record AreRunsLeft (part : PlanPart) (claims : List ClaimItem) (start i : ℕ) (before now : Payments) : Type 0 where
  pub begun : start < i
  pub within : i ≤ length claims
  pub to_pay : AreToAdd (runs_in_turn part claims before.left) (in_turn (map (in_proportion part) (runs_behind (between claims start i) (drop i claims))) now.left) (length claims) (length claims - start) before now

-- the first run begins with the first claim
pub run_begins : (part : PlanPart) (claims : List ClaimItem) (p : Payments) → 1 ≤ length claims → AreRunsLeft part claims 0 1 p p
run_begins part [] p some = absurd (omega (arith, some))
run_begins part (c ∷ cs) p some =
    let all = runs_in_turn part (c ∷ cs) p.left in
    let none : length (c ∷ cs) ≡ length (c ∷ cs) - 0 = omega arith in
    record { begun = omega arith; within = some; to_pay = subst (λ n. AreToAdd all all (length (c ∷ cs)) n p p) none (all_to_add all (length (c ∷ cs)) p) }

between_length : (claims : List ClaimItem) (start i : ℕ) → i ≤ length claims → length (between claims start i) ≡ i - start
between_length claims start i within =
    let front = length-take (i - start) (drop start claims) in
    let rest = length-drop start claims in
    omega (arith, front, rest, within)

-- what is left begins with claim i
left_from : (claims : List ClaimItem) (i : ℕ) (x : ClaimItem) → i < length claims → x ≡ get_or claims i x → drop i claims ≡ x ∷ drop (i + 1) claims
left_from claims i x within is = drop_more claims i x within ∙ ap (λ y. y ∷ drop (i + 1) claims) (sym is)

-- claim i begins a run, and the run before it is paid
pub run_paid : (part : PlanPart) (claims : List ClaimItem) (start i : ℕ) (x : ClaimItem) (before now after : Payments) → AreRunsLeft part claims start i before now → i < length claims → x ≡ get_or claims i x
    → (get_or claims i x).with_previous ≡ false → Pays (length (between claims start i)) (in_proportion part (between claims start i)) now after → AreRunsLeft part claims i (i + 1) before after
run_paid part claims start i x before now after runs within is first pays =
    let run = between claims start i in
    let rest = drop (i + 1) claims in
    let left = left_from claims i x within is in
    let here = in_proportion part run now.left in
    let begins : x.with_previous ≡ false = ap (λ (y : ClaimItem). y.with_previous) is ∙ first in
    let one : i + 1 - i ≡ 1 = omega arith in
    let next : between claims i (i + 1) ≡ x ∷ [] = (λ k. take (one k) (left k)) in
    let parts : lines_left part run (drop i claims) now.left ≡ here ++ lines_left part (between claims i (i + 1)) rest after.left =
    ap (λ cs. lines_left part run cs now.left) left
    ∙ ap (λ b. in_turn (map (in_proportion part) (cond b (runs_behind (run ++ x ∷ []) rest) (run ∷ runs_behind (x ∷ []) rest))) now.left) begins
    ∙ (λ k. here ++ lines_left part (sym next k) rest (sym pays.left k)) in
    let size = between_length claims start i runs.within in
    let begun = runs.begun in
    record {
      begun = omega arith;
      within = omega (arith, within);
      to_pay = next_added (runs_in_turn part claims before.left) here (lines_left part (between claims i (i + 1)) rest after.left) (lines_left part run (drop i claims) now.left) (length claims) (length claims - start) (length run) (length claims - i) before now after
          parts (omega (arith, size, begun, within)) runs.to_pay pays;
    }

-- claim i joins the run
pub run_goes_on : (part : PlanPart) (claims : List ClaimItem) (start i : ℕ) (x : ClaimItem) (before now : Payments) → AreRunsLeft part claims start i before now → i < length claims → x ≡ get_or claims i x
    → (get_or claims i x).with_previous ≡ true → AreRunsLeft part claims start (i + 1) before now
run_goes_on part claims start i x before now runs within is joins =
    let run = between claims start i in
    let rest = drop (i + 1) claims in
    let begun = runs.begun in
    let more : x.with_previous ≡ true = ap (λ (y : ClaimItem). y.with_previous) is ∙ joins in
    let size = length-drop start claims in
    let one : i + 1 - start ≡ i - start + 1 = omega (arith, begun) in
    let at : start + (i - start) ≡ i = omega (arith, begun) in
    let same : get_or (drop start claims) (i - start) x ≡ x = get_or-drop start claims (i - start) x ∙ ap (λ n. get_or claims n x) at ∙ sym is in
    let longer : between claims start (i + 1) ≡ run ++ x ∷ [] =
    ap (λ n. take n (drop start claims)) one ∙ take_more (drop start claims) (i - start) x (omega (arith, size, within, begun)) ∙ ap (λ y. run ++ y ∷ []) same in
    let lines : lines_left part run (drop i claims) now.left ≡ lines_left part (between claims start (i + 1)) rest now.left =
    ap (λ cs. lines_left part run cs now.left) (left_from claims i x within is)
    ∙ ap (λ b. in_turn (map (in_proportion part) (cond b (runs_behind (run ++ x ∷ []) rest) (run ∷ runs_behind (x ∷ []) rest))) now.left) more
    ∙ ap (λ cs. lines_left part cs rest now.left) (sym longer) in
    record {
      begun = omega (arith, begun);
      within = omega (arith, within);
      to_pay = subst (λ ls. AreToAdd (runs_in_turn part claims before.left) ls (length claims) (length claims - start) before now) lines runs.to_pay;
    }

-- the last run is paid
pub run_ends : (part : PlanPart) (claims : List ClaimItem) (start i : ℕ) (before now after : Payments) → AreRunsLeft part claims start i before now → length claims ≤ i
    → Pays (length (between claims start (length claims))) (in_proportion part (between claims start (length claims))) now after → Pays (length claims) (in_rank part claims) before after
run_ends part claims start i before now after runs over pays =
    let run = between claims start (length claims) in
    let all : i ≡ length claims = let within = runs.within in omega (arith, within, over) in
    let none = drop_all i claims over in
    let parts : lines_left part (between claims start i) (drop i claims) now.left ≡ in_proportion part run now.left ++ [] = (λ k. lines_left part (between claims start (all k)) (none k) now.left) in
    let begun = runs.begun in
    let size = between_length claims start (length claims) (omega arith) in
    let later = next_added (runs_in_turn part claims before.left) (in_proportion part run now.left) [] (lines_left part (between claims start i) (drop i claims) now.left) (length claims) (length claims - start) (length run) 0 before now after
    parts (omega (arith, size)) runs.to_pay pays in
    subst (λ groups. AddsLines (length claims) (in_turn (map (in_proportion part) groups) before.left) before after) (runs_are claims) (all_added (runs_in_turn part claims before.left) [] (length claims) 0 before after refl refl later)
