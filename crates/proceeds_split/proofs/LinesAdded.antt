-- Lines are added to a plan one after the other, and parts in turn.
use Rattle.std.proofs.Common.{◌≡◌, ℕ, ◌+◌, ◌-◌, List, [], ◌∷◌, ◌++◌, append_assoc, append-nil, refl, sym, ap, ◌∙◌, arith, vec_capacity, vec_len}
use Rattle.std.specs.Prelude.{sum_by}
use Rattle.std.proofs.lemmas.List.Sums.{sum_by-append}
use Rattle.proceeds_split.specs.Plan.{in_turn, paid}
use Rattle.proceeds_split.specs.declared.payments.Payments.{Payments}
use Rattle.proceeds_split.specs.declared.plan_lines.PlanLine.{PlanLine}
use Rattle.proceeds_split.specs.inner.Payments.{AddsLines, Pays}

-- ---- one after the other

-- what was added and what is left to add are together all lines; `more` of the `many` lines are left
pub record AreToAdd (all rest : List PlanLine) (many more : ℕ) (before now : Payments) : Type 0 where
  pub lines : now.lines.items ++ rest ≡ before.lines.items ++ all
  pub left : now.left - sum_by paid rest ≡ before.left - sum_by paid all
  pub len : vec_len now.lines + more ≡ vec_len before.lines + many
  pub capacity : vec_capacity now.lines ≡ vec_capacity before.lines

pub all_to_add : (all : List PlanLine) (many : ℕ) (before : Payments) → AreToAdd all all many many before before
all_to_add all many before = record { lines = refl; left = refl; len = refl; capacity = refl }

-- the next lines are added
pub next_added : (all here later rest : List PlanLine) (many more n less : ℕ) (before now after : Payments) → rest ≡ here ++ later → more ≡ n + less
    → AreToAdd all rest many more before now → AddsLines n here now after → AreToAdd all later many less before after
next_added all here later rest many more n less before now after parts fewer is adds =
    let sum = ap (sum_by paid) parts ∙ sum_by-append paid here later in
    record {
      lines = ap (λ xs. xs ++ later) adds.lines ∙ append_assoc now.lines.items here later ∙ ap (λ xs. now.lines.items ++ xs) (sym parts) ∙ is.lines;
      left = let took = adds.left in let was = is.left in omega (arith, took, was, sum);
      len = let took = adds.len in let was = is.len in omega (arith, took, was, fewer);
      capacity = adds.capacity ∙ is.capacity;
    }

-- no line is left to add
pub all_added : (all rest : List PlanLine) (many more : ℕ) (before now : Payments) → rest ≡ [] → more ≡ 0 → AreToAdd all rest many more before now → AddsLines many all before now
all_added all rest many more before now none no_more is =
    let sum = ap (sum_by paid) none in
    record {
      lines = sym (append-nil now.lines.items) ∙ ap (λ xs. now.lines.items ++ xs) (sym none) ∙ is.lines;
      left = let was = is.left in omega (arith, sum, was);
      len = let was = is.len in omega (arith, was, no_more);
      capacity = is.capacity;
    }

-- ---- in turn

pub pays_none : (p : Payments) → Pays 0 (in_turn []) p p
pays_none p = record { lines = sym (append-nil p.lines.items); left = omega arith; len = omega arith; capacity = refl }

pub pays_then : (first : ℕ → List PlanLine) (others : List (ℕ → List PlanLine)) (n m k : ℕ) (a b c : Payments) → k ≡ n + m → Pays n first a b → Pays m (in_turn others) b c → Pays k (in_turn (first ∷ others)) a c
pays_then first others n m k a b c both one two =
    let rest = in_turn others (a.left - sum_by paid (first a.left)) in
    let same : in_turn others b.left ≡ rest = ap (in_turn others) one.left in
    let sum = sum_by-append paid (first a.left) rest in
    let equal = ap (sum_by paid) same in
    record {
      lines = two.lines ∙ (λ i. one.lines i ++ same i) ∙ append_assoc a.lines.items (first a.left) rest;
      left = let x = one.left in let y = two.left in omega (arith, x, y, sum, equal);
      len = let x = one.len in let y = two.len in omega (arith, x, y, both);
      capacity = two.capacity ∙ one.capacity;
    }

-- the parts of two lists in turn
turn_append : (ps qs : List (ℕ → List PlanLine)) (money : ℕ) → in_turn (ps ++ qs) money ≡ in_turn ps money ++ in_turn qs (money - sum_by paid (in_turn ps money))
turn_append [] qs money = let same : money ≡ money - 0 = omega arith in ap (in_turn qs) same
turn_append (p ∷ ps) qs money =
    let left : ℕ = money - sum_by paid (p money) in
    let sum = sum_by-append paid (p money) (in_turn ps left) in
    let same : left - sum_by paid (in_turn ps left) ≡ money - sum_by paid (p money ++ in_turn ps left) = omega (arith, sum) in
    ap (λ xs. p money ++ xs) (turn_append ps qs left ∙ ap (λ m. in_turn ps left ++ in_turn qs m) same)
    ∙ sym (append_assoc (p money) (in_turn ps left) (in_turn qs (money - sum_by paid (p money ++ in_turn ps left))))

pub pays_both : (ps qs : List (ℕ → List PlanLine)) (n m k : ℕ) (a b c : Payments) → k ≡ n + m → Pays n (in_turn ps) a b → Pays m (in_turn qs) b c → Pays k (in_turn (ps ++ qs)) a c
pays_both ps qs n m k a b c both one two =
    let rest = in_turn qs (a.left - sum_by paid (in_turn ps a.left)) in
    let same : in_turn qs b.left ≡ rest = ap (in_turn qs) one.left in
    let all = turn_append ps qs a.left in
    let sum = ap (sum_by paid) all ∙ sum_by-append paid (in_turn ps a.left) rest in
    let equal = ap (sum_by paid) same in
    record {
      lines = two.lines ∙ (λ i. one.lines i ++ same i) ∙ append_assoc a.lines.items (in_turn ps a.left) rest ∙ ap (λ xs. a.lines.items ++ xs) (sym all);
      left = let x = one.left in let y = two.left in omega (arith, x, y, sum, equal);
      len = let x = one.len in let y = two.len in omega (arith, x, y, both);
      capacity = two.capacity ∙ one.capacity;
    }
