-- What payments add to a plan.
use Rattle.std.specs.Prelude.{◌≡◌, ℕ, ◌+◌, ◌-◌, ◌≤◌, List, [], ◌++◌, sum_by, vec_capacity, vec_len}
use Rattle.proceeds_split.specs.Plan.{paid}
use Rattle.proceeds_split.specs.declared.payments.Payments.{Payments}
use Rattle.proceeds_split.specs.declared.plan_lines.PlanLine.{PlanLine}

-- nothing is paid of the money yet, and there is room for so many lines
pub record IsBegun (lines money : ℕ) (p : Payments) : Type 0 where
  pub none : p.lines.items ≡ []
  pub len : vec_len p.lines ≡ 0
  pub room : lines ≤ vec_capacity p.lines
  pub left : p.left ≡ money

-- these lines were added, of which there are so many, and what they pay was taken from what was left
pub record AddsLines (many : ℕ) (added : List PlanLine) (before now : Payments) : Type 0 where
  pub lines : now.lines.items ≡ before.lines.items ++ added
  pub left : now.left ≡ before.left - sum_by paid added
  pub len : vec_len now.lines ≡ vec_len before.lines + many
  pub capacity : vec_capacity now.lines ≡ vec_capacity before.lines

-- the part was paid from what was left, in so many lines
abbrev pub Pays : ℕ → (ℕ → List PlanLine) → Payments → Payments → Type 0
Pays many part before now = AddsLines many (part before.left) before now
