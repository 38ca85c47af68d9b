-- Counts of faults: an object that stands outside says by its count that it failed.
use Rattle.std.specs.Prelude.{◌≡◌, ℕ, ◌+◌, ◌-◌, ◌^◌, ◌≤◌, min, Bool, true, false}

-- a count of faults rose, or stands at its type's end
abbrev pub Rose : ℕ → ℕ → Type 0
Rose before now = min (before + 1) (2 ^ 64 - 1) ≤ now

-- What a call does to a count: it never falls, a failure comes only where it rose, and no other answer raises it.
pub record Counts (before now : ℕ) (failed : Bool) : Type 0 where
  pub never_falls : before ≤ now
  pub failed_rose : failed ≡ true → Rose before now
  pub else_same : failed ≡ false → now ≡ before

-- the count of faults after a call: one more where it failed, up to the type's end
abbrev pub faults_after : ℕ → Bool → ℕ
faults_after before false = before
faults_after before true = min (before + 1) (2 ^ 64 - 1)
