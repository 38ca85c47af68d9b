-- A register as contracts see it.
use Rattle.std.specs.Prelude.{ℕ, ◌==◌, List, find, Option, option_map}
use Rattle.folio_sections.specs.PartState.{PartState}
use Rattle.registrar.specs.declared.verdicts.Verdict.{Verdict}

-- a register's parts, what became of each item, by its number, and its open folios
pub record RegisterState : Type 0 where
  pub parts : List PartState
  pub verdicts : List (ℕ × Verdict)
  pub folios : List ℕ

-- what became of item n among these; none where it is not among them
abbrev pub verdict_among : List (ℕ × Verdict) → ℕ → Option Verdict
verdict_among verdicts n = option_map (λ v. v.1) (find (λ v. v.0 == n) verdicts)
