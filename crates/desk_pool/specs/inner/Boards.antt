-- What is said of the items of a journal.
use Rattle.std.specs.Prelude.{◌≡◌, ℕ, ◌+◌, ◌-◌, ◌≤◌, Bool, true, List, Some, length, slice_get}
use Rattle.act_model.specs.declared.receipts.Receipt.{Receipt}
use Rattle.registrar.specs.RegisterState.{verdict_among}
use Rattle.registrar.specs.Settling.{registrar}
use Rattle.registrar.specs.declared.verdicts.Verdict.{Verdict}

-- a verdict for each item, and whether it is said
pub record BoardState : Type 0 where
  pub verdicts : List Verdict
  pub said : List Bool

-- each verdict that is said is the one registrar's
abbrev pub AreSaid : List Receipt → List Verdict → List Bool → Type 0
AreSaid journal verdicts said =
    (n : ℕ) (verdict : Verdict) → slice_get said n ≡ Some true → slice_get verdicts n ≡ Some verdict → verdict_among (registrar journal).verdicts (n + 1) ≡ Some verdict

-- verdicts, from the first item on, each the one registrar's
abbrev pub AreVerdicts : List Receipt → List Verdict → Type 0
AreVerdicts journal verdicts = (n : ℕ) → 1 ≤ n → n ≤ length verdicts → slice_get verdicts (n - 1) ≡ verdict_among (registrar journal).verdicts n
