-- What is seen of a log.
use Rattle.std.specs.Prelude.{ℕ, Bool}

-- whether it has failed, and the offset of its closed gate
pub record LogState : Type 0 where
  pub failed : Bool
  pub gate : ℕ
