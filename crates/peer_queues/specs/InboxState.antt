-- What a peer has sent and the office has not read.
use Rattle.std.specs.Prelude.{ℕ, Bool, List}

-- the bytes that the office is still to be given of what is opened, those behind them, whether the peer's bytes have ended, and whether some were opened before
pub record InboxState : Type 0 where
  pub giving : List ℕ
  pub kept : List ℕ
  pub ended : Bool
  pub known : Bool
