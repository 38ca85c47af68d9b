-- A request as callers see it.
use Rattle.std.specs.Prelude.{ℕ, Bool, List}

-- a request: its method, its target and its body, and whether the connection ends after it
pub record RequestParts : Type 0 where
  pub method : List ℕ
  pub path : List ℕ
  pub body : List ℕ
  pub last : Bool
