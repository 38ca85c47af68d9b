-- A frame of the file.
use Rattle.std.specs.Prelude.{ℕ, List}

-- the offset of a frame's gate, and its body
pub record FrameAt : Type 0 where
  pub at : ℕ
  pub body : List ℕ
