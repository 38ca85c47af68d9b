-- The number of a right.
use Rattle.std.specs.Prelude.{ℕ, Bool, ◌&&◌, ◌==◌}

-- what a right's number says: the receipt of the creating filing, and the act's number in it
pub record RightNo : Type 0 where
  pub receipt : ℕ
  pub act : ℕ

-- two rights have the same number
abbrev pub same_right : RightNo → RightNo → Bool
same_right a b = a.receipt == b.receipt && a.act == b.act
