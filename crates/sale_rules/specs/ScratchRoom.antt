-- How much a scratch is for, and how much memory it has.
use Rattle.std.specs.Prelude.{ℕ}

-- how many rights of a folio, and how many exchanges of ranks among them, it is for; and the memory of its lists
pub record ScratchRoom : Type 0 where
  pub rights : ℕ
  pub exchanges : ℕ
  pub capacity : ℕ
