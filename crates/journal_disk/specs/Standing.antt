-- What a file stands for.
use Rattle.std.specs.Prelude.{ℕ}

-- A file is not made yet, or no journal, or bad at an offset, or a journal of this kind.
pub data Standing (J : Type 0) : Type 0 where
  Unmade : Standing J
  Foreign : Standing J
  Bad : ℕ → Standing J
  Journal : J → Standing J
