-- Where the empty line of a head stands.
-- Why so: docs/DECISIONS.md, "Where a head's empty line stands is said without a machine".
use Rattle.std.specs.Prelude.{◌≡◌, ℕ, ◌==◌, Bool, false, ◌||◌, ◌&&◌, List, [], ◌∷◌, ◌++◌}
use Rattle.httparse.specs.Grammar.{LineEnd, print_end, print_blank}

-- the bytes begin with a line end: LF, or CR and LF
abbrev pub begins_with_end : List ℕ → Bool
begins_with_end [] = false
begins_with_end (a ∷ []) = a == 10
begins_with_end (a ∷ b ∷ bytes) = a == 10 || (a == 13 && b == 10)

-- the bytes have an empty line behind a line that is not empty: first line ends, which do not count; then lines up to an LF, the
-- first of which is not empty; and right behind that LF a line end
pub record HasEmptyLine (bytes : List ℕ) : Type 0 where
  pub blank : List LineEnd
  pub lines : List ℕ
  pub end : LineEnd
  pub rest : List ℕ
  pub bytes_are : bytes ≡ print_blank blank ++ (lines ++ 10 ∷ (print_end end ++ rest))
  pub first_is_some : begins_with_end (lines ++ 10 ∷ []) ≡ false
