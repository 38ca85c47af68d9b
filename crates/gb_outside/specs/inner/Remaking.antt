-- The calls of a record, made once more to find what a stop after them leaves.
use Rattle.std.specs.Prelude.{ℕ, ◌≤◌, List, [], ◌∷◌, length, take, drop}
use Rattle.gb_outside.specs.Recorded.{overwritten}
use Rattle.gb_outside.specs.Stops.{left_by_write}
use Rattle.gb_outside.specs.declared.mem_disk.Call.{Call}
use Rattle.gb_outside.specs.declared.mem_disk.Call.TheVariants.{Idle, Write, Sync}
use Rattle.gb_outside.specs.declared.stops.Fill.{Fill}

-- a file as it reads, what a stop would leave of it, and the bytes of the writes to come
pub record Remade : Type 0 where
  pub file : List ℕ
  pub left : List ℕ
  pub rest : List ℕ

-- before the first call
abbrev pub begun : List ℕ → List ℕ → Remade
begun first written = record { file = first; left = first; rest = written }

-- after a write of which so many bytes came
abbrev pub written_again : Fill → ℕ → ℕ → ℕ → Remade → Remade
written_again fill at size kept s = record {
  file = overwritten at (take kept s.rest) s.file;
  left = left_by_write fill at size (take kept s.rest) s.left;
  rest = drop kept s.rest;
}

-- after one more call
abbrev pub made_again : Fill → Remade → Call → Remade
made_again fill s Idle = s
made_again fill s (Write at size kept) = written_again fill at size kept s
made_again fill s Sync = record { file = s.file; left = s.file; rest = s.rest }

-- after these calls
abbrev pub remade : Fill → Remade → List Call → Remade
remade fill s [] = s
remade fill s (call ∷ calls) = remade fill (made_again fill s call) calls

-- a write begins within the file and within what a stop would leave of it, and its bytes are there
abbrev pub CanMake : Remade → Call → Type 0
CanMake s Idle = Unit {0}
CanMake s (Write at size kept) = (at ≤ length s.file) × (at ≤ length s.left) × (kept ≤ length s.rest)
CanMake s Sync = Unit {0}

-- each of these calls can be made
abbrev pub CanRemake : Fill → Remade → List Call → Type 0
CanRemake fill s [] = Unit {0}
CanRemake fill s (call ∷ calls) = CanMake s call × CanRemake fill (made_again fill s call) calls
