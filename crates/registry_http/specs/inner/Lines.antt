-- How far the lines of a head have come, byte by byte.
use Rattle.std.specs.Prelude.{ℕ, ◌==◌, Bool, true, false, if◌then◌else◌, List, [], ◌∷◌}
use Rattle.registry_http.specs.declared.lines.Lines.{Lines}
use Rattle.registry_http.specs.declared.lines.Lines.TheVariants.{Ahead, AheadCr, Inside, Ended, EndedCr, Over}

-- one more byte came: a line ends with LF, and a CR may stand before that; an empty line after a line is the end of a head
abbrev pub after_byte : Lines → ℕ → Lines
after_byte Ahead b = if b == 10 then Ahead else (if b == 13 then AheadCr else Inside)
after_byte AheadCr b = if b == 10 then Ahead else Inside
after_byte Inside b = if b == 10 then Ended else Inside
after_byte Ended b = if b == 10 then Over else (if b == 13 then EndedCr else Inside)
after_byte EndedCr b = if b == 10 then Over else Inside
after_byte Over b = Over

-- more bytes came
abbrev pub after_bytes : Lines → List ℕ → Lines
after_bytes lines [] = lines
after_bytes lines (b ∷ bytes) = after_bytes (after_byte lines b) bytes

-- an empty line came after a line
abbrev pub are_over : Lines → Bool
are_over Ahead = false
are_over AheadCr = false
are_over Inside = false
are_over Ended = false
are_over EndedCr = false
are_over Over = true

-- the bytes have an empty line behind a line that is not empty
abbrev pub has_empty_line : List ℕ → Bool
has_empty_line bytes = are_over (after_bytes Ahead bytes)
