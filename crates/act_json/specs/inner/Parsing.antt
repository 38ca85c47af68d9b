-- What parsing a line gives.
use Rattle.std.specs.Prelude.{◌≡◌, Option, Some, None, Result, Ok, Err}
use Rattle.act_json.specs.declared.lines.LineFault.{LineFault}
use Rattle.act_json.specs.declared.lines.LineFault.TheVariants.{NotJson, NotItem, Memory}

-- what parsing gave says what the bytes are, unless memory ran out
abbrev pub Parses : {V D : Type 0} → (V → D) → Result V LineFault → Option D → Type 0
Parses view (Ok value) meant = meant ≡ Some (view value)
Parses view (Err NotJson) meant = meant ≡ None
Parses view (Err (NotItem path)) meant = ⊥
Parses view (Err Memory) meant = Unit {0}
