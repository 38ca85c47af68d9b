-- What a line says.
use Rattle.std.specs.Prelude.{◌≡◌, ℕ, List, [], ◌∷◌, Option, Some, None, Result, Ok, Err, if◌then◌else◌, codes}
use Rattle.std.specs.Str.{is_utf8}
use Rattle.serde_json.specs.Data.{Data}
use Rattle.serde_json.specs.Read.{read}
use Rattle.gb_base.specs.DayMinute.{DayMinute}
use Rattle.gb_base.specs.Limits.{is_between, first_stamp_day, last_stamp_day}
use Rattle.act_model.specs.declared.items.Item.{Item}
use Rattle.act_json.specs.declared.lines.LineFault.{LineFault}
use Rattle.act_json.specs.declared.lines.LineFault.TheVariants.{NotJson, NotItem, Memory}
use Rattle.act_json.specs.Reading.{Read, ◌>>=◌, ◌>>◌, within, wants, an_object, member, only, read_whole}
use Rattle.act_json.specs.Dates.{read_day}
use Rattle.act_json.specs.Grammar.{any_item}

-- how many bytes a line has at most
abbrev pub longest_line : ℕ
longest_line = 65536

-- who hands the item in
abbrev pub sender : Data → Read ℕ
sender = member (codes "sender") (read_whole 0 4294967295)

-- the sender's number for the item
abbrev pub reference : Data → Read ℕ
reference = member (codes "reference") (read_whole 0 18446744073709551615)

-- an unstamped line
unfoldable pub item_line : Data → Read (ℕ × ℕ × Item)
item_line d = do
  within (codes "line") (an_object d)
  s ← sender d
  r ← reference d
  item ← member (codes "item") any_item d
  only (codes "sender" ∷ codes "reference" ∷ codes "item" ∷ []) d
  Ok (s, r, item)

-- the stamp of a receipt, on a day from 2000-01-01 to 2149-12-31
abbrev pub stamp : Data → Read DayMinute
stamp d = do
  day ← member (codes "day") read_day d
  within (codes "day") (wants (is_between first_stamp_day last_stamp_day day))
  minute ← member (codes "minute") (read_whole 0 1439) d
  Ok (record { day = day; minute = minute })

-- a line with the stamp of its receipt
unfoldable pub stamped_line : Data → Read (DayMinute × ℕ × ℕ × Item)
stamped_line d = do
  within (codes "line") (an_object d)
  received ← stamp d
  s ← sender d
  r ← reference d
  item ← member (codes "item") any_item d
  only (codes "day" ∷ codes "minute" ∷ codes "sender" ∷ codes "reference" ∷ codes "item" ∷ []) d
  Ok (received, s, r, item)

-- the JSON value that the bytes are
abbrev pub json_of : List ℕ → Option Data
json_of line = if is_utf8 line then read line else None

-- what was read of a line's value, or the line's fault
abbrev pub line_read : {A : Type 0} → Read A → Result A LineFault
line_read (Ok x) = Ok x
line_read (Err path) = Err (NotItem path)

-- what a reader says of a line, where the line is JSON
abbrev pub line_read_by : {A : Type 0} → (Data → Read A) → Option Data → Result A LineFault
line_read_by read None = Err NotJson
line_read_by read (Some d) = line_read (read d)

-- the sender, the reference and the item of a line, or its fault
unfoldable pub item_of : List ℕ → Result (ℕ × ℕ × Item) LineFault
item_of line = line_read_by item_line (json_of line)

-- the stamp, the sender, the reference and the item of a stamped line, or its fault
unfoldable pub stamped_of : List ℕ → Result (DayMinute × ℕ × ℕ × Item) LineFault
stamped_of line = line_read_by stamped_line (json_of line)

-- what was read is what the line means, unless memory ran out
abbrev pub ReadsAs : {A : Type 0} → Result A LineFault → Result A LineFault → Type 0
ReadsAs (Ok x) meant = meant ≡ Ok x
ReadsAs (Err NotJson) meant = meant ≡ Err NotJson
ReadsAs (Err (NotItem path)) meant = meant ≡ Err (NotItem path)
ReadsAs (Err Memory) meant = Unit {0}
