-- What a line of an input asks.
-- Why so: docs/DECISIONS.md, "A blank line has no limit of length".
use Rattle.std.specs.Prelude.{ℕ, Bool, true, false, ◌||◌, ◌==◌, nat_lt, if◌then◌else◌, List, [], ◌++◌, length, codes, Result, Ok, Err, Some, None}
use Rattle.std.specs.List.{list_all}
use Rattle.gb_base.specs.DayMinute.{DayMinute}
use Rattle.act_model.specs.declared.items.Item.{Item}
use Rattle.act_json.specs.Lines.{longest_line, item_of, stamped_of}
use Rattle.act_json.specs.declared.lines.LineFault.{LineFault}
use Rattle.act_json.specs.declared.lines.LineFault.TheVariants.{NotJson, NotItem, Memory}
use Rattle.intake.specs.declared.lines.LineKind.{LineKind}
use Rattle.intake.specs.declared.lines.LineKind.TheVariants.{Stamped, Unstamped}
use Rattle.intake_requests.specs.declared.requests.Request.{Request}
use Rattle.intake_requests.specs.declared.requests.Request.TheVariants.{Nothing, Refused, Receive}

-- the line has only spaces, tabs and carriage returns
abbrev pub is_blank : List ℕ → Bool
is_blank line = list_all (λ b. b == 32 || b == 9 || b == 13) line

-- the words for a line that is no item; where memory runs out there are none
abbrev pub fault_text : LineFault → List ℕ
fault_text NotJson = codes "malformed json"
fault_text (NotItem path) = codes "malformed " ++ path
fault_text Memory = []

-- what a line with its stamp asks
abbrev pub request_of_stamped : Result (DayMinute × ℕ × ℕ × Item) LineFault → Request
request_of_stamped (Ok found) = Receive (Some found.0) (record { sender = found.1; reference = found.2 }) found.3
request_of_stamped (Err fault) = Refused (fault_text fault ++ codes "\n")

-- what a line asks that the clock stamps
abbrev pub request_of_plain : Result (ℕ × ℕ × Item) LineFault → Request
request_of_plain (Ok found) = Receive None (record { sender = found.0; reference = found.1 }) found.2
request_of_plain (Err fault) = Refused (fault_text fault ++ codes "\n")

-- what a line that is neither blank nor too long asks
abbrev pub request_read : LineKind → List ℕ → Request
request_read Stamped line = request_of_stamped (stamped_of line)
request_read Unstamped line = request_of_plain (item_of line)

-- a blank line of any length asks nothing; the others have a greatest length
unfoldable pub request_of_line : LineKind → List ℕ → Request
request_of_line kind line =
    if is_blank line then Nothing
    else (if nat_lt longest_line (length line) then Refused (codes "malformed length\n") else request_read kind line)

-- the clock stamps the items of such lines
abbrev pub is_stamped_by_clock : LineKind → Bool
is_stamped_by_clock Stamped = false
is_stamped_by_clock Unstamped = true
