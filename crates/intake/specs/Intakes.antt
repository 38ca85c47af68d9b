-- What an input asks, where its items are received onto the disk.
-- Why so: docs/DECISIONS.md, "What an input asks is said by an `Intake`".
use Rattle.std.specs.Prelude.{ℕ, List, []}
use Rattle.opening_lists.specs.OpeningLists.{row_requests}
use Rattle.intake.specs.Sessions.{line_requests, ended_requests}
use Rattle.intake.specs.declared.intakes.Intake.{Intake}
use Rattle.intake.specs.declared.intakes.Intake.TheVariants.{Lines, OpeningList}
use Rattle.intake.specs.declared.lines.LineKind.TheVariants.{Unstamped}
use Rattle.intake_requests.specs.declared.requests.Request.{Request}

-- what a whole input asks
abbrev pub whole_of : Intake → List ℕ → List Request
whole_of Lines input = line_requests Unstamped input
whole_of (OpeningList sender) input = row_requests sender input

-- what an input asks that is cut here; a list counts only where it is read whole
abbrev pub cut_of : Intake → List ℕ → List Request
cut_of Lines read = ended_requests Unstamped [] read
cut_of (OpeningList sender) read = []
