-- An input as lines, and the requests of its lines.
-- Why so: docs/DECISIONS.md, "Some definitions of sessions go along the input".
use Rattle.std.specs.Prelude.{ℕ, ◌==◌, if◌then◌else◌, List, [], ◌∷◌, ◌++◌, map, Option}
use Rattle.std.specs.Io.KnownBytes.{Consumes}
use Rattle.intake.specs.Lines.{request_of_line}
use Rattle.intake.specs.declared.lines.LineKind.{LineKind}
use Rattle.intake_requests.specs.declared.requests.Request.{Request}

-- the lines that an LF ends, where `line` stands before these bytes
abbrev pub ended : List ℕ → List ℕ → List (List ℕ)
ended line [] = []
ended line (b ∷ bs) = if b == 10 then line ∷ ended [] bs else ended (line ++ b ∷ []) bs

-- what stands after the last LF
abbrev pub behind : List ℕ → List ℕ → List ℕ
behind line [] = line
behind line (b ∷ bs) = if b == 10 then behind [] bs else behind (line ++ b ∷ []) bs

-- all lines; the last may lack its LF, and is blank where nothing stands after the last LF
abbrev pub lines_of : List ℕ → List (List ℕ)
lines_of input = ended [] input ++ behind [] input ∷ []

-- the requests of the lines that an LF ends, where `line` stands before these bytes
abbrev pub ended_requests : LineKind → List ℕ → List ℕ → List Request
ended_requests kind line bytes = map (request_of_line kind) (ended line bytes)

-- the requests of all lines
abbrev pub line_requests : LineKind → List ℕ → List Request
line_requests kind input = map (request_of_line kind) (lines_of input)

-- the most bytes of an input, 64 MiB
abbrev pub most_input : ℕ
most_input = 67108864

-- These bytes were taken from the source, and this was done with them.
pub record Took (left0 left1 : Option (List ℕ)) (Did : List ℕ → Type 0) : Type 0 where
  pub read : List ℕ
  pub consumed : Consumes left0 left1 read
  pub did : Did read
