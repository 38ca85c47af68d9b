-- The journal file: a mark, a heading, frames, and a gate that is not open.
-- Why so: docs/DECISIONS.md, "The heading is a parameter of the layout".
use Rattle.std.specs.Prelude.{◌≡◌, ◌≢◌, ◌⊎◌, ℕ, ◌+◌, ◌<◌, ◌≤◌, List, [], ◌∷◌, ◌++◌, length, drop, All, codes}
use Rattle.std.specs.Int.{w32, to_be_bytes, from_be_bytes}
use Rattle.journal_disk.specs.FrameAt.{FrameAt}
use Rattle.journal_disk.specs.Standing.{Standing}
use Rattle.journal_disk.specs.Standing as standing

-- the bytes between the mark and the first gate of each file that is written today
abbrev pub the_heading : List ℕ
the_heading = codes "GBJOURN1"

-- the most bytes of a body
abbrev pub longest_body : ℕ
longest_body = 1024

-- no closed gate that an append leaves stands at this offset or beyond
abbrev pub file_limit : ℕ
file_limit = 134217728

-- how many bytes a frame has before its body: an open gate and a length of four bytes
abbrev pub frame_head : ℕ
frame_head = 5

-- a body has at least one byte, and no more than the most
pub record IsBody (body : List ℕ) : Type 0 where
  pub not_empty : 1 ≤ length body
  pub not_long : length body ≤ longest_body

-- a length of four bytes, the highest first, and the body
abbrev pub measured : List ℕ → List ℕ
measured body = to_be_bytes w32 (length body) ++ body

-- the frames of these bodies, each without the gate that ends it: an open gate, a length and a body
abbrev pub frames : List (List ℕ) → List ℕ
frames [] = []
frames (body ∷ bodies) = 1 ∷ (measured body ++ frames bodies)

-- the offset of the first gate, after the mark and the heading
abbrev pub first_gate : List ℕ → ℕ
first_gate heading = 1 + length heading

-- the offset after the frames of these bodies
abbrev pub end_of : List ℕ → List (List ℕ) → ℕ
end_of heading bodies = first_gate heading + length (frames bodies)

-- the frames of these bodies, where the first gate stands at this offset
abbrev pub frames_from : ℕ → List (List ℕ) → List FrameAt
frames_from at [] = []
frames_from at (body ∷ bodies) = record { at = at; body = body } ∷ frames_from (at + frame_head + length body) bodies

-- An unmade file: no byte or one, or a byte 0 of value 0.
abbrev pub IsUnmade : List ℕ → Type 0
IsUnmade [] = Unit {0}
IsUnmade (mark ∷ []) = Unit {0}
IsUnmade (mark ∷ next ∷ rest) = mark ≡ 0

-- A made file: a mark, the heading and a gate.
pub record IsMade (heading file : List ℕ) : Type 0 where
  pub mark : ℕ
  pub gate : ℕ
  pub rest : List ℕ
  pub made : mark ≢ 0
  pub whole : file ≡ mark ∷ (heading ++ gate ∷ rest)

-- A file that is neither unmade nor made under this heading is no journal.
pub record IsForeign (heading file : List ℕ) : Type 0 where
  pub not_unmade : IsUnmade file → ⊥
  pub not_made : IsMade heading file → ⊥

-- A made file with these bodies, ended by a gate that is not open, whatever stands after it.
pub record IsJournal (heading file : List ℕ) (bodies : List (List ℕ)) : Type 0 where
  pub mark : ℕ
  pub gate : ℕ
  pub rest : List ℕ
  pub made : mark ≢ 0
  pub closed : gate ≢ 1
  pub sizes : All IsBody bodies
  pub whole : file ≡ mark ∷ (heading ++ frames bodies ++ gate ∷ rest)

-- After an open gate no whole frame follows: its length is 0 or too long, or it runs past the end with the gate that ends it.
abbrev pub IsNoFrame : List ℕ → Type 0
IsNoFrame (a ∷ b ∷ c ∷ d ∷ rest) = let size = from_be_bytes w32 (a ∷ b ∷ c ∷ d ∷ []) in (size ≡ 0) ⊎ (longest_body < size) ⊎ (length rest ≤ size)
IsNoFrame rest = Unit {0}

-- A made file that is bad at the gate after these bodies: the gate is open, and no whole frame follows.
pub record IsBad (heading file : List ℕ) (ahead : List (List ℕ)) : Type 0 where
  pub mark : ℕ
  pub rest : List ℕ
  pub made : mark ≢ 0
  pub sizes : All IsBody ahead
  pub none : IsNoFrame rest
  pub whole : file ≡ mark ∷ (heading ++ frames ahead ++ 1 ∷ rest)

-- the standing of a file under a heading, where a journal is the bodies of its frames
abbrev pub HasStanding : List ℕ → List ℕ → Standing (List (List ℕ)) → Type 0
HasStanding heading file standing.Unmade = IsUnmade file
HasStanding heading file standing.Foreign = IsForeign heading file
HasStanding heading file (standing.Bad at) = (ahead : List (List ℕ)) × IsBad heading file ahead × (at ≡ end_of heading ahead)
HasStanding heading file (standing.Journal bodies) = IsJournal heading file bodies

-- The file stands for these bodies; an unmade one stands for none.
abbrev pub StandsFor : List ℕ → List ℕ → List (List ℕ) → Type 0
StandsFor heading file bodies = (HasStanding heading file standing.Unmade × (bodies ≡ [])) ⊎ HasStanding heading file (standing.Journal bodies)

-- a file that was just made from this one: the mark, the heading, a closed gate, and what stood after them
abbrev pub made_from : List ℕ → List ℕ → List ℕ
made_from heading file = 71 ∷ (heading ++ 0 ∷ drop (first_gate heading + 1) file)

-- the frame of this body that is written in place of a closed gate: its own gate open, and a closed one after it
abbrev pub appended : List ℕ → List ℕ
appended body = 1 ∷ (measured body ++ 0 ∷ [])
