-- How far the requests were answered of a session that ended early.
use Rattle.std.specs.Prelude.{◌≡◌, ◌⊎◌, ℕ, ◌≤◌, List, ◌++◌, length, take, Option, Some}
use Rattle.std.specs.Io.KnownBytes.{Appends, IsAtEnd}
use Rattle.gb_base.specs.DayMinute.{DayMinute}
use Rattle.intake.specs.Grown.{IsFront, GrownFrom}
use Rattle.intake.specs.Requests.{Medium, Held, replies, held_after}
use Rattle.intake.specs.Sessions.{most_input}
use Rattle.intake_requests.specs.declared.requests.Request.{Request}

-- The first of these requests are replied to whole, and at most one more was begun. Either a front of its reply stands written, and then its receipt is in every image; or nothing of its reply does, and then its receipt may be there or not. The clock was asked for these requests and for no other.
pub record EndsEarly (medium : Medium) (held : Held) (known : Option (List DayMinute)) (written0 written1 : Option (List ℕ)) (images : List ℕ → Type 0) (requests : List Request) : Type 0 where
  pub replied : List Request
  pub last : List Request
  pub next : List Request
  pub rest : List Request
  pub whole : requests ≡ replied ++ (last ++ (next ++ rest))
  pub one : length (last ++ next) ≤ 1
  pub front : List ℕ
  pub begun : IsFront front (replies medium (held_after medium held replied) last)
  pub wrote : Appends written0 written1 (replies medium held replied ++ front)
  pub clock : known ≡ Some (held_after medium held (replied ++ (last ++ next))).ticks
  pub received : (file : List ℕ) → images file
      → GrownFrom (held_after medium held (replied ++ last)).journal (held_after medium held (replied ++ (last ++ next))).journal file

-- the requests of the bytes read: all of them where the source is at its end and gave no more than an input may have; else those of an input that is cut there
abbrev pub AreOf : (List ℕ → List Request) → (List ℕ → List Request) → Option (List ℕ) → List ℕ → List Request → Type 0
AreOf whole cut left1 read requests =
    (requests ≡ cut (take most_input read)) ⊎ (IsAtEnd left1 × (length read ≤ most_input) × (requests ≡ whole read))
