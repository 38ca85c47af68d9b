-- Requests that are answered.
use Rattle.std.specs.Prelude.{◌≡◌, ℕ, List, Option, Some}
use Rattle.std.specs.Io.KnownBytes.{Appends}
use Rattle.intake.specs.Requests.{Medium, Held, replies, held_after}
use Rattle.intake_requests.specs.declared.requests.Request.{Request}

-- All of these requests are answered: their replies are written, and what is held then is what they leave.
pub record Answered (medium : Medium) (held : Held) (holds1 : Option Held) (written0 written1 : Option (List ℕ)) (requests : List Request) : Type 0 where
  pub wrote : Appends written0 written1 (replies medium held requests)
  pub holds : holds1 ≡ Some (held_after medium held requests)
