-- What objects in memory answer, and when they fail.
use Rattle.std.specs.Prelude.{◌≡◌, ℕ, zero, suc, ◌+◌, ◌-◌, ◌^◌, min, List, [], ◌∷◌, length, map, Bool, true, false, ◌==◌, if◌then◌else◌}
use Rattle.std.specs.List.{list_any}
use Rattle.gb_outside.specs.declared.doors.Door.{Door}
use Rattle.gb_outside.specs.declared.doors.Door.TheVariants as door
use Rattle.gb_outside.specs.declared.streams.Got.{Got}
use Rattle.gb_outside.specs.declared.streams.Got.TheVariants as got
use Rattle.gb_outside.specs.declared.streams.Wrote.{Wrote}
use Rattle.gb_outside.specs.declared.streams.Wrote.TheVariants as wrote

-- how many calls were made of an object, and the numbers, from 1, of those that are to fail
pub record CallPlan : Type 0 where
  pub made : ℕ
  pub failing : List ℕ

-- the number of the next call, which stops at its type's end
abbrev pub next_call : CallPlan → ℕ
next_call plan = min (plan.made + 1) (2 ^ 64 - 1)

-- the next call is to fail
abbrev pub fails_next : CallPlan → Bool
fails_next plan = list_any (λ n. n == next_call plan) plan.failing

-- the plan once the next call was made
abbrev pub after_call : CallPlan → CallPlan
after_call plan = record { made = next_call plan; failing = plan.failing }

-- a source: the bytes still to come, the plan of its calls, and its faults
pub record BytesIn : Type 0 where
  pub left : List ℕ
  pub plan : CallPlan
  pub faults : ℕ

-- a read gives as many bytes as there is room for, and the end where none are left
abbrev pub got_of : List ℕ → ℕ → Got
got_of [] room = got.End
got_of (b ∷ bs) room = got.Bytes (min (length (b ∷ bs)) room)

-- a read fails where it is to
abbrev pub read_answer : Bool → List ℕ → ℕ → Got
read_answer true left room = got.Failed
read_answer false left room = got_of left room

-- a sink: the bytes written, how many it keeps at most, the plan of its calls, and its faults
pub record BytesOut : Type 0 where
  pub written : List ℕ
  pub room : ℕ
  pub plan : CallPlan
  pub faults : ℕ

-- a write takes as many bytes as there is room for; some bytes where there is none are a fault
abbrev pub took_of : ℕ → ℕ → Wrote
took_of len zero = if len == 0 then wrote.Took 0 else wrote.Failed
took_of len (suc spare) = wrote.Took (min len (suc spare))

-- a write fails where it is to
abbrev pub write_answer : Bool → ℕ → ℕ → Wrote
write_answer true len spare = wrote.Failed
write_answer false len spare = took_of len spare

-- a link: the bytes still to come, those written, how many it keeps at most, the plan of its calls, and its faults
pub record BytesBothWays : Type 0 where
  pub left : List ℕ
  pub written : List ℕ
  pub room : ℕ
  pub plan : CallPlan
  pub faults : ℕ

-- nothing was written to the link, and it has not failed
pub record IsUnused (link : BytesBothWays) : Type 0 where
  pub nothing_written : link.written ≡ []
  pub no_fault : link.faults ≡ 0

-- a listener: the links still to come, those taken back, how many are out, the plan of its accepts, and its faults
pub record LinksInOut : Type 0 where
  pub waiting : List BytesBothWays
  pub served : List BytesBothWays
  pub out : ℕ
  pub plan : CallPlan
  pub faults : ℕ

-- for each of these links the bytes still to come
abbrev pub bytes_waiting : List BytesBothWays → List (List ℕ)
bytes_waiting links = map (λ link. link.left) links

-- for each of these links the bytes written to it and its faults
abbrev pub pairs_served : List BytesBothWays → List (List ℕ × ℕ)
pairs_served links = map {B = List ℕ × ℕ} (λ link. (link.written, link.faults)) links

-- an accept fails where it is to; else the first link comes, and the door is closed where none is left
abbrev pub accept_answer : Bool → List BytesBothWays → Door BytesBothWays
accept_answer true waiting = door.Failed
accept_answer false [] = door.Closed
accept_answer false (link ∷ links) = door.Open link

-- the links still to come after an accept
abbrev pub links_left : Bool → List BytesBothWays → List BytesBothWays
links_left true waiting = waiting
links_left false [] = []
links_left false (link ∷ links) = links
