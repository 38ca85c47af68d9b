-- What taking up the link that comes next through a door comes to.
use Rattle.std.specs.Prelude.{◌≡◌, ◌⊎◌, ℕ, ◌-◌, ◌≤◌, Bool, false, List, [], drop, length, Option, Result, Ok, Err}
use Rattle.intake.specs.Requests.{Held}
use Rattle.registry_http.specs.RequestParts.{RequestParts}
use Rattle.connections.specs.Doors.{LacksReply, LinkRequests, LinkServed, ServesLinks, is_door_fault, left_after}
use Rattle.connections.specs.DoorOrder.{ComesNone, ServesOne}
use Rattle.connections.specs.LinkOrder.{Stage}
use Rattle.connections.specs.Replies.{ReplyParts}
use Rattle.connections.specs.Turns.{Taken}
use Rattle.connections.specs.declared.doors.DoorEnd.{DoorEnd}
use Rattle.connections.specs.declared.doors.DoorEnd.TheVariants as door
use Rattle.connections.specs.declared.serving.Ended.{Ended}
use Rattle.connections.specs.declared.serving.Ended.TheVariants as ended
use Rattle.connections.specs.declared.serving.Served.{Served}

-- how serving goes on after a connection that ended so: with the replies that it had, or not at all
abbrev pub after_end : Ended → ℕ → Result ℕ DoorEnd
after_end ended.Finished replies = Ok replies
after_end ended.LinkFault replies = Ok replies
after_end ended.Memory replies = Err door.Memory

-- how serving goes on after a link
abbrev pub after_link : Served → Result ℕ DoorEnd
after_link served = after_end served.ended served.replies

-- the listener failed
abbrev pub has_door_failed : Result ℕ DoorEnd → Bool
has_door_failed (Ok replies) = false
has_door_failed (Err end) = is_door_fault end

-- The link that comes next was served, with so many replies left; or none came. It goes on by the replies that the link had, or ends as no link waits or no memory was found for a reply.
pub record IsRound {D : Type 0} (Takes : D → D → Held → List Taken → Type 0) (old new : D) (held : Held) (left : ℕ)
    (waiting : List (List ℕ)) (asked : List LinkRequests) (waiting_new : Option (List (List ℕ))) (served_old served_new : Option (List (List ℕ × ℕ))) (HoldsNow : Held → Type 0) (result : Result ℕ DoorEnd) : Type 0 where
  pub links : List LinkServed
  pub serves : ServesLinks Takes old new held left waiting asked waiting_new served_old served_new HoldsNow links
  pub few : length links ≤ 1
  pub goes_on : (replies : ℕ) → result ≡ Ok replies → (length links ≡ 1) × (left_after left links ≡ left - replies)
  pub done : result ≡ Err door.Done → drop (length links) waiting ≡ []
  pub memory : LacksReply links → result ≡ Err door.Memory
  pub wanting : result ≡ Err door.Memory → LacksReply links

-- The link that comes next was served in order, and it goes on by that; or none came, and it ends.
abbrev pub ServesFirst : {P L T : Type 0} → (P → Option (List (List ℕ))) → (P → Option (List (List ℕ × ℕ))) → (P → ℕ) → (L → Option (List ℕ)) → (L → Option (List ℕ)) → (L → ℕ)
    → (RequestParts → ReplyParts → T → T → Type 0) → ℕ → Stage P T → Stage P T → Result ℕ DoorEnd → Type 0
ServesFirst waiting served faults left written link_faults Answers most old new result =
    ((one : Served) × (result ≡ after_link one) × ServesOne waiting served faults left written link_faults Answers most old new one) ⊎ ((end : DoorEnd) × (result ≡ Err end) × ComesNone waiting served faults old new end)
