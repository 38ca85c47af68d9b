-- Links that are served one after another, each from what the one before left.
use Rattle.std.specs.Prelude.{◌≡◌, ◌⊎◌, Bool, true, false, ℕ, ◌-◌, ◌≤◌, List, [], ◌∷◌, ◌++◌, drop, flat_map, length, Option, Some, IfSome}
use Rattle.gb_outside.specs.Faults.{Counts}
use Rattle.intake.specs.Requests.{Held}
use Rattle.registry_http.specs.RequestLists.{AreRequests}
use Rattle.registry_http.specs.RequestParts.{RequestParts}
use Rattle.registry_http.specs.Requests.{AtFront}
use Rattle.connections.specs.Served.{Connection, IsCutOff, IsOfTurns, IsUnwritten, IsWhole, held_by, replies_of, taken_of, written_by}
use Rattle.connections.specs.Serving.{is_link_fault}
use Rattle.connections.specs.Turns.{Turn, Taken, held_after, turns}
use Rattle.connections.specs.declared.doors.DoorEnd.{DoorEnd}
use Rattle.connections.specs.declared.doors.DoorEnd.TheVariants as door
use Rattle.connections.specs.declared.serving.Ended.{Ended}
use Rattle.connections.specs.declared.serving.Ended.TheVariants as ended

-- what the bytes of a link ask: requests, and what stands behind the last of them
pub record LinkRequests : Type 0 where
  pub requests : List RequestParts
  pub end : AtFront

-- the bytes of a link ask so
abbrev pub AskSo : List ℕ → LinkRequests → Type 0
AskSo bytes asked = AreRequests bytes asked.requests asked.end

-- the turns of a link that asks so, with so many replies left
abbrev pub turns_of : ℕ → LinkRequests → List Turn
turns_of left asked = turns left asked.requests asked.end

-- What became of a link: of its connection, how that ended, and how often the link failed.
pub record LinkServed : Type 0 where
  pub connection : Connection
  pub ended : Ended
  pub faults : ℕ

-- how many whole replies a connection had that ended so; one that closes it counts where it is finished
abbrev pub whole_replies : Ended → Connection → ℕ
whole_replies ended.Finished c = replies_of c
whole_replies ended.LinkFault c = length c.replied
whole_replies ended.Memory c = length c.replied

-- how many replies are left after a link
abbrev pub left_by : ℕ → LinkServed → ℕ
left_by left link = left - whole_replies link.ended link.connection

-- A link that asks so was served, with so many replies left.
pub record IsServed (held : Held) (left : ℕ) (asked : LinkRequests) (link : LinkServed) : Type 0 where
  -- its connection is one of its turns
  pub of_turns : IsOfTurns held (turns_of left asked) link.connection
  -- it is whole unless the link failed or no memory was found; else it is cut off, and where no memory was found for a reply nothing of it was written
  pub finished : link.ended ≡ ended.Finished → IsWhole (turns_of left asked) link.connection
  pub cut_off : (link.ended ≡ ended.Finished → ⊥) → IsCutOff held (turns_of left asked) link.connection
  pub unwritten : link.ended ≡ ended.Memory → IsUnwritten held link.connection
  -- it has no more whole replies than were left
  pub few : whole_replies link.ended link.connection ≤ left
  -- the link failed just where its connection ended by that
  pub failed : Counts 0 link.faults (is_link_fault link.ended)

-- The first of the links that ask so were served, each from what the one before left. A reply was left for each, and none came after one for whose reply no memory was found.
abbrev pub AreServed : Held → ℕ → List LinkRequests → List LinkServed → Type 0
AreServed held left asked [] = Unit {0}
AreServed held left [] (link ∷ links) = ⊥
AreServed held left (first ∷ asked) (link ∷ links) =
    (1 ≤ left) × IsServed held left first link × ((link.ended ≡ ended.Memory) → links ≡ [])
    × AreServed (held_by held link.connection) (left_by left link) asked links

-- how many replies are left after these links
abbrev pub left_after : ℕ → List LinkServed → ℕ
left_after left [] = left
left_after left (link ∷ links) = left_after (left_by left link) links

-- for each of these links the bytes written to it, and how often it failed
abbrev pub pairs_of : Held → List LinkServed → List (List ℕ × ℕ)
pairs_of held [] = []
pairs_of held (link ∷ links) = (written_by held link.connection, link.faults) ∷ pairs_of (held_by held link.connection) links

-- the turns that were taken of these links, one link after another
abbrev pub turns_taken : List LinkServed → List Taken
turns_taken links = flat_map (λ link. taken_of link.connection) links

-- the listener failed
abbrev pub is_door_fault : DoorEnd → Bool
is_door_fault door.Done = false
is_door_fault door.DoorFault = true
is_door_fault door.Memory = false

-- no memory was found to write a reply to one of these links
abbrev pub LacksReply : List LinkServed → Type 0
LacksReply [] = ⊥
LacksReply (link ∷ links) = (link.ended ≡ ended.Memory) ⊎ LacksReply links

-- These links came through the door, the first of those that waited there, and were served with so many replies left.
pub record ServesLinks {D : Type 0} (Takes : D → D → Held → List Taken → Type 0) (old new : D) (held : Held) (left : ℕ)
    (waiting : List (List ℕ)) (asked : List LinkRequests) (waiting_new : Option (List (List ℕ))) (served_old served_new : Option (List (List ℕ × ℕ))) (HoldsNow : Held → Type 0) (links : List LinkServed) : Type 0 where
  -- what became of each
  pub are : AreServed held left asked links
  -- what the door tells of them
  pub waits : waiting_new ≡ Some (drop (length links) waiting)
  pub told : IfSome served_old (λ before. served_new ≡ Some (before ++ pairs_of held links))
  -- what is held after them, and what was done to the disk
  pub holds : HoldsNow (held_after held (turns_taken links))
  pub disk : Takes old new held (turns_taken links)

-- The door was served, at which links waited that ask so, up to so many replies and so many links.
pub record ServesDoor {D : Type 0} (Takes : D → D → Held → List Taken → Type 0) (old new : D) (held : Held) (most : ℕ)
    (waiting : List (List ℕ)) (asked : List LinkRequests) (waiting_new : Option (List (List ℕ))) (served_old served_new : Option (List (List ℕ × ℕ))) (result : DoorEnd) (HoldsNow : Held → Type 0) : Type 0 where
  -- the links that came, and what became of them
  pub links : List LinkServed
  pub serves : ServesLinks Takes old new held most waiting asked waiting_new served_old served_new HoldsNow links
  pub few : length links ≤ most
  -- it is done where all replies were written, as many links were served, or no more came
  pub done : result ≡ door.Done → (left_after most links ≡ 0) ⊎ ((length links ≡ most) ⊎ (drop (length links) waiting ≡ []))
  -- it ends with Memory just where no memory was found for a reply to the last link
  pub memory : LacksReply links → result ≡ door.Memory
  pub wanting : result ≡ door.Memory → LacksReply links
