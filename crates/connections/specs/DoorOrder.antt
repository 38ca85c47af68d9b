-- In which order the links of a door are served.
use Rattle.std.specs.Prelude.{◌≡◌, ◌⊎◌, ℕ, ◌-◌, ◌<◌, ◌≤◌, List, [], ◌∷◌, length, Option}
use Rattle.gb_outside.specs.Doors.{Accepts, NoneWaits, Serves}
use Rattle.gb_outside.specs.Faults.{Counts}
use Rattle.gb_outside.specs.declared.doors.Door.TheVariants.{Open}
use Rattle.registry_http.specs.RequestParts.{RequestParts}
use Rattle.connections.specs.Doors.{is_door_fault}
use Rattle.connections.specs.LinkOrder.{ServesInOrder, Stage, stage}
use Rattle.connections.specs.Replies.{ReplyParts}
use Rattle.connections.specs.declared.doors.DoorEnd.{DoorEnd}
use Rattle.connections.specs.declared.doors.DoorEnd.TheVariants as door
use Rattle.connections.specs.declared.serving.Ended.TheVariants as ended
use Rattle.connections.specs.declared.serving.Served.{Served}

-- A link came through the door, was served in order with so many replies left, at least one, from the link as it came to the link as it went back, and went back.
pub record ServesOne {P L T : Type 0} (waiting : P → Option (List (List ℕ))) (served : P → Option (List (List ℕ × ℕ))) (faults : P → ℕ) (left written : L → Option (List ℕ)) (link_faults : L → ℕ)
    (Answers : RequestParts → ReplyParts → T → T → Type 0) (most : ℕ) (old new : Stage P T) (one : Served) : Type 0 where
  pub some_left : 1 ≤ most
  -- the door once the link had come, and the link then
  pub came : P
  pub link : L
  pub accepted : Accepts left written link_faults (served old.outer) (waiting old.outer) (waiting came) (Open link)
  pub unserved : served came ≡ served old.outer
  -- the link that went back
  pub back : L
  pub in_order : ServesInOrder left written link_faults Answers most (stage link old.tools) (stage back new.tools) one
  pub returned : Serves (served came) (served new.outer) (written back) (link_faults back)
  pub still : waiting new.outer ≡ waiting came
  -- the listener did not fail, neither as the link came nor as it went back
  pub quiet : (faults came ≡ faults old.outer) × (faults new.outer ≡ faults came)

-- Each of these links was served (`ServesOne`), one after another, with the replies that those before it left; none came after one for which no memory was found to write a reply
abbrev pub ServesEach : {P L T : Type 0} → (P → Option (List (List ℕ))) → (P → Option (List (List ℕ × ℕ))) → (P → ℕ) → (L → Option (List ℕ)) → (L → Option (List ℕ)) → (L → ℕ)
    → (RequestParts → ReplyParts → T → T → Type 0) → ℕ → Stage P T → List Served → Stage P T → Type 0
ServesEach waiting served faults left written link_faults Answers most old [] new = new ≡ old
ServesEach {P} {L} {T} waiting served faults left written link_faults Answers most old (one ∷ others) new =
    (mid : Stage P T) × ServesOne waiting served faults left written link_faults Answers most old mid one × (one.ended ≡ ended.Memory → others ≡ [])
    × ServesEach waiting served faults left written link_faults Answers (most - one.replies) mid others new

-- how many replies are left after these links
abbrev pub left_after : ℕ → List Served → ℕ
left_after most [] = most
left_after most (one ∷ others) = left_after (most - one.replies) others

-- no memory was found to write a reply to one of them
abbrev pub LacksReply : List Served → Type 0
LacksReply [] = ⊥
LacksReply (one ∷ others) = (one.ended ≡ ended.Memory) ⊎ LacksReply others

-- why no link came where serving ends so: the door is closed, as none waits, or the listener failed
abbrev pub NoneCame : Option (List (List ℕ)) → DoorEnd → Type 0
NoneCame waits door.Done = NoneWaits waits
NoneCame waits door.DoorFault = Unit {0}
NoneCame waits door.Memory = ⊥

-- The door was asked for a link, and none came. Its count rose just where the listener failed, and all else stays.
pub record ComesNone {P T : Type 0} (waiting : P → Option (List (List ℕ))) (served : P → Option (List (List ℕ × ℕ))) (faults : P → ℕ) (old new : Stage P T) (end : DoorEnd) : Type 0 where
  pub none : NoneCame (waiting old.outer) end
  pub still : waiting new.outer ≡ waiting old.outer
  pub unserved : served new.outer ≡ served old.outer
  pub cause : Counts (faults old.outer) (faults new.outer) (is_door_fault end)
  pub same : new.tools ≡ old.tools

-- All replies were written or as many links were served, and the door was asked for no other.
pub record ServesAll {P T : Type 0} (most : ℕ) (links : List Served) (mid new : Stage P T) (end : DoorEnd) : Type 0 where
  pub all : (left_after most links ≡ 0) ⊎ (length links ≡ most)
  pub sound : LacksReply links → ⊥
  pub unasked : new ≡ mid
  pub is : end ≡ door.Done

-- Replies were left and fewer links were served, and then none came.
pub record EndsUnmet {P T : Type 0} (waiting : P → Option (List (List ℕ))) (served : P → Option (List (List ℕ × ℕ))) (faults : P → ℕ) (most : ℕ) (links : List Served) (mid new : Stage P T) (end : DoorEnd) : Type 0 where
  pub some_left : 1 ≤ left_after most links
  pub fewer : length links < most
  pub sound : LacksReply links → ⊥
  pub unmet : ComesNone waiting served faults mid new end

-- No memory was found to write a reply to the last link, and the door was asked for no other.
pub record EndsLacking {P T : Type 0} (links : List Served) (mid new : Stage P T) (end : DoorEnd) : Type 0 where
  pub lacks : LacksReply links
  pub unasked : new ≡ mid
  pub is : end ≡ door.Memory

-- The links of a door were served in order, up to so many replies and so many links, and serving ended in one of three ways.
pub record ServesDoorInOrder {P L T : Type 0} (waiting : P → Option (List (List ℕ))) (served : P → Option (List (List ℕ × ℕ))) (faults : P → ℕ) (left written : L → Option (List ℕ)) (link_faults : L → ℕ)
    (Answers : RequestParts → ReplyParts → T → T → Type 0) (most : ℕ) (old new : Stage P T) (end : DoorEnd) : Type 0 where
  pub links : List Served
  pub few : length links ≤ most
  pub mid : Stage P T
  pub each : ServesEach waiting served faults left written link_faults Answers most old links mid
  pub ends : ServesAll most links mid new end ⊎ (EndsUnmet waiting served faults most links mid new end ⊎ EndsLacking links mid new end)
