-- How far a peer has come, and how long it may stay so. Moments are milliseconds.
use Rattle.std.specs.Prelude.{ℕ, ◌-◌, Bool, true, false, not, ◌&&◌, nat_le}
use Rattle.peer_queues.specs.declared.stages.Peer.{Peer}
use Rattle.peer_queues.specs.declared.stages.Stage.{Stage}
use Rattle.peer_queues.specs.declared.stages.Stage.TheVariants.{Silent, Idle, Begun, Ready, Leaving}

-- how long a peer may say nothing, and how long its request may take from its first byte to its last
abbrev pub patience : ℕ
patience = 10000

-- how long a peer that is let go may go on sending
abbrev pub last_patience : ℕ
last_patience = 250

-- how long a peer has at least, where another wants its place
abbrev pub shortest_stay : ℕ
shortest_stay = 20

-- these are one stage
abbrev pub same_stage : Stage → Stage → Bool
same_stage Silent Silent = true
same_stage Idle Idle = true
same_stage Begun Begun = true
same_stage Ready Ready = true
same_stage Leaving Leaving = true
same_stage a b = false

-- a peer has been in the stage for too long; one that is ready waits for the office
abbrev pub has_overstayed : Stage → ℕ → Bool
has_overstayed Silent waited = nat_le patience waited
has_overstayed Idle waited = nat_le patience waited
has_overstayed Begun waited = nat_le patience waited
has_overstayed Ready waited = false
has_overstayed Leaving waited = nat_le last_patience waited

-- the office is to have the peer
abbrev pub is_ready : Peer → Bool
is_ready peer = same_stage peer.stage Ready

-- the peer is let go
abbrev pub is_leaving : Peer → Bool
is_leaving peer = same_stage peer.stage Leaving

-- the time of the peer is over at this moment
abbrev pub is_over : ℕ → Peer → Bool
is_over now peer = has_overstayed peer.stage (now - peer.since)

-- the peer has sent nothing since its last reply
abbrev pub is_idle : Peer → Bool
is_idle peer = same_stage peer.stage Idle

-- the peer has had no reply, and nothing of it is ready
abbrev pub is_new : Peer → Bool
is_new peer = not (is_ready peer) && not (is_idle peer)

-- the peer had its chance
abbrev pub has_stayed : ℕ → Peer → Bool
has_stayed now peer = nat_le shortest_stay (now - peer.since)
