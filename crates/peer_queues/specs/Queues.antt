-- The peers that wait, in the order in which they came as far as they have.
use Rattle.std.specs.Prelude.{ℕ, ◌==◌, Bool, not, ◌&&◌, if◌then◌else◌, List, [], ◌∷◌, ◌++◌, filter, find, Option, Some, None}
use Rattle.std.specs.List.{list_any}
use Rattle.std.specs.Option.{option_or}
use Rattle.peer_queues.specs.Stages.{has_stayed, is_idle, is_new, same_stage}
use Rattle.peer_queues.specs.declared.stages.Peer.{Peer}
use Rattle.peer_queues.specs.declared.stages.Stage.{Stage}

-- the peer is that of a place
abbrev pub is_at : ℕ → Peer → Bool
is_at place peer = peer.place == place

-- the peer is that of a place, and has come just so far
abbrev pub is_in : ℕ → Stage → Peer → Bool
is_in place stage peer = is_at place peer && same_stage peer.stage stage

-- the peers without that of a place
abbrev pub without : ℕ → List Peer → List Peer
without place peers = filter (λ peer. not (is_at place peer)) peers

-- the peers once that of a place has come so far: where it had before it stays where it stands, and else it stands last, from this moment on
abbrev pub noted : ℕ → Stage → ℕ → List Peer → List Peer
noted place stage now peers =
    if list_any (is_in place stage) peers
    then peers
    else without place peers ++ record { place = place; stage = stage; since = now } ∷ []

-- the peers once this one, if any, waits no longer
abbrev pub rest_after : Option Peer → List Peer → List Peer
rest_after None peers = peers
rest_after (Some peer) peers = without peer.place peers

-- this peer, if any, where it had its chance
abbrev pub if_stayed : ℕ → Option Peer → Option Peer
if_stayed now None = None
if_stayed now (Some peer) = if has_stayed now peer then Some peer else None

-- The peer that gives its place to another: the one that has come no further for longest, of those that had no reply, or where there are none, of those that have sent nothing since; once it had its chance.
abbrev pub giving_way : ℕ → List Peer → Option Peer
giving_way now peers = if_stayed now (option_or (find is_new peers) (find is_idle peers))
