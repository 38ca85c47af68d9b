-- What the turns bring of a peer, and how they end.
use Rattle.std.proofs.Common.{subst, sym}
use Rattle.std.specs.List.{list_any}
use Rattle.peer_queues.specs.Queues.{is_at}
use Rattle.grundbuch.specs.HeldPeers.{GoesOn}
use Rattle.grundbuch.proofs.Hearing.{hears_all, hears_not, hears_then, is_opened, not_next}
use Rattle.grundbuch.proofs.waiting_room.WaitingRoom.is_next.Goals as goal

pub loop-init : goal.loop-init
loop-init g c = hears_not _ _ _

pub returns-then-first-place : goal.returns-then-first-place
returns-then-first-place g c = not_next _ _ _ (hears_all _ _ _ _ _ c.loop.invariant)

pub returns-in-Some : goal.returns-in-Some
returns-in-Some g c =
    subst (λ opens. GoesOn c.args.peer.now.inbox c.open.new.self.inbox opens (list_any (is_at c.args.place) c.forget.new.self)) (sym c.is_ok.ensures.value)
    (is_opened _ _ _ c.open.result _ c.loop.invariant c.open.ensures.opened c.open.ensures.lost)

pub returns-then-not-goes_on_waiting : goal.returns-then-not-goes_on_waiting
returns-then-not-goes_on_waiting g c = not_next _ _ _ (hears_then _ _ _ _ _ _ _ c.loop.invariant c.if-not-goes_on_waiting.ensures)

pub loop-preserved : goal.loop-preserved
loop-preserved g c = hears_then _ _ _ _ _ _ _ c.loop.invariant c.if-not-goes_on_waiting.ensures

pub returns : goal.returns
returns g c = not_next _ _ _ (hears_all _ _ _ _ _ c.loop.invariant)
