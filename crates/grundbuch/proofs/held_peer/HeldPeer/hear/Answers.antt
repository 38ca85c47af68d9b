-- What the reads of a peer bring, one after the other.
use Rattle.grundbuch.proofs.Hearing.{hears_all, hears_not, hears_then}
use Rattle.grundbuch.proofs.held_peer.HeldPeer.hear.Goals as goal

pub loop-init : goal.loop-init
loop-init g c = hears_not _ _ _

pub returns-in-Some-Nothing-clause-heard : goal.returns-in-Some-Nothing-clause-heard
returns-in-Some-Nothing-clause-heard g c = hears_then _ _ _ _ _ _ _ c.loop.invariant (hears_all _ _ _ _ _ c.in-Some-Nothing.ensures)

pub returns-in-Some-Nothing-clause-come : goal.returns-in-Some-Nothing-clause-come
returns-in-Some-Nothing-clause-come g c = λ _. c.stage.ensures

pub returns-in-None-clause-heard : goal.returns-in-None-clause-heard
returns-in-None-clause-heard g c = hears_then _ _ _ _ _ _ _ c.loop.invariant c.in-None.ensures

pub loop-preserved : goal.loop-preserved
loop-preserved g c = hears_then _ _ _ _ _ _ _ c.loop.invariant c.in-Some-More.ensures

pub returns-clause-heard : goal.returns-clause-heard
returns-clause-heard g c = hears_all _ _ _ _ _ c.loop.invariant
