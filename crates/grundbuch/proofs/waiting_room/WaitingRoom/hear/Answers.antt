-- A peer is put back into its own place, and no other is changed.
use Rattle.std.proofs.Common.{◌∙◌, sym}
use Rattle.grundbuch.proofs.PeerPlaces.{hears_there, none_there, only_set, only_set_again}
use Rattle.grundbuch.proofs.waiting_room.WaitingRoom.hear.Goals as goal

pub returns-in_default-clause-heard : goal.returns-in_default-clause-heard
returns-in_default-clause-heard g c = λ _. none_there c.args.self.now.places.items _ c.args.place (λ peer. peer.inbox) c.take.ensures.places

pub returns-in_default-clause-others : goal.returns-in_default-clause-others
returns-in_default-clause-others g c = only_set _ _ _ _ c.take.ensures.places

pub returns-in-Some-read-clause-heard : goal.returns-in-Some-read-clause-heard
returns-in-Some-read-clause-heard g c = λ stays.
    hears_there c.args.self.now.places.items _ _ c.args.place c.in-Some.peer c.read.new.peer (λ peer. peer.inbox) (sym c.in-Some.is ∙ c.take.ensures.peer)
    (c.read.ensures.places ∙ c.take.ensures.places) c.put.ensures (c.in-Some-read.ensures.heard (c.is_in-leaving.ensures ∙ stays))

pub returns-in-Some-read-clause-others : goal.returns-in-Some-read-clause-others
returns-in-Some-read-clause-others g c = only_set_again _ _ _ _ _ (c.read.ensures.places ∙ c.take.ensures.places) c.put.ensures

pub returns-in-None-clause-heard : goal.returns-in-None-clause-heard
returns-in-None-clause-heard g c = λ _.
    none_there c.args.self.now.places.items _ c.args.place (λ peer. peer.inbox) (c.read.ensures.places ∙ c.take.ensures.places)

pub returns-in-None-clause-others : goal.returns-in-None-clause-others
returns-in-None-clause-others g c = only_set _ _ _ _ (c.read.ensures.places ∙ c.take.ensures.places)
