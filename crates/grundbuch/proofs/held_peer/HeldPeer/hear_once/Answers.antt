-- What one read of a peer brings.
use Rattle.std.proofs.Common.{arith, length-take, refl, take}
use Rattle.grundbuch.proofs.Hearing.{hears_end, hears_lost, hears_more, hears_not, hears_nothing}
use Rattle.grundbuch.proofs.held_peer.HeldPeer.hear_once.Goals as goal

pub returns-then-most-eq0 : goal.returns-then-most-eq0
returns-then-most-eq0 g c = hears_not _ _ _

pub returns-in-Ok-eq0 : goal.returns-in-Ok-eq0
returns-in-Ok-eq0 g c =
    hears_end _ _ _ _ c.read_some.result c.in-Ok-eq0.field-0 c.read_some.new.into c.in-Ok-eq0.is c.in-Ok-eq0.field-0-test
    (omega (arith, length-take c.min-most.result c.args.block.now)) c.read_some.ensures.bytes c.end.ensures

pub returns-in-Ok-keep : goal.returns-in-Ok-keep
returns-in-Ok-keep g c = hears_more _ _ _ _ c.in-Ok.count c.read_some.new.into _ c.in-Ok.ensures.bound.0 c.in-Ok.ensures.bytes.0 c.in-Ok-keep.ensures.kept

pub returns-in-Err-keep : goal.returns-in-Err-keep
returns-in-Err-keep g c = hears_lost _ _ _ _ (take c.in-Ok.count c.read_some.new.into) c.in-Ok.ensures.bytes.0 c.in-Err-keep.ensures.lost

pub returns-in-Err : goal.returns-in-Err
returns-in-Err g c = hears_nothing _ _ _ _ _ c.in-Err.ensures.bytes refl

pub returns-in-Err-2 : goal.returns-in-Err-2
returns-in-Err-2 g c = hears_nothing _ _ _ _ _ c.in-Err-2.ensures.bytes refl
