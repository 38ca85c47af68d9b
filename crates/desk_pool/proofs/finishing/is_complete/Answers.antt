use Rattle.std.proofs.Common.{◌≡◌, IfSome, length, refl, rules, subst}
use Rattle.desk_pool.specs.inner.Boards.{AreVerdicts}
use Rattle.desk_pool.proofs.AllComplete.{entries_together, frame_together, verdicts_together}
use Rattle.desk_pool.proofs.finishing.is_complete.Goals as goal

pub returns-clause-places : goal.returns-clause-places
returns-clause-places g c =
    let journal = g.N.JournalName.receipts in
    let frame = c.put_into-settled.new.frame in
    let places = c.put_into-settled.ensures.places in
    let count : length c.in-Some.verdicts.items ≡ length journal = search rules in
    record { frame = frame_together journal frame frame.parts c.in-Some.verdicts places.frame refl count; room = places.room }

pub returns-clause-taken : goal.returns-clause-taken
returns-clause-taken g c = λ done.
    let journal = g.N.JournalName.receipts in
    let frame = c.put_into-settled.new.frame in
    let places = c.put_into-settled.ensures.places in
    let empty = c.empty_register_is_kept.ensures.kept journal in
    let count : length c.in-Some.verdicts.items ≡ length journal = search rules in
    record {
      places = record { frame = frame_together journal frame frame.parts c.in-Some.verdicts places.frame refl count; room = places.room };
      entries = entries_together journal c.requires.numbered empty frame.parts places.frame.held (c.put_into-settled.ensures.settled c.if-not-settled.false);
      verdicts = verdicts_together journal c.requires.numbered empty c.in-Some.verdicts.items count (subst (λ o. IfSome o (λ vs. AreVerdicts journal vs.items)) c.in-Some.is c.requires.verdicts);
    }
