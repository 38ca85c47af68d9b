use Rattle.std.proofs.Common.{◌∙◌}
use Rattle.desk_pool.specs.inner.FoliosBack.{AreSettled}
use Rattle.desk_pool.proofs.TakingOver.{given_at_place, held_in_folio, none_taken_over, one_more_taken, room_taken, settled_taken}
use Rattle.desk_pool.proofs.taking_over.take_all_over.Goals as goal

pub loop-wanted-init : goal.loop-wanted-init
loop-wanted-init g c = none_taken_over g.N.JournalName.receipts c.args.queues.now c.args.parts.now c.args.back.now c.args.keys.now c.requires.back c.requires.keys

pub take_over-requires-clause-here : goal.take_over-requires-clause-here
take_over-requires-clause-here g c =
    let key = c.wanted-item.result.key in
    (λ j. c.loop-wanted.invariant.held j key)
    ∙ c.requires.held key
    ∙ given_at_place g.N.JournalName.receipts c.args.keys.now c.loop-wanted.wanted-index c.wanted-item.result c.requires.keys c.loop-wanted-test.true c.wanted-item.is

pub take_over-requires-clause-among : goal.take_over-requires-clause-among
take_over-requires-clause-among g c =
    c.requires.queues.all c.wanted-item.result.key (given_at_place g.N.JournalName.receipts c.args.keys.now c.loop-wanted.wanted-index c.wanted-item.result c.requires.keys c.loop-wanted-test.true c.wanted-item.is)

pub take_over-requires-clause-there : goal.take_over-requires-clause-there
take_over-requires-clause-there g c =
    held_in_folio g.N.JournalName.receipts (AreSettled g.N.JournalName.receipts c.args.back.now) c.args.queues.now c.args.parts.now c.loop-wanted.parts c.loop-wanted.back c.args.keys.now c.loop-wanted.wanted-index c.wanted-item.result.key
    c.loop-wanted.invariant (given_at_place g.N.JournalName.receipts c.args.keys.now c.loop-wanted.wanted-index c.wanted-item.result c.requires.keys c.loop-wanted-test.true c.wanted-item.is)

pub loop-wanted-preserved : goal.loop-wanted-preserved
loop-wanted-preserved g c =
    one_more_taken g.N.JournalName.receipts (AreSettled g.N.JournalName.receipts c.args.back.now) c.args.queues.now c.args.parts.now c.loop-wanted.parts c.take_over.new.parts c.loop-wanted.back c.take_over.new.back c.args.keys.now
    c.loop-wanted.wanted-index c.wanted-item.result c.requires.keys.apart c.loop-wanted-test.true c.wanted-item.is c.loop-wanted.invariant c.take_over.ensures

pub returns-clause-room : goal.returns-clause-room
returns-clause-room g c =
    room_taken g.N.JournalName.receipts (AreSettled g.N.JournalName.receipts c.args.back.now) c.args.queues.now c.args.parts.now c.loop-wanted.parts c.loop-wanted.back c.args.keys.now c.loop-wanted.wanted-index c.requires.held c.requires.keys
    c.loop-wanted-test.false c.loop-wanted.invariant

pub returns-clause-settled : goal.returns-clause-settled
returns-clause-settled g c =
    settled_taken g.N.JournalName.receipts (AreSettled g.N.JournalName.receipts c.args.back.now) c.args.queues.now c.args.parts.now c.loop-wanted.parts c.loop-wanted.back c.args.keys.now c.loop-wanted.wanted-index c.requires.held c.requires.keys
    c.loop-wanted-test.false c.loop-wanted.invariant
