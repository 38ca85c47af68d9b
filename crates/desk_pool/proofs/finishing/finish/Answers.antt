use Rattle.std.proofs.Common.{subst, sym}
use Rattle.conflict_queue.specs.Schedules.{in_receipt_order}
use Rattle.desk_pool.specs.Preparing.{HasPlaces}
use Rattle.desk_pool.specs.inner.TheRegister.{IsTheRegister}
use Rattle.desk_pool.proofs.RoundOrders.{permitted_so}
use Rattle.desk_pool.proofs.finishing.finish.Goals as goal

pub into_register-requires-clause-permitted : goal.into_register-requires-clause-permitted
into_register-requires-clause-permitted g c =
    permitted_so g.N.JournalName.receipts c.args.journal.now.receipts (in_receipt_order g.N.JournalName.receipts) c.args.receipts.now c.requires.named c.requires.receipts (c.receipts_in_turn.ensures.permitted g.N.JournalName.receipts)

pub returns-then-is_complete : goal.returns-then-is_complete
returns-then-is_complete g c = subst (λ j. IsTheRegister j c.into_register.result) c.requires.named c.into_register.ensures

pub settle_in-requires-clause-prepared : goal.settle_in-requires-clause-prepared
settle_in-requires-clause-prepared g c =
    c.reset.ensures.prepared c.args.journal.now.receipts (subst (λ j. HasPlaces j c.is_complete.new.frame) (sym c.requires.named) c.is_complete.ensures.places)

pub settle_in-requires-clause-permitted : goal.settle_in-requires-clause-permitted
settle_in-requires-clause-permitted g c =
    permitted_so g.N.JournalName.receipts c.args.journal.now.receipts (in_receipt_order g.N.JournalName.receipts) c.args.receipts.now c.requires.named c.requires.receipts (c.receipts_in_turn.ensures.permitted g.N.JournalName.receipts)

pub returns : goal.returns
returns g c = subst (λ j. IsTheRegister j c.settle_in.result) c.requires.named c.settle_in.ensures
