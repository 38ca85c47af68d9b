use Rattle.std.proofs.Common.{refl, subst, sym}
use Rattle.desk_pool.specs.Preparing.{HasPlaces}
use Rattle.desk_pool.specs.inner.TheRegister.{IsTheRegister}
use Rattle.desk_pool.proofs.RoundOrders.{permitted_so}
use Rattle.desk_pool.proofs.finishing.settle_in_row.Goals as goal

pub settle_in-requires-clause-prepared : goal.settle_in-requires-clause-prepared
settle_in-requires-clause-prepared g c =
    c.reset.ensures.prepared c.args.journal.now.receipts (subst (λ j. HasPlaces j c.put_into.new.frame) (sym c.requires.named) c.put_into.ensures.places)

pub settle_in-requires-clause-permitted : goal.settle_in-requires-clause-permitted
settle_in-requires-clause-permitted g c = permitted_so g.N.JournalName.receipts c.args.journal.now.receipts c.args.order.now c.args.order.now c.requires.named refl c.requires.permitted

pub returns : goal.returns
returns g c = subst (λ j. IsTheRegister j c.settle_in.result) c.requires.named c.settle_in.ensures
