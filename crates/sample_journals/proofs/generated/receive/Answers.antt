-- The journal accepts the item, since room is kept and receipt k does not stand yet.
use Rattle.std.proofs.Common.{◌∙◌}
use Rattle.sample_journals.proofs.Receiving.{received}
use Rattle.sample_journals.proofs.generated.receive.Goals as goal

pub unreachable-requires : goal.unreachable-requires
unreachable-requires c =
    let all = received c.args.k c.from.result c.stamp_of_receipt-stamp.result c.args.item.now c.args.journal.now.receipts c.reserve_one.new.self.receipts c.add.new.self.receipts c.add.result
    c.requires.few c.requires.first c.reserve_one.ensures.receipts (c.from.ensures ∙ c.get.ensures.value) c.stamp_of_receipt-stamp.ensures
    (c.add.ensures.room c.in_ok-reserve_one.ensures.room) c.add.ensures.journal in
    c.in_default.not-Accepted c.args.k all.accepts

pub returns-clause-receipts : goal.returns-clause-receipts
returns-clause-receipts c =
    let all = received c.args.k c.from.result c.stamp_of_receipt-stamp.result c.args.item.now c.args.journal.now.receipts c.reserve_one.new.self.receipts c.add.new.self.receipts c.add.result
    c.requires.few c.requires.first c.reserve_one.ensures.receipts (c.from.ensures ∙ c.get.ensures.value) c.stamp_of_receipt-stamp.ensures
    (c.add.ensures.room c.in_ok-reserve_one.ensures.room) c.add.ensures.journal in
    all.receipts

pub returns-clause-first : goal.returns-clause-first
returns-clause-first c =
    let all = received c.args.k c.from.result c.stamp_of_receipt-stamp.result c.args.item.now c.args.journal.now.receipts c.reserve_one.new.self.receipts c.add.new.self.receipts c.add.result
    c.requires.few c.requires.first c.reserve_one.ensures.receipts (c.from.ensures ∙ c.get.ensures.value) c.stamp_of_receipt-stamp.ensures
    (c.add.ensures.room c.in_ok-reserve_one.ensures.room) c.add.ensures.journal in
    all.first
