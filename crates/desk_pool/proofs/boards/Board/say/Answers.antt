use Rattle.std.proofs.Common.{◌-◌, ◌∙◌, arith}
use Rattle.desk_pool.proofs.Saying.{said_set}
use Rattle.desk_pool.proofs.boards.Board.say.Goals as goal

pub invariant_of-self : goal.invariant_of-self
invariant_of-self g c =
    let low = c.get.ensures.positive in
    let value = c.get.ensures.value in
    let count = c.len.ensures ∙ c.self.inside.verdicts.ok.0 in
    let below = c.if-index-len.true in
    said_set g.N.JournalName.receipts c.self.inside.verdicts.items c.self.inside.said.items c.args.item (c.get.result - 1) c.args.verdict (omega (arith, low, value)) (omega (arith, count, below)) c.requires c.self.invariant
