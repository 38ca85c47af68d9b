use Rattle.std.proofs.Common.{◌∙◌, ap, arith, length}
use Rattle.conflict_queue.proofs.Numbered.{docket_len}
use Rattle.desk_pool.proofs.desks.keys_of.Goals as goal

pub returns-clause-received : goal.returns-clause-received
returns-clause-received g c =
    let value = c.get.ensures.value in
    let count = c.len.ensures ∙ ap length c.args.round.now.docket_is ∙ docket_len g.N.JournalName.receipts in
    let within = c.if-get-len.false in
    omega (arith, value, count, within)
