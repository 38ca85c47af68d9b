-- The receipt that waited comes into the index.
use Rattle.std.proofs.Common.{◌≡◌, ◌+◌, arith}
use Rattle.std.proofs.lemmas.Grind.{common_steps}
use Rattle.act_model.proofs.JournalLemmas.{IsIndexOf-waiting}
use Rattle.act_model.proofs.journals.index_waiting.Goals as goal

pub returns-in_ok-insert-in-Some-clause-all : goal.returns-in_ok-insert-in-Some-clause-all
returns-in_ok-insert-in-Some-clause-all c =
    let within = c.in-Some.ensures.lookup.3 in
    let number : c.unwrap-n.result ≡ c.args.indexed + 1 = grind (arith, common_steps) in
    IsIndexOf-waiting c.args.numbers.now c.insert.new.self c.args.receipts.now c.in-Some.waiting.now c.args.indexed c.unwrap-n.result c.requires.journal c.requires.index within.0 within.1 number c.in_ok-insert-in-Some.ensures.updates
