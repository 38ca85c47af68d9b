use Rattle.std.proofs.Common.{sym, ◌∙◌, arith}
use Rattle.act_model.proofs.KeyLemmas.{insert_key-first}
use Rattle.act_model.proofs.touched_keys.+index_for.Goals as goal

pub returns-in-len1-up-clause-index : goal.returns-in-len1-up-clause-index
returns-in-len1-up-clause-index t c =
    insert_key-first c.args.keys.now c.args.key c.first-item.result c.index_for.result (omega arith) c.first-item.is (sym c.ge.ensures ∙ c.if-ge.true) c.index_for.ensures.index
