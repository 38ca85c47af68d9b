-- Whoever is listed from a later receipt on is not asked.
use Rattle.std.proofs.Common.{◌<◌, arith, subst, sym, ◌∙◌}
use Rattle.act_model.proofs.ConsenterLemmas.{none_from}
use Rattle.act_model.proofs.filing_documents.some_passes.Goals as goal

pub returns-then-gt : goal.returns-then-gt
returns-then-gt g c =
    sym (none_from (λ e. g.T.PersonTest.test c.args.test.now e.person) c.args.item 0 c.requires.0 c.args.consenters.now c.loop-consenter.consenter-index c.consenter-item.result c.requires.1 c.loop-consenter-test.true
    (subst (λ e. c.args.item < e.first) c.consenter-item.is (search arith)))
    ∙ c.loop-consenter.invariant
