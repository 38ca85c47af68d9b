use Rattle.std.proofs.Common.{◌≡◌, ◌&&◌, nat_le, drop}
use Rattle.std.specs.List.{list_any}
use Rattle.act_model.proofs.filing_documents.some_passes.Given as goal

abbrev pub invariant-loop-consenter : goal.invariant-loop-consenter
invariant-loop-consenter g l =
    list_any (λ c. nat_le c.first l.item && g.T.PersonTest.test l.test c.person) (drop l.consenter-index l.consenters)
    ≡ list_any (λ c. nat_le c.first l.item && g.T.PersonTest.test l.test c.person) l.consenters
