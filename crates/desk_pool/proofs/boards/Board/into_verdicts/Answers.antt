use Rattle.std.proofs.Common.{◌∙◌, ap, sym}
use Rattle.std.specs.List.{list_all}
use Rattle.desk_pool.proofs.Saying.{said_whole}
use Rattle.desk_pool.proofs.boards.Board.into_verdicts.Goals as goal

pub returns-clause-verdicts : goal.returns-clause-verdicts
returns-clause-verdicts g c =
    said_whole g.N.JournalName.receipts c.self.inside.verdicts.items c.self.inside.said.items c.self.invariant
    (sym c.self.inside.said.ok.0 ∙ sym c.len.ensures ∙ c.if-len.false ∙ c.len-2.ensures ∙ c.self.inside.verdicts.ok.0)
    (ap (list_all (λ b. b)) (sym c.as_slice.ensures.value) ∙ sym c.are_all_said.ensures ∙ c.if-not-are_all_said.false)
