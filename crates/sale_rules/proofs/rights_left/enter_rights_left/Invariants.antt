use Rattle.std.proofs.Common.{drop}
use Rattle.gb_base.specs.RightNo.{RightNo}
use Rattle.folio_sections.proofs.Progress.{Progress}
use Rattle.sale_rules.specs.inner.RightsLeft.{left_by}
use Rattle.sale_rules.proofs.RightsInTurn.{IsApart}
use Rattle.sale_rules.proofs.rights_left.enter_rights_left.Given as goal

abbrev pub invariant-loop-id : goal.invariant-loop-id
invariant-loop-id g l =
    Progress RightNo (left_by l.left) (IsApart l.left.folio (drop l.id-index l.ids)) l.ids (drop l.id-index l.ids)
    (g.P.Parts.at l.fn.parts) (g.P.Parts.at l.parts) (g.P.Parts.room l.fn.parts) (g.P.Parts.room l.parts) (g.P.Parts.holds l.fn.parts) (g.P.Parts.holds l.parts)
