-- The filing's own documents are asked first, then what cures bring.
use Rattle.std.proofs.Common.{length, ap, sym, ◌∙◌}
use Rattle.std.specs.List.{list_any}
use Rattle.gb_base.specs.Limits.{is_between}
use Rattle.act_model.specs.Sought.{is_sought}
use Rattle.act_model.proofs.FiledDocuments.{found_in_cures, found_none, found_own, has_sought}
use Rattle.act_model.proofs.matters.Matter.has.Goals as goal

pub returns-then-are_among : goal.returns-then-are_among
returns-then-are_among c =
    found_own _ _ _ _ c.are_among.result (has_sought c.args.self.now c.args.sought.now)
    (ap (is_between 1 (length c.args.self.now.filing.now.acts)) (sym c.act.ensures) ∙ sym c.has_act.ensures ∙ c.if-has_act.true)
    (c.are_among.ensures ∙ ap (list_any (is_sought c.args.sought.now)) c.list.ensures.value) c.if-are_among.true

pub returns-else-are_among : goal.returns-else-are_among
returns-else-are_among c =
    found_in_cures _ _ _ _ c.cures_bring.result (has_sought c.args.self.now c.args.sought.now)
    (ap (is_between 1 (length c.args.self.now.filing.now.acts)) (sym c.act.ensures) ∙ sym c.has_act.ensures ∙ c.if-has_act.true)
    (ap (list_any (is_sought c.args.sought.now)) (sym c.list.ensures.value) ∙ sym c.are_among.ensures ∙ c.if-are_among.false) c.cures_bring.ensures

pub returns-else-has_act : goal.returns-else-has_act
returns-else-has_act c =
    found_none _ _ _ c.has_act.result (c.has_act.ensures ∙ ap (is_between 1 (length c.args.self.now.filing.now.acts)) c.act.ensures) c.if-has_act.false
    (has_sought c.args.self.now c.args.sought.now)
