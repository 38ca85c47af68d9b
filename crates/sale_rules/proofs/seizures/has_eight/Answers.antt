use Rattle.std.proofs.Common.{nat_le, length, ap, ◌∙◌}
use Rattle.sale_rules.proofs.CaseCounts.{eight}
use Rattle.sale_rules.proofs.seizures.has_eight.Goals as goal

pub returns : goal.returns
returns c = ap (nat_le 8) (c.len.ensures.value ∙ ap length c.seized.ensures) ∙ eight c.args.case.now
