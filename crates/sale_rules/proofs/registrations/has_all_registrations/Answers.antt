use Rattle.std.proofs.Common.{nat_le, length, ap, ◌∙◌}
use Rattle.sale_rules.proofs.CaseCounts.{thirty_two}
use Rattle.sale_rules.proofs.registrations.has_all_registrations.Goals as goal

pub returns : goal.returns
returns c = ap (nat_le 32) (c.len.ensures.value ∙ ap length c.registered.ensures) ∙ thirty_two c.args.case.now
