use Rattle.folio_extract.proofs.PlansTold.{tells_plans as told_of_register}
use Rattle.folio_extract.proofs.plans.tells_plans.Goals as goal

pub returns : goal.returns
returns c =
    let journal = c.args.journal.now.receipts in
    told_of_register journal c.args.register.now c.is_a_journal.ensures.journal (c.registers_are_kept.ensures.kept journal c.is_a_journal.ensures.journal)
    c.distributions_are_covered.ensures.kept c.distributions_are_covered.ensures.verdicts c.requires
