use Rattle.intake.proofs.TakenItems.{memory_takes}
use Rattle.intake.proofs.receivers.JournalReceiver.receive.Goals as goal

pub returns-clause-takes : goal.returns-clause-takes
returns-clause-takes c = λ held is.
    memory_takes _ _ _ _ held _ _ _ _ _ c.in-Some.is is c.add_stamped.ensures.answer c.add_stamped.ensures.journal
