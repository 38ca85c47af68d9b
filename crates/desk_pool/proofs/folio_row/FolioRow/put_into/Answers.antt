use Rattle.std.proofs.Common.{subst, sym}
use Rattle.desk_pool.specs.inner.FoliosBack.{AreSettled}
use Rattle.desk_pool.proofs.AllComplete.{frame_together}
use Rattle.desk_pool.proofs.folio_row.FolioRow.put_into.Goals as goal

pub returns-clause-places : goal.returns-clause-places
returns-clause-places g c = record {
  frame = frame_together g.N.JournalName.receipts c.args.frame.now c.take_all_over.new.parts c.args.frame.now.verdicts c.requires c.take_all_over.ensures.held c.requires.verdicts;
  room = c.take_all_over.ensures.room;
}

pub returns-clause-settled : goal.returns-clause-settled
returns-clause-settled g c = λ settled.
    c.take_all_over.ensures.settled (subst (AreSettled g.N.JournalName.receipts) (sym c.as_mut_slice-2.ensures.value) (c.take_parts-settled.ensures.settled settled))
