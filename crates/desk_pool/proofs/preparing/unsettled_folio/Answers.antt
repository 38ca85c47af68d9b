use Rattle.desk_pool.proofs.AllPrepared.{behind_lock}
use Rattle.desk_pool.specs.FolioStates.{scratch_of}
use Rattle.desk_pool.proofs.preparing.unsettled_folio.Goals as goal

pub new-requires : goal.new-requires
new-requires g c =
    behind_lock c.args.journal.now.receipts g.N.JournalName.receipts c.args.rooms.now c.args.folio c.in_ok-parts.parts (scratch_of c.in_ok-scratch.scratch)
    c.requires.named c.is_a_journal.ensures.journal c.requires.rooms c.in_ok-parts.ensures c.in_ok-scratch.ensures
