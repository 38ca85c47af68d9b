-- A disk that tells nothing owes nothing of what it holds.
use Rattle.std.proofs.Common.{IsTrue, false}
use Rattle.grundbuch.proofs.journal_file.JournalFileDisk.TheImpl.Goals as goal

untold : {A : Type 0} → IsTrue false → A
untold tells = absurd cc

pub len-tells : goal.len-tells
len-tells g c = record { len = untold; same = untold; stop = untold; time = untold; cause = c.ensures.cause }

pub read_at-tells : goal.read_at-tells
read_at-tells g c = record { bytes = untold; same = untold; stop = untold; time = untold; cause = c.ensures.cause }

pub write_at-tells : goal.write_at-tells
write_at-tells g c = record { written = untold; stop = untold; time = untold; cause = c.ensures.cause }

pub sync-tells : goal.sync-tells
sync-tells g c = record { durable = untold; same = untold; stop = untold; time = untold; cause = c.ensures.cause }
