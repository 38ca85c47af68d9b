use Rattle.journal_disk.proofs.Puts.{put_written, put_synced}
use Rattle.journal_disk.proofs.writing.put.Goals as goal

pub returns-in_err-write_at-clause-any_moment : goal.returns-in_err-write_at-clause-any_moment
returns-in_err-write_at-clause-any_moment g c = λ yes.
    put_written g.D.Disk.images g.D.Disk.moment g.D.Disk.since _ _ _ _ (λ file left. g.met.D.Disk.only_now c.args.disk.now file yes left) (c.write_at.ensures.time yes) (c.write_at.ensures.stop yes)

pub returns-clause-any_moment : goal.returns-clause-any_moment
returns-clause-any_moment g c = λ yes.
    put_synced g.D.Disk.images g.D.Disk.moment g.D.Disk.since _ _ _ _ _ (λ file left. g.met.D.Disk.only_now c.args.disk.now file yes left) (c.write_at.ensures.time yes) (c.write_at.ensures.stop yes)
    (c.sync.ensures.time yes) (c.sync.ensures.stop yes)
