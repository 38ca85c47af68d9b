use Rattle.std.proofs.Common.{◌≡◌, length, subst, rules}
use Rattle.desk_pool.specs.inner.FolioMarks.{count_here}
use Rattle.desk_pool.specs.inner.FoliosInRow.{AreSomeInRow}
use Rattle.desk_pool.proofs.FoliosInRow.{all_in_row}
use Rattle.desk_pool.proofs.locking.put_back.Goals as goal

pub returns : goal.returns
returns g c =
    let all : count_here c.loop-lock.places ≡ length g.W.RowName.row = search rules in
    all_in_row g.W.RowName.row c.loop-lock.places (subst (AreSomeInRow g.W.RowName.row c.loop-lock.places) all c.loop-lock.invariant.back)
