use Rattle.std.proofs.Common.{◌≡◌, ◌+◌, length, vec_len}
use Rattle.desk_pool.specs.inner.FolioMarks.{count_here}
use Rattle.desk_pool.specs.inner.FoliosInRow.{AreSomeInRow}
use Rattle.desk_pool.proofs.locking.put_back.Given as goal

abbrev pub invariant-loop-lock : goal.invariant-loop-lock
invariant-loop-lock g l = record {
  back : AreSomeInRow g.W.RowName.row l.places (count_here l.places);
  all : count_here l.places + vec_len l.locks ≡ length g.W.RowName.row;
}

abbrev pub decreases-loop-lock : goal.decreases-loop-lock
decreases-loop-lock g l = goal.left-loop-lock g l
