use Rattle.std.proofs.Common.{◌≡◌, ◌≤◌, length, vec_capacity, vec_len}
use Rattle.desk_pool.proofs.FoliosInRow.{AreLeaving}
use Rattle.desk_pool.proofs.locking.put_behind_locks.Given as goal

abbrev pub invariant-loop-place : goal.invariant-loop-place
invariant-loop-place g l = record {
  leaving : AreLeaving l.fn.places l.places l.place;
  many : vec_len l.locks ≡ l.place;
  room : length l.fn.places ≤ vec_capacity l.locks;
}
