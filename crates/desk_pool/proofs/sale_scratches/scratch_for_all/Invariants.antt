use Rattle.std.proofs.Common.{ℕ, ◌<◌, get_or}
use Rattle.desk_pool.specs.declared.folio_parts.KeyRoom.{KeyRoom}
use Rattle.desk_pool.specs.inner.ScratchesPrepared.{ServesAt}
use Rattle.desk_pool.proofs.sale_scratches.scratch_for_all.Given as goal

abbrev pub invariant-loop-wanted : goal.invariant-loop-wanted
invariant-loop-wanted l = record {
  served : (i : ℕ) (d : KeyRoom) → i < l.wanted-index → ServesAt l.journal.receipts (get_or l.keys i d).key l.scratch;
}
