use Rattle.std.proofs.Common.{◌≤◌, length, vec_capacity}
use Rattle.desk_pool.proofs.TakingParts.{AreParts}
use Rattle.desk_pool.proofs.taking_parts.take_parts.Given as goal

abbrev pub invariant-loop-place : goal.invariant-loop-place
invariant-loop-place g l = record {
  taken : AreParts g.N.JournalName.receipts l.queues l.fn.places l.places l.back.items l.settled l.place;
  room : length l.queues ≤ vec_capacity l.back;
}
