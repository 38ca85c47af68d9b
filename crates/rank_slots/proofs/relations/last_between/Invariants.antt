-- The last so far, and the last of those left, are the last of all.
use Rattle.std.proofs.Common.{◌≡◌, drop, filter}
use Rattle.std.specs.List.{last_or}
use Rattle.rank_slots.specs.Relations.{last_between, swaps_both}
use Rattle.rank_slots.proofs.relations.last_between.Given as goal

abbrev pub invariant-loop-swap : goal.invariant-loop-swap
invariant-loop-swap l = last_or l.last (filter (swaps_both l.x l.y) (drop l.swap-index l.swaps)) ≡ last_between l.x l.y l.swaps
