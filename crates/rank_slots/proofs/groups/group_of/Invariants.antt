-- The group of the right is its group among the places left.
use Rattle.std.proofs.Common.{◌≡◌, length}
use Rattle.rank_slots.specs.Groups.{group_of}
use Rattle.rank_slots.proofs.groups.group_of.Given as goal

abbrev pub invariant-loop-behind : goal.invariant-loop-behind
invariant-loop-behind l = group_of l.rest l.right ≡ group_of l.places l.right

abbrev pub decreases-loop-behind : goal.decreases-loop-behind
decreases-loop-behind l = length l.rest
