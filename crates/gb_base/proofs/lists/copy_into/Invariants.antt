-- What is copied so far.
use Rattle.std.proofs.Common.{◌≡◌, take, vec_capacity}
use Rattle.gb_base.proofs.lists.copy_into.Given as goal

abbrev pub invariant-loop-item : goal.invariant-loop-item
invariant-loop-item g l = record {
  items : l.list.items ≡ take l.item-index l.from;
  capacity : vec_capacity l.list ≡ vec_capacity l.fn.list;
}
