-- The exchanges so far.
use Rattle.std.proofs.Common.{◌≡◌, ◌≤◌, ◌++◌, drop, length, vec_capacity}
use Rattle.auction_classes.specs.inner.LinesRead.{swaps_read}
use Rattle.auction_classes.proofs.class_lines.write_swaps.Given as goal

abbrev pub invariant-loop-exchange : goal.invariant-loop-exchange
invariant-loop-exchange l = record {
  items : l.swaps.items ++ swaps_read l.class (drop l.exchange-index l.exchanges) ≡ swaps_read l.class l.exchanges;
  few : length l.swaps.items ≤ l.exchange-index;
  capacity : vec_capacity l.swaps ≡ vec_capacity l.fn.swaps;
}
