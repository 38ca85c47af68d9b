-- The row of the claims so far.
use Rattle.std.proofs.Common.{◌≡◌, take, vec_capacity, vec_len}
use Rattle.auction_classes.specs.Claims.{in_row}
use Rattle.auction_classes.proofs.claim_rows.write_row.Given as goal

abbrev pub invariant-loop-i : goal.invariant-loop-i
invariant-loop-i l = record {
  row : l.items.items ≡ in_row (take l.i l.claims);
  few : vec_len l.items ≡ l.i;
  capacity : vec_capacity l.items ≡ vec_capacity l.fn.items;
}
