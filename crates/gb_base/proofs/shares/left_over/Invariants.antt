use Rattle.std.proofs.Common.{◌≡◌, ◌+◌, take}
use Rattle.std.specs.Prelude.{sum_by}
use Rattle.gb_base.specs.Shares.{whole_part}
use Rattle.gb_base.proofs.shares.left_over.Given as goal

abbrev pub invariant-loop-claim : goal.invariant-loop-claim
invariant-loop-claim l = l.left + sum_by (whole_part l.money l.claims) (take l.claim-index l.claims) ≡ l.money
