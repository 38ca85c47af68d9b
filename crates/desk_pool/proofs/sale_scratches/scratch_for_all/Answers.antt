-- The scratch gets the room for one sale after the other.
use Rattle.std.proofs.Common.{arith}
use Rattle.desk_pool.proofs.PreparedScratches.{at_case, next_serves, serves_all}
use Rattle.desk_pool.proofs.sale_scratches.scratch_for_all.Goals as goal

pub loop-wanted-preserved : goal.loop-wanted-preserved
loop-wanted-preserved c = record {
  served = next_serves c.args.journal.now.receipts c.args.keys.now c.loop-wanted.wanted-index c.wanted-item.result c.loop-wanted.scratch c.reserve_at.new.scratch
      c.loop-wanted-test.true c.wanted-item.is c.in_ok-reserve_at.ensures.kept c.in_ok-reserve_at.ensures.served c.loop-wanted.invariant.served;
}

pub returns : goal.returns
returns c =
    let journal = c.args.journal.now.receipts in
    serves_all journal c.loop-wanted.scratch (λ folio given.
    at_case journal c.args.rooms.now c.args.keys.now c.loop-wanted.scratch folio c.requires.rooms c.requires.keys
    (λ i d within. c.loop-wanted.invariant.served i d (omega (arith, c.loop-wanted-test.false, within))) given)
