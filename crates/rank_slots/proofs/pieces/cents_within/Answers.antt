-- One more piece is counted as far as cents are left.
use Rattle.std.proofs.Common.{◌≡◌, ◌+◌, ◌-◌, ap, cond, count_by, drop, min, sym, take, arith, ◌∙◌}
use Rattle.rank_slots.specs.Payments.{is_of_group}
use Rattle.rank_slots.specs.inner.Pieces.{line_of}
use Rattle.rank_slots.proofs.Lines.{counted_front, line_at, sum_so_far}
use Rattle.rank_slots.proofs.pieces.cents_within.Goals as goal
use Rattle.rank_slots.proofs.pieces.cents_within.Goals.{then-holds, else-holds}

pub loop-piece-preserved : goal.loop-piece-preserved
loop-piece-preserved c =
    let test = is_of_group c.args.group.now in
    let behind = line_of (drop (c.loop-piece.piece-index + 1) c.args.pieces.now) in
    let here = line_at c.args.pieces.now c.loop-piece.piece-index c.piece-item.result c.loop-piece-test.true c.piece-item.is in
    let split = ap (λ cs. count_by test (take c.loop-piece.left cs)) here ∙ counted_front test c.loop-piece.left c.piece-item.result.cents c.piece-item.result.right behind in
    let paid : c.min-paid.result ≡ min c.loop-piece.left c.piece-item.result.cents = c.min-paid.ensures in
    let left = ap (λ k. count_by test (take (c.loop-piece.left - k) behind)) paid in
    let added = sum_so_far c.args.pieces.now c.loop-piece.piece-index c.piece-item.result c.loop-piece-test.true c.piece-item.is in
    elim c.if-holds.branch [
      | then-holds w ↦
          let whole = ap (λ b. cond b (min c.loop-piece.left c.piece-item.result.cents) 0) (sym c.holds.ensures ∙ w.if-holds.true) in
          record { counted = omega arith; few = omega arith }
      | else-holds w ↦
          let none = ap (λ b. cond b (min c.loop-piece.left c.piece-item.result.cents) 0) (sym c.holds.ensures ∙ w.if-holds.false) in
          record { counted = omega arith; few = omega arith }
    ]
