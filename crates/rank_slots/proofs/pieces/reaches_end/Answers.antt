-- One piece less is left to look at.
use Rattle.std.proofs.Common.{◌+◌, ◌-◌, ◌||◌, ap, drop, not, sym, ◌∙◌}
use Rattle.std.specs.List.{list_any}
use Rattle.gb_base.specs.RightNo.{same_right}
use Rattle.rank_slots.specs.inner.Pieces.{line_of}
use Rattle.rank_slots.proofs.Lines.{any_behind, line_at}
use Rattle.rank_slots.proofs.pieces.reaches_end.Goals as goal

pub returns-then-has_cents_behind : goal.returns-then-has_cents_behind
returns-then-has_cents_behind c =
    let behind = line_of (drop (c.loop-piece.piece-index + 1) c.args.pieces.now) in
    let here = line_at c.args.pieces.now c.loop-piece.piece-index c.piece-item.result c.loop-piece-test.true c.piece-item.is in
    let split = ap (λ cs. list_any (same_right c.args.right) (drop c.loop-piece.left cs)) here ∙ any_behind (same_right c.args.right) c.loop-piece.left c.piece-item.result.cents c.piece-item.result.right behind in
    let found = ap (λ b. b || list_any (same_right c.args.right) (drop (c.loop-piece.left - c.piece-item.result.cents) behind)) (sym c.has_cents_behind.ensures ∙ c.if-has_cents_behind.true) in
    ap not (sym found ∙ sym split ∙ c.loop-piece.invariant)

pub loop-piece-preserved : goal.loop-piece-preserved
loop-piece-preserved c =
    let behind = line_of (drop (c.loop-piece.piece-index + 1) c.args.pieces.now) in
    let here = line_at c.args.pieces.now c.loop-piece.piece-index c.piece-item.result c.loop-piece-test.true c.piece-item.is in
    let split = ap (λ cs. list_any (same_right c.args.right) (drop c.loop-piece.left cs)) here ∙ any_behind (same_right c.args.right) c.loop-piece.left c.piece-item.result.cents c.piece-item.result.right behind in
    let none = ap (λ b. b || list_any (same_right c.args.right) (drop (c.loop-piece.left - c.piece-item.result.cents) behind)) (sym c.has_cents_behind.ensures ∙ c.if-has_cents_behind.false) in
    ap (λ k. list_any (same_right c.args.right) (drop k behind)) c.saturating_sub-left.ensures ∙ sym none ∙ sym split ∙ c.loop-piece.invariant
