-- The parts of the late claims are paid in turn.
use Rattle.std.proofs.Common.{ℕ, ◌+◌, [], ◌∷◌, arith}
use Rattle.proceeds_split.specs.Plan.{late_in_proportion, late_in_rank}
use Rattle.proceeds_split.specs.inner.Parts.{late_class_len, late_len}
use Rattle.proceeds_split.proofs.LinesAdded.{pays_none, pays_then}
use Rattle.proceeds_split.proofs.splits.pay_late.Goals as goal

pub returns : goal.returns
returns c =
    let cl = c.args.claims.now.claimed in
    let a : ℕ = late_class_len cl 1 in
    let b : ℕ = late_class_len cl 3 in
    let d : ℕ = late_class_len cl 4 in
    let e : ℕ = late_class_len cl 7 in
    let f : ℕ = late_class_len cl 8 in
    pays_then (late_in_proportion cl 1) (late_in_proportion cl 3 ∷ late_in_rank cl 4 ∷ late_in_proportion cl 7 ∷ late_in_rank cl 8 ∷ []) a (b + (d + (e + f))) (late_len cl) _ _ _ (omega arith) c.pay_late_in_proportion.ensures
    (pays_then (late_in_proportion cl 3) (late_in_rank cl 4 ∷ late_in_proportion cl 7 ∷ late_in_rank cl 8 ∷ []) b (d + (e + f)) (b + (d + (e + f))) _ _ _ (omega arith) c.pay_late_in_proportion-2.ensures
    (pays_then (late_in_rank cl 4) (late_in_proportion cl 7 ∷ late_in_rank cl 8 ∷ []) d (e + f) (d + (e + f)) _ _ _ (omega arith) c.pay_late_in_rank.ensures
    (pays_then (late_in_proportion cl 7) (late_in_rank cl 8 ∷ []) e f (e + f) _ _ _ (omega arith) c.pay_late_in_proportion-3.ensures
    (pays_then (late_in_rank cl 8) [] f 0 f _ _ _ (omega arith) c.pay_late_in_rank-2.ensures (pays_none _)))))
