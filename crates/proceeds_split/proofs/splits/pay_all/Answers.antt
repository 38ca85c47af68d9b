-- All parts are paid in turn.
use Rattle.std.proofs.Common.{ℕ, ◌+◌, [], ◌∷◌, ◌++◌, length, subst, arith}
use Rattle.proceeds_split.specs.Plan.{class_five, class_four, class_six, to_owners}
use Rattle.proceeds_split.specs.inner.Parts.{ahead, ahead_len, behind, behind_len, late, late_len, plan_len, timely_len}
use Rattle.proceeds_split.specs.inner.Payments.{Pays}
use Rattle.proceeds_split.proofs.LinesAdded.{pays_both, pays_none, pays_then}
use Rattle.proceeds_split.proofs.splits.pay_all.Goals as goal

pub returns-clause-lines : goal.returns-clause-lines
returns-clause-lines c =
    let cl = c.args.claims.now.claimed in
    let cover = c.args.lowest.cover in
    let n : ℕ = length cl.owners in
    let owners = subst (λ os. Pays (length os) (to_owners os) c.pay_late.new.payments c.pay_owners.new.self) c.owners.ensures c.pay_owners.ensures in
    let last = pays_then (to_owners cl.owners) [] n 0 n _ _ _ (omega arith) owners (pays_none _) in
    let lates = pays_both (late cl) (to_owners cl.owners ∷ []) (late_len cl) n (late_len cl + n) _ _ _ (omega arith) c.pay_late.ensures last in
    let behinds = pays_both (behind cl) (late cl ++ to_owners cl.owners ∷ []) (behind_len cl) (late_len cl + n) (behind_len cl + (late_len cl + n)) _ _ _ (omega arith) c.pay_behind.ensures lates in
    let rest = behind cl ++ (late cl ++ to_owners cl.owners ∷ []) in
    let b : ℕ = behind_len cl + (late_len cl + n) in
    let sixes = pays_then (class_six cl) rest (timely_len cl 6) b (timely_len cl 6 + b) _ _ _ (omega arith) c.pay_class_six.ensures behinds in
    let fives = pays_then (class_five cl) (class_six cl ∷ rest) (timely_len cl 5) (timely_len cl 6 + b) (timely_len cl 5 + (timely_len cl 6 + b)) _ _ _ (omega arith) c.pay_class_five.ensures sixes in
    let fours = pays_then (class_four cl cover) (class_five cl ∷ class_six cl ∷ rest) (timely_len cl 4) (timely_len cl 5 + (timely_len cl 6 + b)) (timely_len cl 4 + (timely_len cl 5 + (timely_len cl 6 + b))) _ _ _ (omega arith) c.pay_class_four.ensures fives in
    pays_both (ahead cl) (class_four cl cover ∷ class_five cl ∷ class_six cl ∷ rest) (ahead_len cl) (timely_len cl 4 + (timely_len cl 5 + (timely_len cl 6 + b))) (plan_len cl) _ _ _ (omega arith) c.pay_ahead.ensures fours
