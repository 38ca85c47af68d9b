-- One more is added to all four.
use Rattle.std.proofs.Common.{ℕ, Bool, true, false, if◌then◌else◌, ap, arith}
use Rattle.std.proofs.lemmas.List.Sums.{sum_by_more}
use Rattle.auction_classes.specs.Claims.{are_both, arrears_named}
use Rattle.auction_classes.specs.Interest.{arrears_in_class, old_arrears}
use Rattle.auction_classes.specs.declared.accruals.Accrual.{Accrual}
use Rattle.auction_classes.specs.declared.case_items.Registered.{Registered}
use Rattle.auction_classes.proofs.rights_found.arrears_found.Goals as goal

pub loop-registered-preserved : goal.loop-registered-preserved
loop-registered-preserved c =
    let xs = c.args.registrations.now in
    let i = c.loop-registered.registered-index in
    let each : (Accrual → ℕ → ℕ → ℕ) → Bool → Registered → ℕ =
    λ part late r. if are_both late r.late then arrears_named part c.args.accrual.now c.args.right r.what else 0 in
    let more = λ (part : Accrual → ℕ → ℕ → ℕ) (late : Bool). sum_by_more (each part late) xs i c.registered-item.result c.loop-registered-test.true in
    let here = λ (part : Accrual → ℕ → ℕ → ℕ) (late : Bool). ap (each part late) c.registered-item.is in
    record {
      timely = omega (arith, c.loop-registered.invariant.timely, c.add.ensures.timely, more arrears_in_class false, here arrears_in_class false);
      timely_older = omega (arith, c.loop-registered.invariant.timely_older, c.add.ensures.timely_older, more old_arrears false, here old_arrears false);
      late = omega (arith, c.loop-registered.invariant.late, c.add.ensures.late, more arrears_in_class true, here arrears_in_class true);
      late_older = omega (arith, c.loop-registered.invariant.late_older, c.add.ensures.late_older, more old_arrears true, here old_arrears true);
      few = omega (arith, c.loop-registered.invariant.few, c.add.ensures.at_most);
      few_older = omega (arith, c.loop-registered.invariant.few_older, c.add.ensures.older_at_most);
    }
