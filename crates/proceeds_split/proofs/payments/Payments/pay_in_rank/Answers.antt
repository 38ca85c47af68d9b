-- A run is paid, and the next one begins.
use Rattle.std.proofs.Common.{◌+◌, ◌-◌, drop, length, sym, subst, arith}
use Rattle.std.proofs.lemmas.List.Sums.{sum_by-take-drop, sum_by-take-le}
use Rattle.auction_classes.specs.PayableClaims.{amount_claimed}
use Rattle.proceeds_split.proofs.RunsLeft.{AreRunsLeft, run_ends, run_goes_on, run_paid}
use Rattle.proceeds_split.proofs.payments.Payments.pay_in_rank.Goals.{else-not-claims-i, then-not-claims-i}
use Rattle.proceeds_split.proofs.payments.Payments.pay_in_rank.Goals as goal

pub pay_in_proportion-requires-clause-sum : goal.pay_in_proportion-requires-clause-sum
pay_in_proportion-requires-clause-sum c =
    let front = sum_by-take-le amount_claimed (drop c.loop-i.start c.args.claims.now) (c.loop-i.i - c.loop-i.start) in
    let both = sum_by-take-drop amount_claimed c.args.claims.now c.loop-i.start in
    omega (arith, front, both, c.requires.sum)

pub loop-i-preserved : goal.loop-i-preserved
loop-i-preserved c =
    let claims = c.args.claims.now in
    let i = c.loop-i.i in
    let x = c.index-claims-i.result in
    elim c.if-not-claims-i.branch [
      | then-not-claims-i w ↦
          subst (λ p. AreRunsLeft c.args.part claims c.if-not-claims-i.start (i + 1) c.args.self.now p) (sym w.self-is)
          (subst (λ n. AreRunsLeft c.args.part claims n (i + 1) c.args.self.now w.pay_in_proportion.new.self) (sym w.start-is)
          (run_paid c.args.part claims c.loop-i.start i x c.args.self.now c.loop-i.self w.pay_in_proportion.new.self c.loop-i.invariant c.loop-i-test.true c.index-claims-i.is w.if-not-claims-i.true w.pay_in_proportion.ensures))
      | else-not-claims-i w ↦
          subst (λ p. AreRunsLeft c.args.part claims c.if-not-claims-i.start (i + 1) c.args.self.now p) (sym w.self-is)
          (subst (λ n. AreRunsLeft c.args.part claims n (i + 1) c.args.self.now c.loop-i.self) (sym w.start-is)
          (run_goes_on c.args.part claims c.loop-i.start i x c.args.self.now c.loop-i.self c.loop-i.invariant c.loop-i-test.true c.index-claims-i.is w.if-not-claims-i.false))
    ]

pub pay_in_proportion-requires-2-clause-sum : goal.pay_in_proportion-requires-2-clause-sum
pay_in_proportion-requires-2-clause-sum c =
    let front = sum_by-take-le amount_claimed (drop c.loop-i.start c.args.claims.now) (length c.args.claims.now - c.loop-i.start) in
    let both = sum_by-take-drop amount_claimed c.args.claims.now c.loop-i.start in
    omega (arith, front, both, c.requires.sum)

pub returns : goal.returns
returns c = run_ends c.args.part c.args.claims.now c.loop-i.start c.loop-i.i c.args.self.now c.loop-i.self c.pay_in_proportion-2.new.self c.loop-i.invariant c.loop-i-test.false c.pay_in_proportion-2.ensures
