use Rattle.std.proofs.Common.{◌≤◌, List, length, sym, subst, arith}
use Rattle.registrar.specs.declared.verdicts.Verdict.{Verdict}
use Rattle.registrar.proofs.one_registrar.settle_all.Goals as goal

pub loop-settled-init : goal.loop-settled-init
loop-settled-init c = (
  c.in_ok-settled.ensures.behind c.args.journal.now.receipts,
  subst (λ (vs : List Verdict). length vs ≤ length c.args.journal.now.receipts) (sym c.in_ok-settled.ensures.none) (omega arith),
)
