-- Of those below the filing, the last that waits does not stand before the mark.
use Rattle.std.proofs.Common.{◌≡◌, ◌∙◌, ℕ, false, None, drop, filter, List, Option, ap, option_map, subst, take, arith}
use Rattle.std.specs.List.{last_or}
use Rattle.folio_sections.specs.inner.Waiters.{Until, waits}
use Rattle.folio_sections.proofs.FilingsInOrder.{AreBelow, IsNotBelow, fewer}
use Rattle.folio_sections.proofs.FirstWaiters.{behind_mark, front_waits}
use Rattle.folio_sections.proofs.waiters.Waiters.last_pending.Goals as goal

pub returns : goal.returns
returns c =
    let xs = c.args.self.now.until.items in
    let m = c.args.filing in
    let i = c.count_below-below.result in
    let below = subst (λ ys. AreBelow m ys i) c.as_slice.ensures.value c.count_below-below.ensures.below in
    let behind = subst (λ ys. IsNotBelow m ys i) c.as_slice.ensures.value c.count_below-below.ensures.behind in
    let last : List Until → Option ℕ = λ ys. option_map (λ x. x.filing) (last_or None ys) in
    let ahead = c.min.ensures in
    let first = fewer (λ x. waits x ≡ false) c.args.self.now.passed c.min.result xs (omega (arith, ahead)) c.requires.passed.first in
    c.last_waiting.ensures
    ∙ ap (λ ys. last (filter waits ys)) (c.behind.ensures ∙ ap (drop c.min.result) (ap (take i) c.as_slice-2.ensures.value))
    ∙ ap last (behind_mark waits c.min.result i xs first ∙ front_waits waits m 1 i xs c.requires.until below behind)
