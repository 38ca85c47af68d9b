use Rattle.std.proofs.Common.{◌≡◌, ◌<◌, ⊎_elim, false, nat_lt, get_or, subst, arith}
use Rattle.std.proofs.lemmas.Bool.{cases_Bool}
use Rattle.std.proofs.lemmas.Bool.Decides.{nat_tests}
use Rattle.folio_sections.proofs.FilingsInOrder.{among_first}
use Rattle.folio_sections.proofs.FirstWaiters.{failing, not_above}
use Rattle.folio_sections.proofs.waiters.Waiters.start_above.Goals as goal

pub returns-clause-passed : goal.returns-clause-passed
returns-clause-passed c = λ t m k d is_mark less.
    let xs = c.args.self.now.until.items in
    let within = is_mark.within in
    ⊎_elim
    (λ ahead. not_above t c.args.floor m (get_or xs k d)
    (subst (λ ys. nat_lt c.args.floor (get_or ys k d).filing ≡ false) c.as_slice.ensures.value (c.count_to.ensures.passed k d (grind (arith, nat_tests, ahead)))))
    (λ behind.
    let first : k < c.args.mark = grind (arith, nat_tests, behind, less, c.max.ensures) in
    failing t c.args.floor m (get_or xs k d) (among_first (λ x. t x ≡ false) c.args.mark xs k d first (omega arith) is_mark.first))
    (cases_Bool (nat_lt k c.count_to.result))
