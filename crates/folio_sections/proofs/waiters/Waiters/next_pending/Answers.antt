use Rattle.std.proofs.Common.{◌∙◌, ◌&&◌, ℕ, drop, List, Option, ap, find, nat_lt, option_map, take_while}
use Rattle.folio_sections.specs.inner.Unnoticed.{first_that}
use Rattle.folio_sections.specs.inner.Waiters.{Until, waits}
use Rattle.folio_sections.proofs.FirstWaiters.{searched_from}
use Rattle.folio_sections.proofs.waiters.Waiters.next_pending.Goals as goal

pub returns : goal.returns
returns c =
    let xs = c.args.self.now.until.items in
    let low = c.floor-floor.result in
    let i = c.start_above-start.result in
    let from : List Until → Option ℕ = λ ys. option_map (λ x. x.filing) (find (λ x. nat_lt low x.filing && waits x) (take_while (λ x. nat_lt x.filing c.args.filing) ys)) in
    c.first_waiting.ensures ∙ ap from (c.behind.ensures ∙ ap (drop i) c.as_slice.ensures.value)
    ∙ ap (option_map (λ x. x.filing)) (searched_from waits low c.args.filing i xs c.requires.until (λ k d less. c.start_above-start.ensures.passed waits c.args.filing k d c.requires.passed less))
    ∙ ap (λ n. first_that waits n c.args.filing xs) c.floor-floor.ensures
