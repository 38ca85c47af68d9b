use Rattle.std.proofs.Common.{◌∙◌, ◌&&◌, ℕ, drop, List, Option, ap, find, nat_lt, option_map, take_while}
use Rattle.folio_sections.specs.inner.Unnoticed.{first_that}
use Rattle.folio_sections.specs.inner.Waiters.{Until, lacks_notice}
use Rattle.folio_sections.proofs.FirstWaiters.{searched_from}
use Rattle.folio_sections.proofs.waiters.Waiters.next_unnoticed.Goals as goal

pub returns : goal.returns
returns c =
    let xs = c.args.self.now.until.items in
    let notices = c.args.self.now.notices.items in
    let low = c.floor-floor.result in
    let i = c.start_above-start.result in
    let from : List Until → Option ℕ = λ ys. option_map (λ x. x.filing) (find (λ x. nat_lt low x.filing && lacks_notice notices x) (take_while (λ x. nat_lt x.filing c.args.filing) ys)) in
    let lent : List _ → Option ℕ = λ ns. option_map (λ x. x.filing) (find (λ x. nat_lt low x.filing && lacks_notice ns x) (take_while (λ x. nat_lt x.filing c.args.filing) c.behind-list.result.now)) in
    c.first_unnoticed.ensures ∙ ap lent c.as_slice-2.ensures.value ∙ ap from (c.behind-list.ensures ∙ ap (drop i) c.as_slice.ensures.value)
    ∙ ap (option_map (λ x. x.filing)) (searched_from (lacks_notice notices) low c.args.filing i xs c.requires.until (λ k d less. c.start_above-start.ensures.passed (lacks_notice notices) c.args.filing k d c.requires.noticed less))
    ∙ ap (λ n. first_that (lacks_notice notices) n c.args.filing xs) c.floor-floor.ensures
