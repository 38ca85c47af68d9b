-- From the end of the line on more money gives no right more.
use Rattle.std.proofs.Common.{◌≡◌, ◌+◌, ◌-◌, ap, ◌∙◌}
use Rattle.std.specs.Prelude.{min}
use Rattle.rank_slots.specs.Payments.{pay}
use Rattle.proceeds_split.specs.Plan.{remaining_in_all}
use Rattle.proceeds_split.proofs.LineEnds.{pay_capped}
use Rattle.proceeds_split.proofs.rights_paid.cash_of.Goals as goal

pub returns : goal.returns
returns c =
    let claimed = c.args.claims.now.claimed in
    let right = c.args.right in
    let most : c.saturating_add-along.result ≡ min (c.args.money + remaining_in_all claimed c.args.lowest.cover) 18446744073709551615 =
    c.saturating_add-along.ensures ∙ ap (λ n. min (c.args.money + n) 18446744073709551615) c.requires.lowest.taken in
    let got =
    c.pay.ensures.value ∙ ap (λ f. pay f right c.saturating_add-along.result) c.requires.filled
    ∙ pay_capped claimed.line_four right (c.args.money + remaining_in_all claimed c.args.lowest.cover) c.saturating_add-along.result c.requires.fits most in
    c.saturating_sub.ensures ∙ (λ i. got i - c.remaining-remains.ensures i)
