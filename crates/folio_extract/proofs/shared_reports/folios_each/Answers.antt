-- So many folios for each desk are enough, and no fewer are.
use Rattle.std.proofs.Common.{ℕ, ◌+◌, ◌*◌, ◌<◌, ◌≤◌, ◌∙◌, max, ⊎_elim, ap, sym, subst, arith}
use Rattle.std.proofs.lemmas.Bool.{cases_lt}
use Rattle.std.proofs.lemmas.Grind.{div_ceil_times}
use Rattle.std.proofs.lemmas.Nat.{mul-le}
use Rattle.folio_extract.specs.inner.TextsInTurn.{folios_each}
use Rattle.folio_extract.proofs.shared_reports.folios_each.Goals as goal

pub returns-clause-value : goal.returns-clause-value
unfolding folios_each
returns-clause-value c = c.max.ensures ∙ ap (λ n. max n 1) c.div_ceil.ensures

pub returns-clause-enough : goal.returns-clause-enough
returns-clause-enough c =
    let all : ℕ = c.args.folios in
    let desks : ℕ = c.args.desks in
    let whole : ℕ = c.div_ceil.result in
    let each : ℕ = c.max.result in
    let bounds = div_ceil_times all desks (omega (arith, c.requires.desks)) in
    let within : all ≤ whole * desks = subst (λ n. all ≤ n * desks) (sym c.div_ceil.ensures) bounds.0 in
    let more = mul-le whole desks each desks (omega (arith, c.max.ensures)) (omega arith) in
    omega (arith, within, more)

pub returns-clause-fewest : goal.returns-clause-fewest
returns-clause-fewest c = λ fewer some enough.
    let all : ℕ = c.args.folios in
    let desks : ℕ = c.args.desks in
    let whole : ℕ = c.div_ceil.result in
    let bounds = div_ceil_times all desks (omega (arith, c.requires.desks)) in
    let below : whole * desks < all + desks = subst (λ n. n * desks < all + desks) (sym c.div_ceil.ensures) bounds.1 in
    ⊎_elim
    (λ less. let more = mul-le (fewer + 1) desks whole desks (omega (arith, less)) (omega arith) in absurd (omega (arith, more, below, enough)))
    (λ most. omega (arith, most, some, c.max.ensures))
    (cases_lt fewer whole)
