-- One more folio is added.
use Rattle.std.proofs.Common.{ap, arith}
use Rattle.folio_sections.specs.Held.{entries_at}
use Rattle.folio_extract.specs.Summaries.{capital_in, rights_in}
use Rattle.folio_extract.proofs.Sums.{summed_more}
use Rattle.folio_extract.proofs.summaries.standing_in_all.Goals as goal

pub loop-folio-preserved : goal.loop-folio-preserved
loop-folio-preserved c =
    let at = entries_at c.args.register.now.parts in
    let read = c.folios-folio-items in
    let rights = summed_more (rights_in at) read.result.now c.args.register.now.folios c.loop-folio.folio-index c.folio-item.result read.ensures.value c.loop-folio-test.true in
    let capital = summed_more (capital_in at) read.result.now c.args.register.now.folios c.loop-folio.folio-index c.folio-item.result read.ensures.value c.loop-folio-test.true in
    let rights_here = ap (rights_in at) c.folio-item.is in
    let capital_here = ap (capital_in at) c.folio-item.is in
    let had = c.loop-folio.invariant in
    let here = c.in_ok-standing.ensures in
    record {
      of_rights = record { is = omega (arith, had.of_rights.is, here.rights, rights, rights_here); within = omega (arith, had.of_rights.within, here.few) };
      of_capital = record { is = omega (arith, had.of_capital.is, here.capital, capital, capital_here); within = omega (arith, had.of_capital.within, here.bound) };
    }
