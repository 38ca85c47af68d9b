-- The sum so far, of as many rights as are read.
use Rattle.std.proofs.Common.{◌*◌, sum_by, take}
use Rattle.folio_sections.specs.Held.{entries_at}
use Rattle.folio_line.specs.FolioSlots.{capital_at}
use Rattle.folio_extract.proofs.Sums.{IsSum}
use Rattle.folio_extract.proofs.summaries.capital_of_all.Given as goal

abbrev pub invariant-loop-right : goal.invariant-loop-right
invariant-loop-right l =
    IsSum l.cents (sum_by (λ x. capital_at (entries_at l.register.parts) l.folio x.id) (take l.right-index l.rights)) (l.right-index * 10000000000000)
