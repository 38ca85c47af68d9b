-- The sums so far, of as many folios as are read.
use Rattle.std.proofs.Common.{ℕ, ◌*◌, sum_by, take}
use Rattle.folio_sections.specs.Held.{entries_at}
use Rattle.folio_extract.specs.Summaries.{capital_in, rights_in}
use Rattle.folio_extract.proofs.Sums.{IsSum}
use Rattle.folio_extract.proofs.summaries.standing_in_all.Given as goal

-- the number of rights and the sum of their capitals, of as many folios as are read
pub record AreSums (rights capital all_rights all_capital index : ℕ) : Type 0 where
  pub of_rights : IsSum rights all_rights (index * 256)
  pub of_capital : IsSum capital all_capital (index * 2560000000000000)

abbrev pub invariant-loop-folio : goal.invariant-loop-folio
invariant-loop-folio l =
    AreSums l.rights l.capital (sum_by (rights_in (entries_at l.register.parts)) (take l.folio-index l.register.folios))
    (sum_by (capital_in (entries_at l.register.parts)) (take l.folio-index l.register.folios)) l.folio-index
