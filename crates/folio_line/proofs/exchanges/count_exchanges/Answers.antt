use Rattle.std.proofs.Common.{◌≡◌, [], ap, drop, arith}
use Rattle.std.proofs.lemmas.List.{drop_all}
use Rattle.folio_line.specs.FolioLine.{all_exchanges}
use Rattle.folio_line.specs.FolioReading.{where_held}
use Rattle.folio_line.proofs.RisesFew.{all_rises_few}
use Rattle.folio_line.proofs.exchanges.count_exchanges.Goals as goal

pub returns-clause-enough : goal.returns-clause-enough
returns-clause-enough g c =
    let reading = c.args.reading.now in
    let ids = c.args.ids.now in
    let at = where_held (g.P.Parts.holds reading.parts.now) (g.P.Parts.at reading.parts.now) in
    let over : drop c.loop-id.id-index ids ≡ [] = drop_all c.loop-id.id-index ids c.loop-id-test.false in
    let none = ap (all_exchanges at reading.folio) over in
    let few = all_rises_few reading.before at reading.folio ids in
    let all = c.loop-id.invariant in
    omega (arith, none, few, all)
