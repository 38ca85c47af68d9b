use Rattle.std.proofs.Common.{◌∙◌, sym}
use Rattle.folio_line.specs.FolioReading.{reads}
use Rattle.folio_line.proofs.LiveLists.{found_keeps}
use Rattle.folio_line.proofs.exchanges.keeps_cents_beside.Goals as goal

pub returns-then-is_found : goal.returns-then-is_found
returns-then-is_found g c =
    let reading = c.args.reading.now in
    c.if-is_found.true ∙ sym (found_keeps (reads g.P.Parts.holds g.P.Parts.at reading) reading.folio c.args.live.now c.args.id c.requires.live (c.is_found.ensures c.if-is_found.true))
