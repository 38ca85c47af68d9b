use Rattle.std.proofs.Common.{◌≡◌, ◌∙◌, subst, sym}
use Rattle.folio_line.specs.AllRights.{AreAllRights}
use Rattle.folio_line.specs.FolioLine.{IsLineOf}
use Rattle.folio_line.specs.FolioReading.{reads}
use Rattle.folio_line.proofs.AllRights.{held_are_all}
use Rattle.folio_line.proofs.ReadWhereHeld.{reads_all}
use Rattle.folio_line.proofs.held_lines.held_line.Goals as goal

pub read-requires-clause-all : goal.read-requires-clause-all
read-requires-clause-all g c =
    let reading = c.args.reading.now in
    subst (λ ids. AreAllRights ids (reads g.P.Parts.holds g.P.Parts.at reading) reading.folio) (sym (c.deref-2.ensures.value ∙ c.in_ok-held.ensures.rights))
    (held_are_all reading.before (g.P.Parts.holds reading.parts.now) (g.P.Parts.at reading.parts.now) reading.folio)

pub returns : goal.returns
returns g c =
    let reading = c.args.reading.now in
    record {
      line = subst (λ at. IsLineOf at reading.folio c.read.new.self)
          (reads_all (g.P.Parts.holds reading.parts.now) (g.P.Parts.at reading.parts.now) reading.before (g.met.P.HeldRights.unheld_is_empty reading.parts.now)) c.read.ensures.line;
    }
