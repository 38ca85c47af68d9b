-- The turn is well formed, and what is kept of the other folios stays.
use Rattle.std.proofs.Common.{ap, arith}
use Rattle.sample_journals.proofs.WellFormedTurns.{folio_goes_on}
use Rattle.sample_journals.proofs.generators.Generator.next_item.Goals as goal

pub returns-clause-well : goal.returns-clause-well
returns-clause-well c =
    (folio_goes_on _ _ _ _ _ c.args.self.now.folios c.self.inside.folios.items _ c.turn.new.notes _ _ c.requires.before
    (ap (λ g. g.folios) c.self.view_is) (omega (arith, c.below-index.ensures.range, c.len.ensures)) c.index_mut-notes.ensures.value c.turn.ensures.item c.turn.ensures.notes).0

pub returns-clause-before : goal.returns-clause-before
returns-clause-before c =
    (folio_goes_on _ _ _ _ _ c.args.self.now.folios c.self.inside.folios.items _ c.turn.new.notes _ _ c.requires.before
    (ap (λ g. g.folios) c.self.view_is) (omega (arith, c.below-index.ensures.range, c.len.ensures)) c.index_mut-notes.ensures.value c.turn.ensures.item c.turn.ensures.notes).1
