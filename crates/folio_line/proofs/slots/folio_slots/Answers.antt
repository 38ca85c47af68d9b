use Rattle.std.proofs.Common.{◌≤◌, All, None, map, refl, sym, ap, subst, ◌∙◌}
use Rattle.gb_base.specs.Limits.{most_cents}
use Rattle.rank_slots.specs.declared.places.Place.{Place}
use Rattle.folio_line.specs.Exchanges.{counted_exchanges}
use Rattle.folio_line.specs.FolioReading.{read_at}
use Rattle.folio_line.specs.FolioSlots.{capital_at, is_gone, swap_of}
use Rattle.folio_line.specs.inner.PlaceByPlace.{places_behind}
use Rattle.folio_line.proofs.FolioFills.{can_fill, capitals_from, line_is}
use Rattle.folio_line.proofs.ReadWhereHeld.{reads_all}
use Rattle.folio_line.proofs.slots.folio_slots.Goals as goal

pub fill-requires-clause-fits : goal.fill-requires-clause-fits
fill-requires-clause-fits g c =
    let reading = c.args.reading.now in
    let at = read_at reading.before (g.P.Parts.at reading.parts.now) in
    let folio = reading.folio in
    let journal = c.args.journal.now.receipts in
    let same = reads_all (g.P.Parts.holds reading.parts.now) (g.P.Parts.at reading.parts.now) reading.before (g.met.P.HeldRights.unheld_is_empty reading.parts.now) in
    let places = c.deref.ensures.value ∙ c.in_ok-places.ensures.value ∙ ap (λ read. places_behind (capital_at read folio) (is_gone read folio) None c.rights.result.now) same
    ∙ ap (places_behind (capital_at at folio) (is_gone at folio) None) (c.rights.ensures ∙ c.requires.line.rights) in
    let swaps = c.deref-2.ensures.value ∙ c.in_ok-swaps.ensures ∙ ap (map swap_of) (c.exchanges.ensures ∙ c.requires.line.exchanges) in
    can_fill (capital_at at folio) journal at folio (counted_exchanges at folio) c.deref.result.now c.deref-2.result.now c.requires.kept c.is_a_journal.ensures.journal
    (capitals_from journal at folio c.requires.kept c.is_a_journal.ensures.journal) refl places swaps (subst (All (λ (p : Place). p.claim ≤ most_cents)) (sym c.deref.ensures.value) c.in_ok-places.ensures.bound)

pub returns : goal.returns
returns g c =
    let reading = c.args.reading.now in
    let at = read_at reading.before (g.P.Parts.at reading.parts.now) in
    let folio = reading.folio in
    let same = reads_all (g.P.Parts.holds reading.parts.now) (g.P.Parts.at reading.parts.now) reading.before (g.met.P.HeldRights.unheld_is_empty reading.parts.now) in
    let places = c.deref.ensures.value ∙ c.in_ok-places.ensures.value ∙ ap (λ read. places_behind (capital_at read folio) (is_gone read folio) None c.rights.result.now) same
    ∙ ap (places_behind (capital_at at folio) (is_gone at folio) None) (c.rights.ensures ∙ c.requires.line.rights) in
    let swaps = c.deref-2.ensures.value ∙ c.in_ok-swaps.ensures ∙ ap (map swap_of) (c.exchanges.ensures ∙ c.requires.line.exchanges) in
    c.fill.ensures.filled ∙ line_is at folio (counted_exchanges at folio) c.deref.result.now c.deref-2.result.now refl places swaps
