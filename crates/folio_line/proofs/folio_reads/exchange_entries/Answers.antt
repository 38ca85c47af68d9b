use Rattle.std.proofs.Common.{◌≡◌, ◌≤◌, ◌∙◌, ap, is_some, subst, sym, true}
use Rattle.gb_base.specs.declared.keys.Key.TheVariants.{Right}
use Rattle.folio_sections.specs.Rights.{exchanges}
use Rattle.folio_line.specs.FolioReading.{reads}
use Rattle.folio_line.proofs.ExchangesAhead.{fewer_read, rises_ahead}
use Rattle.folio_line.proofs.ReadWhereHeld.{read_where_held}
use Rattle.folio_line.proofs.folio_reads.exchange_entries.Goals as goal

pub up_to_exchange-requires : goal.up_to_exchange-requires
up_to_exchange-requires g c =
    let part = c.in-Some.part.now in
    subst (λ n. exchanges c.entries.result.now ≤ n) (sym c.exchanges.ensures)
    (subst (λ es. exchanges es ≤ exchanges part.entries) (sym (c.entries.ensures ∙ c.front_of.ensures)) (fewer_read c.args.reading.now.before part.entries part.key))

pub returns-in-Some : goal.returns-in-Some
returns-in-Some g c =
    let reading = c.args.reading.now in
    let here = Right reading.folio c.args.id in
    let held : g.P.Parts.holds reading.parts.now here ≡ true = sym c.right.ensures.some ∙ ap is_some c.in-Some.is in
    rises_ahead (reads g.P.Parts.holds g.P.Parts.at reading) reading.folio c.args.id c.up_to_exchange.result.now c.entries.result.now c.up_to_exchange.ensures
    (c.entries.ensures ∙ c.front_of.ensures
    ∙ read_where_held (g.P.Parts.holds reading.parts.now) (g.P.Parts.at reading.parts.now) here c.in-Some.part.now.key c.in-Some.part.now.entries reading.before held c.in-Some.ensures.value)
