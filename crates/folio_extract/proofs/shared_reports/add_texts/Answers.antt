use Rattle.std.proofs.Common.{◌≡◌, ◌∙◌, ◌++◌, ◌*◌, IfOk, length, drop, take, refl, subst}
use Rattle.std.proofs.lemmas.Option.{slice_get_read}
use Rattle.std.specs.String.{string_bytes}
use Rattle.folio_sections.specs.Held.{entries_at}
use Rattle.folio_extract.specs.Extracts.{extract_text}
use Rattle.folio_extract.specs.Plans.{plans_of_folio}
use Rattle.folio_extract.specs.RankTables.{rank_table_text}
use Rattle.folio_extract.specs.Reports.{folio_texts}
use Rattle.folio_extract.specs.inner.TextsInTurn.{folios_each}
use Rattle.folio_extract.proofs.TextsJoined.{joined}
use Rattle.folio_extract.proofs.shared_reports.add_texts.Goals as goal

pub loop-some-preserved : goal.loop-some-preserved
loop-some-preserved c =
    let journal = c.args.journal.now.receipts in
    let entries = entries_at c.args.register.now.parts in
    let folios = c.args.register.now.folios in
    let each = folios_each (length folios) c.args.desks in
    let index = c.loop-some.some-index in
    let found = slice_get_read c.args.texts.now (length c.args.texts.now) index c.some-item.result refl c.loop-some-test.true c.some-item.is in
    let written = c.requires.texts.written index c.some-item.result found in
    let own = subst (λ r. IfOk r (λ s. string_bytes s ≡ folio_texts journal entries (take each (drop (index * each) folios)))) c.in-Ok.is written in
    joined (λ folio. extract_text entries folio ++ (rank_table_text journal entries folio ++ plans_of_folio journal entries folio))
    folios each index (string_bytes c.loop-some.text) c.as_str.result.now (string_bytes c.push_str.new.self)
    (string_bytes c.args.text.now ++ folio_texts journal entries folios)
    (c.as_str.ensures.value ∙ own) c.in_ok-push_str-in-Ok.ensures.bytes c.loop-some.invariant
