use Rattle.std.proofs.Common.{ap, flat_map, ◌++◌, ◌∙◌}
use Rattle.std.specs.String.{string_bytes}
use Rattle.folio_sections.specs.Held.{entries_at}
use Rattle.folio_extract.specs.RankTables.{exercise_line}
use Rattle.folio_extract.proofs.RankTableText.{table_added}
use Rattle.folio_extract.proofs.rank_tables.add_rank_table.Goals as goal

pub returns : goal.returns
returns c =
    let at = entries_at c.args.register.now.parts in
    let journal = c.args.journal.now.receipts in
    table_added journal at c.args.folio c.live.result.now c.exchanges.result.now c.is_a_journal.ensures.journal c.requires.kept (c.live.ensures ∙ c.requires.line.live)
    (c.exchanges.ensures ∙ c.requires.line.exchanges)
    _ _ _ _ _ c.add_cents.result c.in_ok-add_ranks.ensures c.in_ok-add_exchange_lines.ensures
    (c.in_ok-add_exercise_lines.ensures ∙ ap (λ xs. string_bytes c.add_exchange_lines.new.text ++ flat_map exercise_line xs) (c.exercises.ensures ∙ c.requires.line.exercises)) c.add_cents.ensures
