use Rattle.std.proofs.Common.{rules}
use Rattle.std.proofs.lemmas.Fn.{filter_same}
use Rattle.gb_base.specs.declared.keys.Key.TheVariants.{Title}
use Rattle.folio_sections.specs.Held.{entries_at}
use Rattle.folio_sections.specs.Titles.{is_open}
use Rattle.desk_pool.proofs.open_folios.keep_open.Goals as goal

pub returns : goal.returns
returns c = filter_same _ (λ folio. is_open (entries_at c.args.parts.now (Title folio))) _ (λ x b f' k. search rules) _ _ c.retain.ensures.filtered
