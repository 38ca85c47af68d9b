use Rattle.std.proofs.Common.{◌∙◌, ap, false, sym}
use Rattle.std.specs.Option.{option_copied, option_map_or}
use Rattle.gb_base.proofs.Fronts.{last_is}
use Rattle.folio_sections.specs.Rights.{is_exchange}
use Rattle.folio_sections.specs.declared.entries.Entry.{Entry}
use Rattle.folio_line.proofs.folio_reads.ends_in_exchange.Goals as goal

pub returns-in-Some : goal.returns-in-Some
returns-in-Some c =
    c.is_exchange.ensures
    ∙ ap (λ o. option_map_or (λ (e : Entry). is_exchange e.what) o false) (sym (ap option_copied c.in-Some.is) ∙ c.last.ensures.value ∙ last_is c.args.entries.now)
