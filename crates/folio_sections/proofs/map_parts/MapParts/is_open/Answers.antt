use Rattle.std.proofs.Common.{◌∙◌, ap, is_some, sym}
use Rattle.gb_base.specs.declared.keys.Key.TheVariants.{Title}
use Rattle.folio_sections.proofs.HeldParts.{none_is_open}
use Rattle.folio_sections.proofs.map_parts.MapParts.is_open.Goals as goal

pub returns-in-None : goal.returns-in-None
returns-in-None c = none_is_open c.args.self.now (Title c.args.folio) (sym c.title.ensures.some ∙ ap is_some c.in-None.is)
