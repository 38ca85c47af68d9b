use Rattle.std.proofs.Common.{◌∙◌, ap, get_or, sym}
use Rattle.folio_sections.proofs.HeldParts.{found_there, is_at}
use Rattle.folio_sections.proofs.Indexes.{find-none}
use Rattle.folio_sections.proofs.map_parts.MapParts.part.Goals as goal

pub returns-in-Some : goal.returns-in-Some
returns-in-Some c =
    sym (found_there c.args.self.now c.args.key c.in-Some.index c.index.result.now (sym c.index_of.ensures ∙ c.in-Some.is)
    (c.index.ensures ∙ ap (λ xs. get_or xs c.in-Some.index c.index.result.now) c.self.view_is))

pub returns-in-None : goal.returns-in-None
returns-in-None c = sym (find-none (is_at c.args.key) c.args.self.now (sym c.index_of.ensures ∙ c.in-None.is))
