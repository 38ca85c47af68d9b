use Rattle.std.proofs.Common.{◌∙◌, [], ◌∷◌, ◌++◌, if◌then◌else◌, ap, length}
use Rattle.folio_sections.proofs.Titles.{title_push}
use Rattle.folio_sections.proofs.title_part.TitlePart.append.Goals as goal

pub invariant_of-self : goal.invariant_of-self
invariant_of-self c =
    let before = c.self.inside.list in
    title_push before c.append.new.self c.args.entry c.self.inside.opened c.self.inside.inventory c.self.inside.award (length c.entries.result.now) _ _ _ c.self.invariant
    c.append.ensures.entries
    (c.append.ensures.naming ∙ ap (λ b. if b then before.naming ++ length before.entries ∷ [] else before.naming) c.names_owners-names.ensures)
    (ap length c.entries.ensures.value) c.opened_by-self-inside.ensures c.inventory_by-self-inside.ensures c.award_by-self-inside.ensures
