use Rattle.std.proofs.Common.{◌∙◌, ap, option_map}
use Rattle.folio_sections.proofs.FilingsInOrder.{searched}
use Rattle.folio_sections.proofs.filing_list.value_of.Goals as goal

pub returns : goal.returns
returns g c =
    c.value_at.ensures
    ∙ ap (option_map (λ x. x.value)) (searched c.args.filing c.args.list.now c.count_below.result c.requires c.count_below.ensures.below c.count_below.ensures.behind)
