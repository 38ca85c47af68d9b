use Rattle.std.proofs.Common.{◌∙◌, ap, take}
use Rattle.std.proofs.lemmas.List.{take_min}
use Rattle.act_model.specs.Limits.{most_creations}
use Rattle.act_model.proofs.creations.first_rights.Goals as goal

pub returns : goal.returns
returns c =
    ap (λ k. take k c.creations_in-rights.result.now) c.min.ensures ∙ take_min most_creations c.creations_in-rights.result.now
    ∙ ap (take most_creations) c.creations_in-rights.ensures.value
