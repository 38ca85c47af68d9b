-- The right keeps its place in its group.
use Rattle.std.proofs.Common.{◌∙◌, sym, ap}
use Rattle.rank_slots.specs.Groups.{keeps_place}
use Rattle.part_tests.proofs.KeptInGroups.{kept_in_group}
use Rattle.part_tests.proofs.lines.has_place.Goals as goal

pub returns : goal.returns
returns c there =
    kept_in_group c.args.slots.now.filled.places c.args.right
    (sym (ap (λ ps. keeps_place ps c.args.right) c.group.ensures.value) ∙ sym c.keeps_place.ensures ∙ there)
