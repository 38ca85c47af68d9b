use Rattle.std.proofs.Common.{◌≡◌, ◌+◌, ◌==◌, ◌&&◌, not, drop}
use Rattle.std.specs.List.{list_any, enumerate_from}
use Rattle.act_model.specs.WellFormed.{share_group}
use Rattle.act_model.specs.Groups.{has_equal}
use Rattle.act_model.proofs.groups.has_equal.Given as goal

abbrev pub invariant-loop-index : goal.invariant-loop-index
invariant-loop-index l =
    list_any (λ n. not (n.0 == l.a) && share_group l.act n.1) (enumerate_from (l.index + 1) (drop l.index l.acts))
    ≡ has_equal l.acts l.a l.act
