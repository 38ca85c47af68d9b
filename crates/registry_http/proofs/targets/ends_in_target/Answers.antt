use Rattle.std.proofs.Common.{arith}
use Rattle.std.proofs.lemmas.Bool.{ltb-true}
use Rattle.registry_http.proofs.TargetEnds.{ends_by, ends_nowhere}
use Rattle.registry_http.proofs.targets.ends_in_target.Goals as goal

pub returns-then-behind-line : goal.returns-then-behind-line
returns-then-behind-line c =
    ends_by c.args.bytes.now _ c.skip_token-behind.result.now _ c.skip_blank-line.ensures c.skip_token-behind.ensures
    (omega arith) c.is_space_and_target.ensures

pub returns-else-behind-line : goal.returns-else-behind-line
returns-else-behind-line c =
    ends_nowhere c.args.bytes.now _ c.skip_token-behind.result.now _ c.skip_blank-line.ensures c.skip_token-behind.ensures
    (omega arith) (ltb-true _ _)
