use Rattle.std.proofs.Common.{◌≡◌, length}
use Rattle.registry_http.specs.inner.Reading.{without_blank}
use Rattle.registry_http.proofs.targets.skip_blank.Given as goal

abbrev pub decreases-loop-rest : goal.decreases-loop-rest
decreases-loop-rest l = length l.rest

abbrev pub invariant-loop-rest : goal.invariant-loop-rest
invariant-loop-rest l = without_blank l.rest ≡ without_blank l.fn.bytes
