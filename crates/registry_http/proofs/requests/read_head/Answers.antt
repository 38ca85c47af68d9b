use Rattle.std.proofs.Common.{subst, arith}
use Rattle.registry_http.specs.Requests.{StandsIn, HeadFault}
use Rattle.registry_http.proofs.HeadLines.{cut_head}
use Rattle.registry_http.proofs.ReadSoFar.{answer_then}
use Rattle.registry_http.proofs.requests.read_head.Goals as goal

pub returns-in-Cut-2-clause-answer : goal.returns-in-Cut-2-clause-answer
returns-in-Cut-2-clause-answer g c =
    cut_head _ _ _ c.read_lines.new.bytes.items _ _ _ c.in_ok-read_lines.ensures.reads c.in-Cut-2.ensures c.deref.ensures.value (omega arith) c.is_empty.ensures c.if-is_empty.false
    c.in_ok-read_lines.ensures.over

pub returns-in-Refused-clause-answer : goal.returns-in-Refused-clause-answer
returns-in-Refused-clause-answer g c =
    answer_then _ _ _ c.read_lines.new.bytes.items _ c.in_ok-read_lines.ensures.reads
    (subst (λ b. StandsIn b HeadFault) c.deref.ensures.value c.in-Refused.ensures)
