use Rattle.std.proofs.Common.{arith}
use Rattle.registry_http.proofs.FramedBytes.{whole_now, wants_body}
use Rattle.registry_http.proofs.framing.framed_by.Goals as goal

pub returns-then-size-bytes : goal.returns-then-size-bytes
returns-then-size-bytes c = whole_now c.args.bytes.now _ _ _ _ _ c.requires (omega (arith, c.if-size-bytes.true))

pub returns-else-size-bytes : goal.returns-else-size-bytes
returns-else-size-bytes c = wants_body c.args.bytes.now _ _ _ _ _ c.requires (omega (arith, c.if-size-bytes.false))
