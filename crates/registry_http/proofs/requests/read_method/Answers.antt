use Rattle.std.proofs.Common.{Err, ◌∙◌, ap}
use Rattle.registry_http.proofs.Tokens.{method_token}
use Rattle.registry_http.proofs.requests.read_method.Goals as goal

pub unreachable-requires : goal.unreachable-requires
unreachable-requires c =
    c.from_bytes.ensures.invalid.0 (c.in-Err-Invalid.is ∙ ap Err c.in-Err-Invalid.field-0-is) (method_token _ c.requires)
