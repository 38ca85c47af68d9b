use Rattle.std.proofs.Common.{◌∙◌, ap, refl}
use Rattle.registry_http.proofs.Phrases.{phrase_found}
use Rattle.registry_http.proofs.replies.phrase.Goals as goal

pub returns : goal.returns
returns c = ap (λ s. s.now) c.unwrap_or.ensures ∙ phrase_found _ _ c.args.status refl c.canonical_reason.ensures.value
