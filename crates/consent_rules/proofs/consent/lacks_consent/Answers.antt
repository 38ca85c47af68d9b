use Rattle.std.proofs.Common.{refl}
use Rattle.consent_rules.proofs.consent.lacks_consent.Goals as goal

pub returns : goal.returns
returns g c = rw (c.some_affected.ensures, c.needed.ensures.affected) refl
