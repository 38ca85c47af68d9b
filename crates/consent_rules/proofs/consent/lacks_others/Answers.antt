use Rattle.std.proofs.Common.{refl}
use Rattle.consent_rules.proofs.consent.lacks_others.Goals as goal

pub returns : goal.returns
returns g c = rw (c.some_other.ensures, c.needed.ensures.others) refl
