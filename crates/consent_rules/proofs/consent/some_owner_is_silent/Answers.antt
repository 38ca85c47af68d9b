use Rattle.std.proofs.Common.{refl}
use Rattle.consent_rules.proofs.consent.some_owner_is_silent.Goals as goal

pub returns : goal.returns
returns g c = rw (c.some_owner.ensures, c.needed.ensures.owner_side) refl
