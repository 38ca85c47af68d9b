use Rattle.std.proofs.Common.{refl}
use Rattle.consent_rules.proofs.consent.wants_form.Goals as goal

pub returns : goal.returns
returns g c =
    rw (c.some.ensures, c.needed.ensures.affected, c.needed.ensures.owner_side, c.needed.ensures.others) refl
