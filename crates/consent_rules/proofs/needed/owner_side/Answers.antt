use Rattle.std.proofs.Common.{refl}
use Rattle.consent_rules.proofs.needed.owner_side.Goals as goal

pub returns-in-Cancel : goal.returns-in-Cancel
returns-in-Cancel g c = rw c.in-Cancel.is (rw (c.owners_unless.ensures, c.has_proof-proved.ensures) refl)
