-- What is looked for among documents.
use Rattle.std.specs.Prelude.{ℕ, Bool}
use Rattle.act_model.specs.declared.documents.Doc.{Doc}
use Rattle.act_model.specs.DocumentTests.{is_agreement, is_certified_consent_of, is_clearance, is_consent_of, is_proof}
use Rattle.act_model.specs.declared.sought.Sought.{Sought}
use Rattle.act_model.specs.declared.sought.Sought.TheVariants as sought

-- the document is what is looked for
abbrev pub is_sought : Sought → Doc → Bool
is_sought (sought.Consent a person) d = is_consent_of a person d
is_sought (sought.Certified a person) d = is_certified_consent_of a person d
is_sought (sought.Agreement a) d = is_agreement a d
is_sought (sought.Clearance a) d = is_clearance a d
is_sought (sought.Proof a) d = is_proof a d

-- the act for which the document is looked for
abbrev pub act_sought : Sought → ℕ
act_sought (sought.Consent a person) = a
act_sought (sought.Certified a person) = a
act_sought (sought.Agreement a) = a
act_sought (sought.Clearance a) = a
act_sought (sought.Proof a) = a
