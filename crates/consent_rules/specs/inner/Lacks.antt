-- What somebody's consent to an act may lack.
use Rattle.std.specs.Prelude.{ℕ, Bool, is_none}
use Rattle.act_model.specs.Documents.{docs_of, given, is_plain}
use Rattle.consent_rules.specs.declared.lacks.Lack.{Lack}
use Rattle.consent_rules.specs.declared.lacks.Lack.TheVariants as lack

-- the person's consent to the act lacks this
abbrev pub is_lacking : Lack → ℕ → Bool
is_lacking (lack.Consent matter a) person = is_none (given (docs_of matter.now) a person)
is_lacking (lack.Form matter a) person = is_plain (given (docs_of matter.now) a person)
