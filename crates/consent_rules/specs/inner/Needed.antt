-- All whose consent an act needs, as they are gathered.
use Rattle.std.specs.Prelude.{ℕ, List, ◌++◌}
use Rattle.consent_rules.specs.Persons.{persons}
use Rattle.consent_rules.specs.declared.consenters.Consenters.{Consenters}

-- all whose consent the act needs, as one list
abbrev pub everyone : Consenters → List ℕ
everyone needed = needed.affected.items ++ (needed.owner_side.items ++ persons needed.others)
