use Rattle.std.proofs.Common.{◌≡◌, ◌++◌, codes, drop}
use Rattle.std.specs.Fmt.{decimal}
use Rattle.std.specs.List.{flat_map}
use Rattle.std.specs.String.{string_bytes}
use Rattle.folio_extract.proofs.extracts.add_persons.Given as goal

abbrev pub invariant-loop-person : goal.invariant-loop-person
invariant-loop-person l =
    string_bytes l.text ++ flat_map (λ p. codes " " ++ decimal p) (drop l.person-index l.persons)
    ≡ string_bytes l.fn.text ++ flat_map (λ p. codes " " ++ decimal p) l.persons
