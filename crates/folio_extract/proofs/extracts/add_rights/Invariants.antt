use Rattle.std.proofs.Common.{◌≡◌, ◌++◌, drop}
use Rattle.std.specs.List.{flat_map}
use Rattle.std.specs.String.{string_bytes}
use Rattle.gb_base.specs.declared.keys.Key.TheVariants.{Right}
use Rattle.folio_sections.specs.Held.{entries_at}
use Rattle.folio_extract.specs.Extracts.{right_lines}
use Rattle.folio_extract.proofs.extracts.add_rights.Given as goal

abbrev pub invariant-loop-right : goal.invariant-loop-right
invariant-loop-right l =
    string_bytes l.text ++ flat_map (λ x. right_lines (entries_at l.register.parts (Right l.folio x.id)) x) (drop l.right-index l.rights)
    ≡ string_bytes l.fn.text ++ flat_map (λ x. right_lines (entries_at l.register.parts (Right l.folio x.id)) x) l.rights
