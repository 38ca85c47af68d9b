use Rattle.std.proofs.Common.{◌≡◌, ◌++◌, codes, drop, flat_map}
use Rattle.std.specs.String.{string_bytes}
use Rattle.gb_base.specs.Texts.{right_text}
use Rattle.folio_extract.proofs.cent_lines.add_group.Given as goal

abbrev pub invariant-loop-place : goal.invariant-loop-place
invariant-loop-place l =
    string_bytes l.text ++ flat_map (λ p. codes " " ++ right_text p.right) (drop l.place-index l.group)
    ≡ string_bytes l.fn.text ++ (codes "group" ++ flat_map (λ p. codes " " ++ right_text p.right) l.group)
