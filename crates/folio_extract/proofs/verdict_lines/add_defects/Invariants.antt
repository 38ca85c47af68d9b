use Rattle.std.proofs.Common.{◌≡◌, ◌++◌, codes, drop, flat_map}
use Rattle.std.specs.String.{string_bytes}
use Rattle.folio_extract.specs.VerdictLines.{defect_text, defects_text}
use Rattle.folio_extract.proofs.verdict_lines.add_defects.Given as goal

abbrev pub invariant-loop-defect : goal.invariant-loop-defect
invariant-loop-defect l =
    string_bytes l.text ++ flat_map (λ e. codes ", " ++ defect_text e) (drop l.defect-index l.others)
    ≡ string_bytes l.fn.text ++ defects_text l.defects
