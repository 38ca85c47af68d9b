-- What becomes of an item, as a line.
use Rattle.std.specs.Prelude.{ℕ, List, [], ◌∷◌, ◌++◌, codes, flat_map}
use Rattle.std.specs.Fmt.{decimal}
use Rattle.gb_base.specs.Texts.{date_text, euro, section_text}
use Rattle.consent_rules.specs.declared.judgements.Defect.{Defect}
use Rattle.registrar.specs.declared.verdicts.Verdict.{Verdict}
use Rattle.registrar.specs.declared.verdicts.Verdict.TheVariants as verdict

-- a curable defect
abbrev pub defect_text : Defect → List ℕ
defect_text d = section_text d.section ++ (codes " act " ++ decimal d.act)

-- curable defects, with a comma and a space between
abbrev pub defects_text : List Defect → List ℕ
defects_text [] = []
defects_text (d ∷ ds) = defect_text d ++ flat_map (λ e. codes ", " ++ defect_text e) ds

-- what becomes of an item
abbrev pub verdict_text : Verdict → List ℕ
verdict_text verdict.Entered = codes "entered"
verdict_text (verdict.Rejected section) = codes "rejected " ++ section_text section
verdict_text (verdict.Interim until defects) = codes "interim until " ++ (date_text until ++ (codes " for " ++ defects_text defects))
verdict_text verdict.Cured = codes "cured"
verdict_text (verdict.CureRejected section) = codes "filing rejected " ++ section_text section
verdict_text (verdict.StillOpen defects) = codes "still open for " ++ defects_text defects
verdict_text verdict.Lapsed = codes "lapsed GBO 18"
verdict_text (verdict.TooEarly until) = codes "too early " ++ date_text until
verdict_text (verdict.Extended until) = codes "extended until " ++ date_text until
verdict_text (verdict.TooLate until) = codes "too late " ++ date_text until
verdict_text verdict.NotPending = codes "not pending"
verdict_text verdict.Seized = codes "seized"
verdict_text verdict.Registered = codes "registered"
verdict_text (verdict.Lowest total cash) = codes "lowest " ++ (euro total ++ (codes " cash " ++ euro cash))
verdict_text verdict.Awarded = codes "awarded"
verdict_text (verdict.BidTooLow bid cash) = codes "rejected ZVG 44 bid " ++ (euro bid ++ (codes " cash " ++ euro cash))
verdict_text (verdict.Distributed money) = codes "distributed " ++ euro money

-- the line that says what becomes of receipt n
abbrev pub verdict_line : ℕ → Verdict → List ℕ
verdict_line n v = codes "receipt " ++ (decimal n ++ (codes " " ++ (verdict_text v ++ codes "\n")))

-- the lines of numbered verdicts
abbrev pub verdict_lines : List (ℕ × Verdict) → List ℕ
verdict_lines verdicts = flat_map (λ v. verdict_line v.0 v.1) verdicts
