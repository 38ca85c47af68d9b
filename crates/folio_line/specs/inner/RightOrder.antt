-- Rights in order of filing and group.
use Rattle.std.specs.Prelude.{◌≡◌, Bool, false, List, [], ◌∷◌}
use Rattle.std.specs.List.{AllByRecursion}
use Rattle.kept_registers.specs.Ranks.{is_filed_ahead, ranked}
use Rattle.folio_line.specs.declared.folio_rights.CreatedRight.{CreatedRight}

-- right x stands before right y, by filing and group
abbrev pub is_filed_before : CreatedRight → CreatedRight → Bool
is_filed_before x y = is_filed_ahead (ranked x.id x.made) (ranked y.id y.made)

-- no right stands before an earlier one of these
abbrev pub Ascends : List CreatedRight → Type 0
Ascends [] = Unit {0}
Ascends (x ∷ xs) = AllByRecursion (λ y. is_filed_before y x ≡ false) xs × Ascends xs
