-- In which divisions of a folio a filing creates rights. It follows from its acts alone.
use Rattle.std.specs.Prelude.{ℕ, Bool, true, false, not, ◌&&◌, ◌||◌, ◌==◌, if◌then◌else◌, List}
use Rattle.std.specs.Option.{option_map_or}
use Rattle.std.specs.List.{list_any}
use Rattle.act_model.specs.declared.filing_acts.Act.{Act}
use Rattle.act_model.specs.declared.receipts.Receipt.{Receipt}
use Rattle.act_model.specs.declared.rights.RightSpec.{RightSpec}
use Rattle.act_model.specs.Acts.{folio_of, right_created, is_in_division_three}
use Rattle.act_model.specs.Touches.{acts_of}

-- the right is of division III, or else of division II
abbrev pub is_of_division : Bool → RightSpec → Bool
is_of_division third spec = if third then is_in_division_three spec.kind else not (is_in_division_three spec.kind)

-- the act creates a right of division III, or else of division II, in the folio
abbrev pub creates_in_division : Bool → ℕ → Act → Bool
creates_in_division third folio act = folio_of act == folio && option_map_or (is_of_division third) (right_created act) false

-- one of these acts creates a right of division III, or else of division II, in the folio
abbrev pub create_in_division : Bool → ℕ → List Act → Bool
create_in_division third folio acts = list_any (creates_in_division third folio) acts

-- filing n creates a right in the folio
abbrev pub creates_there : List Receipt → ℕ → ℕ → Bool
creates_there journal folio n =
    create_in_division false folio (acts_of journal n) || create_in_division true folio (acts_of journal n)
