-- A registration in a case that is full, or that has its arrears already.
use Rattle.std.specs.Prelude.{ℕ, Bool, false, ◌||◌, nat_le, List, option_and_then}
use Rattle.std.specs.List.{list_any}
use Rattle.std.specs.Option.{option_map_or}
use Rattle.gb_base.specs.RightNo.{RightNo, same_right}
use Rattle.act_model.specs.Receiving.{item_at}
use Rattle.act_model.specs.declared.receipts.Receipt.{Receipt}
use Rattle.act_model.specs.declared.sales.Registration.{Registration}
use Rattle.act_model.specs.declared.sales.Registration.TheVariants as registration
use Rattle.folio_sections.specs.Cases.{registration_numbers, registrations}
use Rattle.folio_sections.specs.Limits.{most_registrations}
use Rattle.folio_sections.specs.declared.entries.Entry.{Entry}
use Rattle.kept_registers.specs.KeptCases.{arrears_of}

-- receipt n registers arrears of the right
abbrev pub arrears_by : List Receipt → RightNo → ℕ → Bool
arrears_by journal right n = option_map_or (same_right right) (option_and_then arrears_of (item_at journal n)) false

-- one of these receipts registers arrears of the right that the registration is about
abbrev pub repeats_in : List Receipt → List ℕ → Registration → Bool
repeats_in journal numbers (registration.Advance person amount) = false
repeats_in journal numbers (registration.PublicCharge person amount due) = false
repeats_in journal numbers (registration.Arrears right from until) = list_any (arrears_by journal right) numbers

-- the case has as many registrations as it may, or one of arrears of the same right
abbrev pub fills_case : List Receipt → List Entry → Registration → Bool
fills_case journal entries r =
    nat_le most_registrations (registrations entries) || repeats_in journal (registration_numbers entries) r
