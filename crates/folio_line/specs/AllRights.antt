-- Numbers among which are all rights that a folio ever had.
use Rattle.std.specs.Prelude.{ℕ, Bool, ◌&&◌, ◌||◌, ◌==◌, nat_lt, List, [], ◌∷◌, Option, Some, None, IsSome, IsTrue}
use Rattle.std.specs.List.{AllByRecursion, list_any}
use Rattle.gb_base.specs.RightNo.{RightNo, same_right}
use Rattle.gb_base.specs.declared.keys.Key.{Key}
use Rattle.gb_base.specs.declared.keys.Key.TheVariants.{Right}
use Rattle.act_model.specs.SaleKeys.{earlier_rights, first_rights}
use Rattle.act_model.specs.declared.receipts.Receipt.{Receipt}
use Rattle.folio_sections.specs.HeldRights.{right_numbers}
use Rattle.folio_sections.specs.Rights.{created}
use Rattle.folio_sections.specs.declared.entries.Entry.{Entry}

-- right x is of an earlier receipt than y, or of an earlier act of the same one
abbrev pub is_numbered_before : RightNo → RightNo → Bool
is_numbered_before x y = nat_lt x.receipt y.receipt || (x.receipt == y.receipt && nat_lt x.act y.act)

-- these rights ascend by receipt and act, and none is there twice
abbrev pub AscendByNumber : List RightNo → Type 0
AscendByNumber [] = Unit {0}
AscendByNumber (x ∷ xs) = AllByRecursion (λ y. IsTrue (is_numbered_before x y)) xs × AscendByNumber xs

-- the right is among these
abbrev pub is_among : List RightNo → RightNo → Bool
is_among ids id = list_any (same_right id) ids

-- These rights ascend, and of the rights that there may be in the folio each that was ever created is among them.
pub record AreAllRights (ids : List RightNo) (at : Key → List Entry) (folio : ℕ) : Type 0 where
  pub ascend : AscendByNumber ids
  pub all : AllByRecursion (λ id. IsSome (created (at (Right folio id))) → IsTrue (is_among ids id)) right_numbers

-- the rights of the first creating acts of the folio; those of receipts before n where a reading stops before receipt n
abbrev pub rights_filed : Option ℕ → List Receipt → ℕ → List RightNo
rights_filed None journal folio = first_rights journal folio
rights_filed (Some n) journal folio = earlier_rights journal n folio
