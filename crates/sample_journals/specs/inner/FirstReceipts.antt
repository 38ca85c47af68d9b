-- The receipts before receipt k of the generated journal.
use Rattle.std.specs.Prelude.{◌≡◌, ℕ, ◌+◌, ◌<◌, List, length, All}
use Rattle.act_model.specs.declared.receipts.Receipt.{Receipt}
use Rattle.sample_journals.specs.Sample.{stamp_of_receipt}

-- the receipt is called by a number before k, and has that number's stamp
abbrev pub IsCalledBefore : ℕ → Receipt → Type 0
IsCalledBefore k r = (r.reference < k) × (r.stamp ≡ stamp_of_receipt r.reference)

-- all receipts before receipt k
pub record AreFirst (k : ℕ) (receipts : List Receipt) : Type 0 where
  pub count : length receipts + 1 ≡ k
  pub called : All (IsCalledBefore k) receipts
