-- The index of a journal by sender and reference.
use Rattle.std.specs.Prelude.{◌≡◌, ℕ, ◌+◌, ◌≤◌, List, length, take}
use Rattle.std.specs.declared.cmp.Ordering.{Ordering}
use Rattle.std.specs.Ordering.{nat_cmp, ordering_then}
use Rattle.std.specs.BTreeMap.{BTreeMap, get}
use Rattle.act_model.specs.declared.receipts.Receipt.{Receipt}
use Rattle.act_model.specs.Receiving.{number_of}

-- the order of the index: by sender, and then by reference
abbrev pub pair_cmp : ℕ × ℕ → ℕ × ℕ → Ordering
pair_cmp a b = ordering_then (nat_cmp a.0 b.0) (nat_cmp a.1 b.1)

-- the index has the number of each receipt, and no other
abbrev pub IsIndexOf : BTreeMap (ℕ × ℕ) ℕ → List Receipt → Type 0
IsIndexOf numbers journal =
    (sender reference : ℕ) → get pair_cmp numbers (sender, reference) ≡ number_of sender reference journal

-- the index has the numbers of the first receipts, all of them or all but the last
pub record IsIndexed (numbers : BTreeMap (ℕ × ℕ) ℕ) (indexed : ℕ) (journal : List Receipt) : Type 0 where
  pub index : IsIndexOf numbers (take indexed journal)
  pub not_beyond : indexed ≤ length journal
  pub nearly_all : length journal ≤ indexed + 1
