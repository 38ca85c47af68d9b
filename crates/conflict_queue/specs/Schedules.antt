-- The orders in which the items of a journal may be settled (GBO § 17): of two items that touch one key the earlier comes first.
use Rattle.std.specs.Prelude.{◌≡◌, ◌↔◌, ℕ, ◌<◌, ◌≤◌, List, length, Any, AllPairs, Contains}
use Rattle.std.specs.List.{range_with_len}
use Rattle.act_model.specs.declared.receipts.Receipt.{Receipt}
use Rattle.conflict_queue.specs.ItemKeys.{keys_of_item}

-- two items touch a key in common
abbrev pub Conflicts : List Receipt → ℕ → ℕ → Type 0
Conflicts journal i j = Any (λ k. Contains (keys_of_item journal j) k) (keys_of_item journal i)

-- Each number of the journal stands once, and of two items that conflict the one with the smaller number stands first.
pub record IsPermitted (journal : List Receipt) (order : List ℕ) : Type 0 where
  pub all : (n : ℕ) → Contains order n ↔ (1 ≤ n) × (n ≤ length journal)
  pub once : AllPairs (λ i later. i ≡ later → ⊥) order
  pub in_turn : AllPairs (λ i later. Conflicts journal i later → i < later) order

-- the order of receipts
abbrev pub in_receipt_order : List Receipt → List ℕ
in_receipt_order journal = range_with_len 1 (length journal)
