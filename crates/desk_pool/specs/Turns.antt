-- The orders in which each item waits for the items before it at its keys (GBO § 17).
use Rattle.std.specs.Prelude.{◌≡◌, ◌↔◌, ℕ, ◌≤◌, List, ◌∷◌, ◌++◌, length, AllPairs, Contains, Some}
use Rattle.gb_base.specs.declared.keys.Key.{Key}
use Rattle.act_model.specs.declared.receipts.Receipt.{Receipt}
use Rattle.conflict_queue.specs.Dockets.{previous}
use Rattle.conflict_queue.specs.ItemKeys.{keys_of_item}

-- Each number of the journal stands once, and before it stands, for each of its keys, the item before it that touches the key.
pub record WaitsInTurn (journal : List Receipt) (order : List ℕ) : Type 0 where
  pub all : (n : ℕ) → Contains order n ↔ (1 ≤ n) × (n ≤ length journal)
  pub once : AllPairs (λ i later. i ≡ later → ⊥) order
  pub waits : (before after : List ℕ) (i p : ℕ) (k : Key) → order ≡ before ++ i ∷ after → Contains (keys_of_item journal i) k
      → previous journal i k ≡ Some p → Contains before p
