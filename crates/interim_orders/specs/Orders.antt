-- Interim orders: a filing with curable defects waits at all its keys until a deadline (GBO § 18(1)).
use Rattle.std.specs.Prelude.{ℕ, nat_lt, if◌then◌else◌, List, map, slice_get, Option, Some, None, option_and_then}
use Rattle.gb_base.specs.Deadlines.{deadline}
use Rattle.gb_base.specs.declared.keys.Key.{Key}
use Rattle.act_model.specs.Receiving.{day_of}
use Rattle.act_model.specs.Touches.{keys_in_order}
use Rattle.act_model.specs.declared.receipts.Receipt.{Receipt}
use Rattle.folio_sections.specs.Entries.{entry_by}
use Rattle.folio_sections.specs.Waiting.{pending}
use Rattle.folio_sections.specs.declared.entries.Entry.{Entry}
use Rattle.folio_sections.specs.declared.entries.What.TheVariants as what
use Rattle.interim_orders.specs.declared.states.FilingState.{FilingState}
use Rattle.interim_orders.specs.declared.states.FilingState.TheVariants as state

-- the deadline of filing m: after it a lapse ends the waiting
abbrev pub deadline_of : List Receipt → ℕ → ℕ
deadline_of journal m = deadline (day_of journal m)

-- by item i filing m waits until this day, at each of its keys
abbrev pub waiting_brought : List Receipt → ℕ → ℕ → ℕ → List Entry
waiting_brought journal m i until = map (λ k. entry_by journal i k (what.Pending m until)) (keys_in_order journal m)

-- filing m waits until the deadline
abbrev pub order_brought : List Receipt → ℕ → List Entry
order_brought journal m = waiting_brought journal m m (deadline_of journal m)

-- by item i filing m waits no longer, at each of its keys
abbrev pub end_brought : List Receipt → ℕ → ℕ → List Entry
end_brought journal m i = map (λ k. entry_by journal i k (what.Settled m)) (keys_in_order journal m)

-- the day until which filing m waits at its first key, and so at each, in a kept register
abbrev pub waits_until : List Receipt → ℕ → (Key → List Entry) → Option ℕ
waits_until journal m at = option_and_then (λ k. pending m (at k)) (slice_get (keys_in_order journal m) 0)

-- the state of a filing that waits until this day, or of one that does not wait
abbrev pub state_by : Option ℕ → FilingState
state_by (Some until) = state.Pending until
state_by None = state.NotPending

-- the state of filing m as item i finds it: it waits only where it is an earlier one
abbrev pub state_of : List Receipt → ℕ → ℕ → (Key → List Entry) → FilingState
state_of journal m i at = state_by (if nat_lt m i then waits_until journal m at else None)
