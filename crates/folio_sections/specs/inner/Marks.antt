-- The states of a right that are kept after some of its entries.
use Rattle.std.specs.Prelude.{ℕ, ◌*◌, ◌/◌, ◌%◌, ◌≤◌, ◌==◌, ◌&&◌, Bool, List, Option, Some, None, length, take}
use Rattle.std.specs.List.{last_or}
use Rattle.folio_sections.specs.declared.entries.Entry.{Entry}
use Rattle.folio_sections.specs.declared.right_state.RightState.{RightState}
use Rattle.folio_sections.specs.inner.States.{IsRightState, never_created}

-- how many entries stand between one mark and the next
abbrev pub entries_per_mark : ℕ
entries_per_mark = 16

-- mark k stands after just n entries
abbrev pub is_at_mark : ℕ → ℕ → Bool
is_at_mark n k = n % entries_per_mark == 0 && n / entries_per_mark == k

-- this state, or that of no entries where there is none
abbrev pub or_never : Option RightState → RightState
or_never (Some state) = state
or_never None = never_created

-- the state at mark k: at mark 0 that of no entries
abbrev pub state_at : ℕ → List RightState → RightState
state_at k states = or_never (last_or None (take k states))

-- the state at each mark is that of the entries before it
pub record AreMarks (states : List RightState) (entries : List Entry) : Type 0 where
  pub within : entries_per_mark * length states ≤ length entries
  pub read : (k : ℕ) → k ≤ length states → IsRightState (state_at k states) (take (entries_per_mark * k) entries)
