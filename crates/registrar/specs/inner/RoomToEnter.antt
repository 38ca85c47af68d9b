-- Room at the keys of a filing that may be entered.
use Rattle.std.specs.Prelude.{ℕ, ◌≤◌, List, Contains}
use Rattle.gb_base.specs.declared.keys.Key.{Key}
use Rattle.act_model.specs.Touches.{keys_of_filing}
use Rattle.act_model.specs.declared.receipts.Receipt.{Receipt}
use Rattle.folio_sections.specs.declared.entries.Entry.{Entry}
use Rattle.registrar.specs.Rooms.{room_to_enter}

-- each key of filing m has so much room
abbrev pub HasRoomToEnter : List Receipt → ℕ → (Key → List Entry) → (Key → ℕ) → Type 0
HasRoomToEnter journal m at room = (k : Key) → Contains (keys_of_filing journal m) k → room_to_enter m (at k) ≤ room k
