-- What a journal is settled in where all of it is there beforehand.
use Rattle.std.specs.Prelude.{◌≡◌, ◌↔◌, ℕ, ◌-◌, ◌<◌, ◌≤◌, List, [], length, AllPairs, Contains, IsTrue}
use Rattle.gb_base.specs.declared.keys.Key.{Key}
use Rattle.gb_base.specs.declared.keys.Key.TheVariants.{Title}
use Rattle.act_model.specs.declared.receipts.Receipt.{Receipt}
use Rattle.folio_sections.specs.Entries.{at}
use Rattle.folio_sections.specs.Held.{entries_at, is_given, is_held, room_at}
use Rattle.registrar.specs.HasSettled.{settled_first}
use Rattle.registrar.specs.HeldKeys.{keys_of_first}
use Rattle.registrar.specs.Rooms.{HasItsScratch}
use Rattle.sale_rules.specs.ScratchRoom.{ScratchRoom}
use Rattle.desk_pool.specs.FolioStates.{HasAllRoom}
use Rattle.desk_pool.specs.declared.register_frames.RegisterFrame.{RegisterFrame}

-- exactly the folios whose title an item of the journal touches, ascending; no other folio can be open once the journal is settled
pub record AreTitledFolios (journal : List Receipt) (folios : List ℕ) : Type 0 where
  pub ascending : AllPairs (λ folio later. folio < later) folios
  pub members : (folio : ℕ) → Contains folios folio ↔ IsTrue (is_given (keys_of_first journal (length journal)) (Title folio))

-- a scratch has room for each item, as the one registrar finds the register
abbrev pub ServesEachItem : List Receipt → ScratchRoom → Type 0
ServesEachItem journal scratch =
    (i : ℕ) → i ≤ length journal → HasItsScratch journal i (at (settled_first journal (i - 1)).entries) scratch

-- Parts at the keys of the journal's items and at no other; a scratch for each item; as many verdicts as there are items; and the
-- folios that may be open in the end.
pub record HasFrame (journal : List Receipt) (s : RegisterFrame) : Type 0 where
  pub held : (k : Key) → is_held s.parts k ≡ is_given (keys_of_first journal (length journal)) k
  pub scratch : ServesEachItem journal s.scratch
  pub verdicts : length s.verdicts.items ≡ length journal
  pub folios : AreTitledFolios journal s.folios.items

-- A frame that has place at each key for all that the items bring there.
pub record HasPlaces (journal : List Receipt) (s : RegisterFrame) : Type 0 where
  pub frame : HasFrame journal s
  pub room : HasAllRoom journal (is_held s.parts) (entries_at s.parts) (room_at s.parts)

-- A frame with these places, and with nothing in its parts yet.
pub record IsPrepared (journal : List Receipt) (s : RegisterFrame) : Type 0 where
  pub places : HasPlaces journal s
  pub empty : (k : Key) → entries_at s.parts k ≡ []
