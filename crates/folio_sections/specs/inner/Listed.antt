-- What the parts share: the entries at a key, with the filings that wait there and the places of those that name someone.
use Rattle.std.specs.Prelude.{◌≡◌, ℕ, ◌+◌, ◌<◌, ◌≤◌, List, All, Vec, length, vec_len, vec_capacity}
use Rattle.std.specs.List.{AllByRecursion}
use Rattle.std.specs.declared.alloc.Global.{Global}
use Rattle.gb_base.specs.declared.keys.Key.{Key}
use Rattle.folio_sections.specs.PartState.{PartState}
use Rattle.folio_sections.specs.declared.entries.Entry.{Entry}
use Rattle.folio_sections.specs.declared.waiters.Waiters.{Waiters}
use Rattle.folio_sections.specs.inner.Naming.{Rises}
use Rattle.folio_sections.specs.inner.Waiters.{AreInOrder, FewEnded, SayAs}

-- the key, the entries in order, the room for more, and for each entry that names who is concerned how many stand before it
pub record Listed : Type 0 where
  pub key : Key
  pub entries : List Entry
  pub room : ℕ
  pub naming : List ℕ

-- what is seen of a part
abbrev pub part_of : Listed → PartState
part_of list = record { key = list.key; entries = list.entries; room = list.room }

-- The entries are at the key, and the lists beside them go with them.
pub record GoWith (key : Key) (entries : List Entry) (waiters : Waiters) (naming : List ℕ) : Type 0 where
  pub own : All (λ e. e.key ≡ key) entries
  pub order : AreInOrder waiters
  pub few : FewEnded waiters.until.items waiters.ended
  pub say : SayAs waiters.until.items waiters.notices.items entries
  pub rise : Rises 0 naming
  pub among : AllByRecursion (λ n. n < length entries) naming

-- No list has more elements than there are entries, and each has room for the entries that stand and for those to come.
pub record HaveRoom (entries : Vec Entry Global) (waiters : Waiters) (naming : Vec ℕ Global) (room : ℕ) : Type 0 where
  pub few_until : vec_len waiters.until ≤ vec_len entries
  pub few_notices : vec_len waiters.notices ≤ vec_len entries
  pub few_naming : vec_len naming ≤ vec_len entries
  pub room_entries : vec_len entries + room ≤ vec_capacity entries
  pub room_until : vec_len entries + room ≤ vec_capacity waiters.until
  pub room_notices : vec_len entries + room ≤ vec_capacity waiters.notices
  pub room_naming : vec_len entries + room ≤ vec_capacity naming
