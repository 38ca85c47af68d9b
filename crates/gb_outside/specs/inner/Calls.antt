-- The calls that a disk in memory keeps, as events.
use Rattle.std.specs.Prelude.{◌≡◌, ℕ, ◌+◌, ◌≤◌, List, [], ◌∷◌, length, take, drop}
use Rattle.gb_outside.specs.Recorded.{Event, idle, wrote, synced, file_after}
use Rattle.gb_outside.specs.declared.mem_disk.Call.{Call}
use Rattle.gb_outside.specs.declared.mem_disk.Call.TheVariants.{Idle, Write, Sync}

-- the calls of a record with the bytes written, each write's behind those of the one before
abbrev pub events_from : List Call → List ℕ → List Event → List Event
events_from [] written before = before
events_from (Idle ∷ calls) written before = events_from calls written (idle ∷ before)
events_from (Write at size kept ∷ calls) written before =
    events_from calls (drop kept written) (wrote at size (take kept written) ∷ before)
events_from (Sync ∷ calls) written before = events_from calls written (synced ∷ before)

-- the calls of a record as events, the newest first
abbrev pub events : List Call → List ℕ → List Event
events calls written = events_from calls written []

-- how many bytes came into the file
abbrev pub kept_by : List Call → ℕ
kept_by [] = 0
kept_by (Idle ∷ calls) = kept_by calls
kept_by (Write at size kept ∷ calls) = kept + kept_by calls
kept_by (Sync ∷ calls) = kept_by calls

-- each write begins within the file that it finds, and brings no more bytes than it has
abbrev pub ArePlaced : List ℕ → List Event → Type 0
ArePlaced first [] = Unit {0}
ArePlaced first (idle ∷ before) = ArePlaced first before
ArePlaced first (wrote at size kept ∷ before) = (at ≤ length (file_after first before)) × (length kept ≤ size) × ArePlaced first before
ArePlaced first (synced ∷ before) = ArePlaced first before

-- the file is what its calls made of it, with as many bytes as they brought
pub record IsReplayed (first file written : List ℕ) (calls : List Call) : Type 0 where
  pub replayed : file ≡ file_after first (events calls written)
  pub all_written : kept_by calls ≡ length written
  pub placed : ArePlaced first (events calls written)
