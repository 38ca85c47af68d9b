-- A stop of a disk in memory: which of the files that it may leave a test gets, and the disk that has it.
use Rattle.std.specs.Prelude.{ℕ, ◌+◌, ◌-◌, min, List, [], ◌∷◌, ◌++◌, length, drop, replicate}
use Rattle.gb_outside.specs.Recorded.{Event, idle, wrote, synced, overwritten, file_after}
use Rattle.gb_outside.specs.MemDisks.{DiskInMemory}
use Rattle.gb_outside.specs.declared.stops.Fill.{Fill}
use Rattle.gb_outside.specs.declared.stops.Fill.TheVariants.{Old, New, Zeros, Ones}

-- the first so many of these calls, the newest first; all of them where there are fewer
abbrev pub first_calls : ℕ → List Event → List Event
first_calls count done = drop (length done - count) done

-- the disk as it stood after its first so many calls
abbrev pub disk_then : ℕ → DiskInMemory → DiskInMemory
disk_then count disk = record disk { done = first_calls count disk.done }

-- the file with this byte at each offset of a range that it has
abbrev pub blanked : ℕ → ℕ → ℕ → List ℕ → List ℕ
blanked byte at size file = overwritten at (replicate (min size (length file - at)) byte) file

-- a file after a write that no sync covers, of this size at this offset, of which these bytes came: its range is as it
-- was, and 0 past the end; or as it was written; or one byte, as far as the file then goes
abbrev pub left_by_write : Fill → ℕ → ℕ → List ℕ → List ℕ → List ℕ
left_by_write Old at size kept file = file ++ replicate (at + length kept - length file) 0
left_by_write New at size kept file = overwritten at kept file
left_by_write Zeros at size kept file = blanked 0 at size (overwritten at kept file)
left_by_write Ones at size kept file = blanked 255 at size (overwritten at kept file)

-- the file that a stop after these calls leaves: what the last sync covered, and each write since then as it is filled
abbrev pub left_after : Fill → List ℕ → List Event → List ℕ
left_after fill first [] = first
left_after fill first (idle ∷ before) = left_after fill first before
left_after fill first (wrote at size kept ∷ before) = left_by_write fill at size kept (left_after fill first before)
left_after fill first (synced ∷ before) = file_after first before

-- the disk that a stop after the first so many calls leaves: no call of it was made or is to fail, and it has the room of this one
abbrev pub disk_left : ℕ → Fill → DiskInMemory → DiskInMemory
disk_left count fill disk = record disk {
  first = left_after fill disk.first (first_calls count disk.done);
  done = [];
  failing = [];
  faults = 0;
}
