-- A disk in memory: when its calls fail, and what they leave.
use Rattle.std.specs.Prelude.{ℕ, ◌+◌, ◌-◌, ◌/◌, ◌^◌, min, List, [], ◌∷◌, length, take, Bool, not, ◌&&◌, ◌||◌, ◌==◌, nat_le, if◌then◌else◌}
use Rattle.std.specs.List.{list_any}
use Rattle.gb_outside.specs.Recorded.{Event, idle, wrote, synced, file_after, IsImageAfter, IsImageSince}

-- A disk in memory. Calls are numbered from 1.
pub record DiskInMemory : Type 0 where
  -- the file as it was at first
  pub first : List ℕ
  -- the calls so far, the newest first
  pub done : List Event
  -- how long the file may become
  pub longest : ℕ
  -- how many calls may be made
  pub most_calls : ℕ
  -- how many bytes may be written
  pub most_written : ℕ
  -- the numbers of the calls that are to fail
  pub failing : List ℕ
  pub faults : ℕ

-- what a read gives
abbrev pub file_of : DiskInMemory → List ℕ
file_of disk = file_after disk.first disk.done

-- what a stop now may leave
abbrev pub images_of : DiskInMemory → List ℕ → Type 0
images_of disk c = IsImageAfter disk.first disk.done c

-- the moment, as the number of calls
abbrev pub moment_of : DiskInMemory → ℕ
moment_of disk = length disk.done

-- what a stop may have left since a moment
abbrev pub since_of : DiskInMemory → ℕ → List ℕ → Type 0
since_of disk t c = IsImageSince disk.first disk.done t c

-- there is no room for another call
abbrev pub is_full : DiskInMemory → Bool
is_full disk = nat_le disk.most_calls (length disk.done)

-- the next call is one that is to fail
abbrev pub is_due : DiskInMemory → Bool
is_due disk = list_any (λ n. n == length disk.done + 1) disk.failing

-- the next call fails, whatever it is
abbrev pub call_fails : DiskInMemory → Bool
call_fails disk = is_full disk || is_due disk

-- how many bytes the calls have brought into the file
abbrev pub bytes_written : List Event → ℕ
bytes_written [] = 0
bytes_written (idle ∷ before) = bytes_written before
bytes_written (wrote at size kept ∷ before) = bytes_written before + length kept
bytes_written (synced ∷ before) = bytes_written before

-- a write of so many bytes at this offset has room
abbrev pub has_room_at : DiskInMemory → ℕ → ℕ → Bool
has_room_at disk at size =
    nat_le (at + size) disk.longest && nat_le (bytes_written disk.done + size) disk.most_written

-- a write of so many bytes at this offset fails
abbrev pub write_fails : DiskInMemory → ℕ → ℕ → Bool
write_fails disk at size = call_fails disk || not (has_room_at disk at size)

-- what a write does to the file: nothing without room; where it is to fail, half of its bytes come
abbrev pub write_event : DiskInMemory → ℕ → List ℕ → Event
write_event disk at bytes =
    if has_room_at disk at (length bytes)
    then wrote at (length bytes) (if is_due disk then take (length bytes / 2) bytes else bytes) else idle

-- the disk with a fault counted
abbrev pub faulted : DiskInMemory → DiskInMemory
faulted disk = record disk { faults = min (disk.faults + 1) (2 ^ 64 - 1) }

-- the disk after a call: it is recorded where it has room, and a failure is counted
abbrev pub disk_after : Bool → Event → DiskInMemory → DiskInMemory
disk_after failed event disk =
    record (if failed then faulted disk else disk) { done = if is_full disk then disk.done else event ∷ disk.done }

-- the disk after its length was asked, or bytes were read
abbrev pub after_look : DiskInMemory → DiskInMemory
after_look disk = disk_after (call_fails disk) idle disk

-- the disk after a sync
abbrev pub after_sync : DiskInMemory → DiskInMemory
after_sync disk = disk_after (call_fails disk) (if call_fails disk then idle else synced) disk

-- the disk after a write
abbrev pub after_write : ℕ → List ℕ → DiskInMemory → DiskInMemory
after_write at bytes disk = disk_after (write_fails disk at (length bytes)) (write_event disk at bytes) disk
