-- One more call on a disk in memory.
use Rattle.std.proofs.Common.{◌≡◌, ℕ, ◌<◌, ◌≤◌, false, List, [], ◌∷◌, ◌++◌, length, nat_le, if◌then◌else◌, sym, ap, subst, ◌∙◌, arith, length-append}
use Rattle.std.proofs.lemmas.Bool.{leb-false}
use Rattle.gb_outside.specs.Images.{Torn, Follows}
use Rattle.gb_outside.specs.Recorded.{Event, wrote, overwritten, file_after}
use Rattle.gb_outside.specs.MemDisks.{DiskInMemory, file_of, images_of, is_full, disk_after}
use Rattle.gb_outside.specs.inner.Calls.{events, ArePlaced, IsReplayed}
use Rattle.gb_outside.specs.declared.mem_disk.Call.{Call}
use Rattle.gb_outside.specs.declared.mem_disk.Call.TheVariants.{Idle, Write, Sync}
use Rattle.gb_outside.proofs.Record.{length_events, idle_more, sync_more, write_more, kept_more, wrote_torn}

-- a record that is not full has room for a call
pub has_place : (calls : List Call) (written : List ℕ) (most capacity : ℕ) → nat_le most (length (events calls written)) ≡ false → most ≤ capacity → length calls < capacity
has_place calls written most capacity room fits =
    omega (arith, leb-false most (length (events calls written)) room, length_events calls written)

module _ (first file written : List ℕ) (calls more : List Call) (is : IsReplayed first file written calls) where
  pub replayed_idle : more ≡ calls ++ Idle ∷ [] → IsReplayed first file written more
  replayed_idle pushed = record {
    replayed = is.replayed ∙ sym (ap (file_after first) (idle_more calls more written pushed));
    all_written = omega (arith, kept_more calls more written Idle pushed, is.all_written);
    placed = subst (ArePlaced first) (sym (idle_more calls more written pushed)) is.placed;
  }

  pub replayed_sync : more ≡ calls ++ Sync ∷ [] → IsReplayed first file written more
  replayed_sync pushed = record {
    replayed = is.replayed ∙ sym (ap (file_after first) (sync_more calls more written pushed));
    all_written = omega (arith, kept_more calls more written Sync pushed, is.all_written);
    placed = subst (ArePlaced first) (sym (sync_more calls more written pushed)) is.placed;
  }

  pub replayed_write : (longer piece : List ℕ) (at size : ℕ) → at ≤ length file → length piece ≤ size → more ≡ calls ++ Write at size (length piece) ∷ [] → longer ≡ written ++ piece
      → IsReplayed first (overwritten at piece file) longer more
  replayed_write longer piece at size place whole pushed appended = record {
    replayed = ap (overwritten at piece) is.replayed ∙ sym (ap (file_after first) (write_more calls more written longer piece at size pushed appended is.all_written));
    all_written = omega (arith, kept_more calls more written (Write at size (length piece)) pushed, is.all_written, ap length appended, length-append written piece);
    placed = subst (ArePlaced first) (sym (write_more calls more written longer piece at size pushed appended is.all_written)) (omega (arith, place, ap length is.replayed), whole, is.placed);
  }

-- a call that has room is recorded
pub recorded : (event : Event) (disk : DiskInMemory) (done : List Event) → is_full disk ≡ false → done ≡ event ∷ disk.done
    → record disk { done = done } ≡ disk_after false event disk
recorded event disk done room is =
    let same : done ≡ (if is_full disk then disk.done else event ∷ disk.done) = rw room is in
    ap (λ l. record disk { done = l }) same

-- a write that is recorded tears its range
pub write_torn : (disk new : DiskInMemory) (at size : ℕ) (kept : List ℕ) → is_full disk ≡ false → new.first ≡ disk.first
    → new.done ≡ (if is_full disk then disk.done else wrote at size kept ∷ disk.done) → at ≤ length (file_of disk) → length kept ≤ size
    → Follows (Torn at size) (images_of disk) (images_of new)
write_torn disk new at size kept room same is offset fits =
    let is : new.done ≡ wrote at size kept ∷ disk.done = rw room at is in
    wrote_torn disk.first disk.done new.done new.first at size kept same is offset fits
