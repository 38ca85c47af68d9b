-- A session that receives the items of an input onto a disk.
-- Why so: docs/DECISIONS.md, "`acknowledged` speaks of replies that are not empty".
use Rattle.std.specs.Prelude.{◌≡◌, ◌⊎◌, ℕ, Bool, List, ◌++◌, take, Option, Some, None, IsTrue}
use Rattle.std.specs.Io.KnownBytes.{Appends}
use Rattle.gb_base.specs.DayMinute.{DayMinute}
use Rattle.act_model.specs.declared.receipts.Receipt.{Receipt}
use Rattle.intake.specs.EarlyEnds.{EndsEarly, AreOf}
use Rattle.intake.specs.Grown.{GrownFrom, DiskGrows}
use Rattle.intake.specs.Requests.{OnDisk, Held, replies, held_after}
use Rattle.intake.specs.Sessions.{most_input, Took}
use Rattle.intake_requests.specs.declared.requests.Request.{Request}
use Rattle.registry_office.specs.Disks.{KeepsGrown, LeftNewly, WritesBehind}
use Rattle.registry_office.specs.Statuses.{disk_fault}
use Rattle.registry_office.specs.declared.statuses.Status.{Status}
use Rattle.registry_office.specs.declared.statuses.Status.TheVariants as status

-- The disk tells its bytes, the clock its ticks, and the source what is left of the input.
pub record AllTell (tells : Bool) (known : Option (List DayMinute)) (left : Option (List ℕ)) (ticks : List DayMinute) (input : List ℕ) : Type 0 where
  pub disk : IsTrue tells
  pub clock : known ≡ Some ticks
  pub source : left ≡ Some input

-- the sink tells that it has taken this text, and perhaps more
abbrev pub HasWritten : Option (List ℕ) → Option (List ℕ) → List ℕ → Type 0
HasWritten (Some before) (Some now) text = (more : List ℕ) × (now ≡ before ++ (text ++ more))
HasWritten (Some before) None text = ⊥
HasWritten None now text = ⊥

-- What a session did, and how far it came, that began with these receipts and ticks and an input of which the bytes ask so, whole or cut.
pub record SessionReceives {D : Type 0} (whole cut : List ℕ → List Request) (held : Held) (input : List ℕ) (left0 left1 : Option (List ℕ)) (known1 : Option (List DayMinute)) (written0 written1 : Option (List ℕ)) (journal1 : List Receipt) (reads : D → List ℕ) (images : D → List ℕ → Type 0) (moment : D → ℕ) (since : D → ℕ → List ℕ → Type 0) (disk0 disk1 : D) (result : Status) : Type 0 where
  -- all was received and replied to
  pub written : result ≡ status.Ok → Appends written0 written1 (replies OnDisk held (whole input))
  pub received : result ≡ status.Ok → journal1 ≡ (held_after OnDisk held (whole input)).journal
  pub ticks : result ≡ status.Ok → known1 ≡ Some (held_after OnDisk held (whole input)).ticks
  -- it ended early, among what the bytes read ask, and no more than their receipts came to the disk
  pub early : (result ≡ status.Ok → ⊥) → Took left0 left1 (λ read. (requests : List Request) × AreOf whole cut left1 read requests
      × EndsEarly OnDisk held known1 written0 written1 (images disk1) requests
      × DiskGrows reads moment since disk0 disk1 held.journal (held_after OnDisk held requests).journal)
  -- the source failed or gave too much: all that the bytes read ask is received and replied to, and the clock asked for nothing else
  pub cut_replies : (result ≡ status.ReadFault) ⊎ (result ≡ status.InputTooLong) → Took left0 left1 (λ read. Appends written0 written1 (replies OnDisk held (cut (take most_input read))))
  pub cut_journal : (result ≡ status.ReadFault) ⊎ (result ≡ status.InputTooLong) → Took left0 left1 (λ read. journal1 ≡ (held_after OnDisk held (cut (take most_input read))).journal)
  pub cut_ticks : (result ≡ status.ReadFault) ⊎ (result ≡ status.InputTooLong) → Took left0 left1 (λ read. known1 ≡ Some (held_after OnDisk held (cut (take most_input read))).ticks)
  -- however it ended, the journal on the disk grew by some of all receipts
  pub grows : DiskGrows reads moment since disk0 disk1 held.journal (held_after OnDisk held (whole input)).journal
  -- what was replied to whole is in every image
  pub acknowledged : (front back : List Request) (file : List ℕ) → whole input ≡ front ++ back → HasWritten written0 written1 (replies OnDisk held front) → images disk1 file
      → GrownFrom (held_after OnDisk held front).journal (held_after OnDisk held (whole input)).journal file

-- A command that receives ended early, after it had read these bytes of an input of which the bytes ask so, whole or cut.
pub record EndsEarlyOnDisk {D : Type 0} (whole cut : List ℕ → List Request) (held : Held) (read : List ℕ) (left1 : Option (List ℕ)) (known1 : Option (List DayMinute)) (written0 written1 : Option (List ℕ)) (reads : D → List ℕ) (images : D → List ℕ → Type 0) (moment : D → ℕ) (since : D → ℕ → List ℕ → Type 0) (disk0 disk1 : D) (result : Status) : Type 0 where
  -- what the bytes read ask
  pub requests : List Request
  pub asked : AreOf whole cut left1 read requests
  -- the first of these are replied to whole, at most one more was begun, and the clock was asked for no other
  pub ends : EndsEarly OnDisk held known1 written0 written1 (LeftNewly (disk_fault result) (images disk0) (images disk1)) requests
  -- at no moment another receipt came to the disk
  pub grown : KeepsGrown reads images moment since disk0 disk1 (disk_fault result) held.journal (held_after OnDisk held requests).journal
  -- of the file no other frames are written
  pub frames : WritesBehind (disk_fault result) held.journal (held_after OnDisk held requests).journal (reads disk0) (reads disk1)
