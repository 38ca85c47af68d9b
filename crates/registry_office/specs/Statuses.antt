-- Which statuses blame which object, and which status an end has.
use Rattle.std.specs.Prelude.{Bool, true, false}
use Rattle.receipt_journal.specs.declared.faults.BookFault.{BookFault}
use Rattle.receipt_journal.specs.declared.faults.BookFault.TheVariants as fault
use Rattle.connections.specs.declared.doors.DoorEnd.{DoorEnd}
use Rattle.connections.specs.declared.doors.DoorEnd.TheVariants as door
use Rattle.registry_office.specs.declared.statuses.Status.{Status}
use Rattle.registry_office.specs.declared.statuses.Status.TheVariants as status

-- the status blames the source
abbrev pub read_fault : Status → Bool
read_fault status.Ok = false
read_fault status.Usage = false
read_fault status.ReadFault = true
read_fault status.WriteFault = false
read_fault status.DiskFault = false
read_fault status.Memory = false
read_fault status.NotJournal = false
read_fault (status.BadRecord at) = false
read_fault status.InputTooLong = false
read_fault status.DoorFault = false

-- the status blames the sink
abbrev pub write_fault : Status → Bool
write_fault status.Ok = false
write_fault status.Usage = false
write_fault status.ReadFault = false
write_fault status.WriteFault = true
write_fault status.DiskFault = false
write_fault status.Memory = false
write_fault status.NotJournal = false
write_fault (status.BadRecord at) = false
write_fault status.InputTooLong = false
write_fault status.DoorFault = false

-- the status blames the disk
abbrev pub disk_fault : Status → Bool
disk_fault status.Ok = false
disk_fault status.Usage = false
disk_fault status.ReadFault = false
disk_fault status.WriteFault = false
disk_fault status.DiskFault = true
disk_fault status.Memory = false
disk_fault status.NotJournal = false
disk_fault (status.BadRecord at) = false
disk_fault status.InputTooLong = false
disk_fault status.DoorFault = false

-- the status blames the listener
abbrev pub door_fault : Status → Bool
door_fault status.Ok = false
door_fault status.Usage = false
door_fault status.ReadFault = false
door_fault status.WriteFault = false
door_fault status.DiskFault = false
door_fault status.Memory = false
door_fault status.NotJournal = false
door_fault (status.BadRecord at) = false
door_fault status.InputTooLong = false
door_fault status.DoorFault = true

-- the disk stood for no journal when it was opened
abbrev pub is_no_journal : Status → Bool
is_no_journal status.Ok = false
is_no_journal status.Usage = false
is_no_journal status.ReadFault = false
is_no_journal status.WriteFault = false
is_no_journal status.DiskFault = false
is_no_journal status.Memory = false
is_no_journal status.NotJournal = true
is_no_journal (status.BadRecord at) = true
is_no_journal status.InputTooLong = false
is_no_journal status.DoorFault = false

-- a session over an input ends so
abbrev pub is_of_session : Status → Bool
is_of_session status.Ok = true
is_of_session status.Usage = false
is_of_session status.ReadFault = true
is_of_session status.WriteFault = true
is_of_session status.DiskFault = true
is_of_session status.Memory = true
is_of_session status.NotJournal = false
is_of_session (status.BadRecord at) = false
is_of_session status.InputTooLong = true
is_of_session status.DoorFault = false

-- only with an opened book does a command that uses the disk end so
abbrev pub tells_of_opening : Status → Bool
tells_of_opening status.Ok = true
tells_of_opening status.Usage = false
tells_of_opening status.ReadFault = true
tells_of_opening status.WriteFault = true
tells_of_opening status.DiskFault = false
tells_of_opening status.Memory = false
tells_of_opening status.NotJournal = false
tells_of_opening (status.BadRecord at) = false
tells_of_opening status.InputTooLong = true
tells_of_opening status.DoorFault = true

-- a text is written so
abbrev pub is_of_writing : Status → Bool
is_of_writing status.Ok = true
is_of_writing status.Usage = false
is_of_writing status.ReadFault = false
is_of_writing status.WriteFault = true
is_of_writing status.DiskFault = false
is_of_writing status.Memory = true
is_of_writing status.NotJournal = false
is_of_writing (status.BadRecord at) = false
is_of_writing status.InputTooLong = false
is_of_writing status.DoorFault = false

-- the status where the disk's file could not be opened as a journal
abbrev pub status_of_fault : BookFault → Status
status_of_fault fault.Disk = status.DiskFault
status_of_fault fault.NotJournal = status.NotJournal
status_of_fault (fault.BadRecord at) = status.BadRecord at
status_of_fault fault.Memory = status.Memory

-- the status of a door that was served
abbrev pub status_of_door : DoorEnd → Status
status_of_door door.Done = status.Ok
status_of_door door.DoorFault = status.DoorFault
status_of_door door.Memory = status.Memory
