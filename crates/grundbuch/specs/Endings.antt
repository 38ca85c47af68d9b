-- How the program ends.
use Rattle.std.specs.Prelude.{ℕ, List, [], ◌++◌, codes}
use Rattle.std.specs.Fmt.{decimal}
use Rattle.registry_office.specs.declared.statuses.Status.{Status}
use Rattle.registry_office.specs.declared.statuses.Status.TheVariants.{Ok, Usage, ReadFault, WriteFault, DiskFault, Memory, NotJournal, BadRecord, InputTooLong, DoorFault}

-- the exit status of each way in which a run ends
abbrev pub exit_status : Status → ℕ
exit_status Ok = 0
exit_status Usage = 2
exit_status ReadFault = 3
exit_status WriteFault = 4
exit_status DiskFault = 5
exit_status Memory = 6
exit_status NotJournal = 7
exit_status (BadRecord at) = 8
exit_status InputTooLong = 9
exit_status DoorFault = 10

-- what the program says on standard error of each way in which a run ends
abbrev pub ending_text : Status → List ℕ
ending_text Ok = []
ending_text Usage = codes "usage"
ending_text ReadFault = codes "read fault"
ending_text WriteFault = codes "write fault"
ending_text DiskFault = codes "disk fault"
ending_text Memory = codes "out of memory"
ending_text NotJournal = codes "not a journal"
ending_text (BadRecord at) = codes "bad record at " ++ decimal at
ending_text InputTooLong = codes "input too long"
ending_text DoorFault = codes "door fault"
