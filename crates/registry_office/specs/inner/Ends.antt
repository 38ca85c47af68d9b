-- Which status an end of work has.
use Rattle.std.specs.Prelude.{Result, Ok, Err}
use Rattle.intake.specs.declared.faults.OutputFault.{OutputFault}
use Rattle.intake.specs.declared.faults.OutputFault.TheVariants as output
use Rattle.intake.specs.declared.faults.SessionFault.{SessionFault}
use Rattle.intake.specs.declared.faults.SessionFault.TheVariants as session
use Rattle.registry_office.specs.declared.statuses.Status.{Status}
use Rattle.registry_office.specs.declared.statuses.Status.TheVariants as status

-- the status of a session that ended early
abbrev pub status_of_session : SessionFault → Status
status_of_session session.Read = status.ReadFault
status_of_session session.Write = status.WriteFault
status_of_session session.Disk = status.DiskFault
status_of_session session.Memory = status.Memory
status_of_session session.TooLong = status.InputTooLong

-- the status of a session over an input
abbrev pub status_of : {A : Type 0} → Result A SessionFault → Status
status_of (Ok value) = status.Ok
status_of (Err fault) = status_of_session fault

-- the status where a text is written to its end or could not be
abbrev pub status_of_writing : {A : Type 0} → Result A OutputFault → Status
status_of_writing (Ok value) = status.Ok
status_of_writing (Err output.Write) = status.WriteFault
status_of_writing (Err output.Memory) = status.Memory
