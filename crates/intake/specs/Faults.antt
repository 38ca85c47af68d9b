-- Why work ends early, and which count of faults has to have risen for it.
use Rattle.std.specs.Prelude.{Bool, true, false, Result, Ok, Err}
use Rattle.intake.specs.declared.faults.OutputFault.{OutputFault}
use Rattle.intake.specs.declared.faults.OutputFault.TheVariants as output
use Rattle.intake.specs.declared.faults.AnswerFault.{AnswerFault}
use Rattle.intake.specs.declared.faults.AnswerFault.TheVariants as answer
use Rattle.intake.specs.declared.faults.SessionFault.{SessionFault}
use Rattle.intake.specs.declared.faults.SessionFault.TheVariants as session

-- the sink failed in writing
abbrev pub output_failed : {A : Type 0} → Result A OutputFault → Bool
output_failed (Ok value) = false
output_failed (Err output.Write) = true
output_failed (Err output.Memory) = false

-- the fault of answering where its reply could not be written
abbrev pub answer_fault_of : OutputFault → AnswerFault
answer_fault_of output.Write = answer.Write
answer_fault_of output.Memory = answer.Memory

-- the sink failed in answering
abbrev pub answer_output_failed : {A : Type 0} → Result A AnswerFault → Bool
answer_output_failed (Ok value) = false
answer_output_failed (Err answer.Write) = true
answer_output_failed (Err answer.Disk) = false
answer_output_failed (Err answer.Memory) = false

-- the disk failed in answering
abbrev pub answer_disk_failed : {A : Type 0} → Result A AnswerFault → Bool
answer_disk_failed (Ok value) = false
answer_disk_failed (Err answer.Write) = false
answer_disk_failed (Err answer.Disk) = true
answer_disk_failed (Err answer.Memory) = false

-- the fault of a session where one of its requests could not be answered
abbrev pub session_fault_of : AnswerFault → SessionFault
session_fault_of answer.Write = session.Write
session_fault_of answer.Disk = session.Disk
session_fault_of answer.Memory = session.Memory

-- the source failed in a session
abbrev pub session_input_failed : {A : Type 0} → Result A SessionFault → Bool
session_input_failed (Ok value) = false
session_input_failed (Err session.Read) = true
session_input_failed (Err session.Write) = false
session_input_failed (Err session.Disk) = false
session_input_failed (Err session.Memory) = false
session_input_failed (Err session.TooLong) = false

-- the sink failed in a session
abbrev pub session_output_failed : {A : Type 0} → Result A SessionFault → Bool
session_output_failed (Ok value) = false
session_output_failed (Err session.Read) = false
session_output_failed (Err session.Write) = true
session_output_failed (Err session.Disk) = false
session_output_failed (Err session.Memory) = false
session_output_failed (Err session.TooLong) = false

-- the disk failed in a session
abbrev pub session_disk_failed : {A : Type 0} → Result A SessionFault → Bool
session_disk_failed (Ok value) = false
session_disk_failed (Err session.Read) = false
session_disk_failed (Err session.Write) = false
session_disk_failed (Err session.Disk) = true
session_disk_failed (Err session.Memory) = false
session_disk_failed (Err session.TooLong) = false
