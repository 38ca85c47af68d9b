-- What the office does at each command. The number of desks occurs in none of these.
use Rattle.std.specs.Prelude.{◌≡◌, ℕ, Bool, true, false, List, [], Option, Some, None}
use Rattle.gb_base.specs.DayMinute.{DayMinute}
use Rattle.receipt_journal.specs.Standing.{StandsForJournal}
use Rattle.intake.specs.Intakes.{whole_of, cut_of}
use Rattle.intake.specs.Requests.{InMemory, OnDisk, Held, holding, replies}
use Rattle.intake.specs.Sessions.{line_requests, ended_requests}
use Rattle.intake.specs.declared.intakes.Intake.{Intake}
use Rattle.intake.specs.declared.lines.LineKind.TheVariants.{Stamped}
use Rattle.intake_requests.specs.declared.requests.Request.{Request}
use Rattle.command_words.specs.Words.{commanded}
use Rattle.command_words.specs.declared.commands.Command.{Command}
use Rattle.command_words.specs.declared.commands.Command.TheVariants.{Settle, SettleLines, Receive, Serve, Sample}
use Rattle.registry_office.specs.Outcomes.{Outcome, received, report_of, sample_output, settle_lines_output, writes}

-- What the office does at a command: which objects it uses, what it reads the input as, what it replies, and what comes of it.
pub record Task : Type 0 where
  -- the input is read
  pub uses_input : Bool
  -- the disk is called
  pub uses_disk : Bool
  -- items are received onto the disk, with the clock's stamps
  pub receives : Bool
  -- what comes through the door is served, up to so many replies and as many links
  pub serves : Option ℕ
  -- what the input asks
  pub requests : List ℕ → List Request
  -- what it asks where it is cut here
  pub cut_requests : List ℕ → List Request
  -- the replies to these requests
  pub replies : Held → List Request → List ℕ
  -- what comes of it, where the disk's journal and the clock's ticks are held and the source gives this input; of a task that serves `ServesOffice` says what it leaves
  pub outcome : Held → List ℕ → Outcome

-- nothing is used, and nothing comes of it
abbrev pub no_task : Task
no_task = record {
  uses_input = false;
  uses_disk = false;
  receives = false;
  serves = None;
  requests = λ input. [];
  cut_requests = λ read. [];
  replies = λ held asked. [];
  outcome = λ held input. writes held [];
}

-- what the input has is received onto the disk
abbrev pub receiving : Intake → Task
receiving intake = record no_task {
  uses_input = true;
  uses_disk = true;
  receives = true;
  requests = whole_of intake;
  cut_requests = cut_of intake;
  replies = replies OnDisk;
  outcome = λ held input. received held (whole_of intake input);
}

-- the task of a command
abbrev pub task_of : Command → Task
task_of (Settle desks) = record no_task {
  uses_disk = true;
  outcome = λ held input. writes held (report_of held.journal);
}
task_of (SettleLines desks) = record no_task {
  uses_input = true;
  requests = line_requests Stamped;
  cut_requests = ended_requests Stamped [];
  replies = λ held. replies InMemory (holding [] []);
  outcome = λ held input. writes held (settle_lines_output input);
}
task_of (Receive intake) = receiving intake
task_of (Serve desks most) = record no_task {
  uses_disk = true;
  serves = Some most;
}
task_of (Sample seed size desks) = record no_task {
  outcome = λ held input. writes held (sample_output seed size);
}

-- the task where there is a command, and none where there is none
abbrev pub task_where : Option Command → Task
task_where None = no_task
task_where (Some command) = task_of command

-- the task of the words of a run, each of which is read as its bytes
abbrev pub task_by : {W : Type 0} → (W → List ℕ) → List W → Task
task_by bytes words = task_where (commanded bytes words)

-- The objects that the task uses tell what they hold: at first the disk's file stood for this journal, the clock had these ticks to give, and this was left of the input.
pub record Told (task : Task) (tells : Bool) (file : List ℕ) (left : Option (List ℕ)) (known : Option (List DayMinute)) (held : Held) (input : List ℕ) : Type 0 where
  pub disk_tells : task.uses_disk ≡ true → tells ≡ true
  pub disk_stands : task.uses_disk ≡ true → StandsForJournal file held.journal
  pub source_left : task.uses_input ≡ true → left ≡ Some input
  pub clock_tells : task.receives ≡ true → known ≡ Some held.ticks

-- A run of this task, over objects that tell what they hold: what its disk and its clock held at first, and its input.
pub record RunBegins (task : Task) (tells : Bool) (file : List ℕ) (left : Option (List ℕ)) (known : Option (List DayMinute)) : Type 0 where
  pub held : Held
  pub input : List ℕ
  pub told : Told task tells file left known held input
