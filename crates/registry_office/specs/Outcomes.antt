-- What the office writes. The number of desks occurs in none of these.
use Rattle.std.specs.Prelude.{ℕ, List, [], ◌++◌}
use Rattle.gb_base.specs.DayMinute.{DayMinute}
use Rattle.act_model.specs.declared.receipts.Receipt.{Receipt}
use Rattle.registrar.specs.Settling.{registrar}
use Rattle.folio_extract.specs.Reports.{report}
use Rattle.folio_extract.specs.Summaries.{summary}
use Rattle.sample_journals.specs.Sample.{sample}
use Rattle.intake.specs.Requests.{InMemory, OnDisk, Held, holding, replies, held_after}
use Rattle.intake.specs.Sessions.{line_requests}
use Rattle.intake.specs.declared.lines.LineKind.TheVariants.{Stamped}
use Rattle.intake_requests.specs.declared.requests.Request.{Request}

-- the report of the journal that one registrar takes in the order of receipt
unfoldable pub report_of : List Receipt → List ℕ
report_of journal = report journal (registrar journal)

-- the summary of what one registrar leaves who takes the generated journal of this seed and size in the order of receipt
unfoldable pub sample_output : ℕ → ℕ → List ℕ
sample_output seed size = summary (registrar (sample seed size))

-- the replies of the session over this input, from the empty journal, and then the report of the journal that it leaves
abbrev pub settle_lines_output : List ℕ → List ℕ
settle_lines_output input =
    replies InMemory (holding [] []) (line_requests Stamped input) ++ report_of (held_after InMemory (holding [] []) (line_requests Stamped input)).journal

-- what a run writes, and the journal of the disk and the clock's ticks after it
pub record Outcome : Type 0 where
  pub written : List ℕ
  pub journal : List Receipt
  pub ticks : List DayMinute

-- this is written, and the journal and the ticks stay
abbrev pub writes : Held → List ℕ → Outcome
writes held text = record { written = text; journal = held.journal; ticks = held.ticks }

-- these requests are received onto the disk and replied to
abbrev pub received : Held → List Request → Outcome
received held requests = record {
  written = replies OnDisk held requests;
  journal = (held_after OnDisk held requests).journal;
  ticks = (held_after OnDisk held requests).ticks;
}
