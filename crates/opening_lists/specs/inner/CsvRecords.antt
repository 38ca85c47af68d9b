-- The records that a reader of CSV in memory has left.
use Rattle.std.specs.Prelude.{ℕ, ◌+◌, ◌≡◌, true, List, [], length, Option, Some, None}
use Rattle.std.specs.Borrow.{Bor}
use Rattle.csv.specs.Reading.{Ready, default_config, is_flexible, reader_config, reader_state, reader_trim, records_from, source_of}
use Rattle.csv.specs.declared.parser.State.{State}
use Rattle.csv.specs.declared.reader.Reader.{Reader}
use Rattle.csv.specs.declared.reader.Trim.TheVariants as trim

-- the records of the bytes that are left, from a state; none where the reader has failed
abbrev pub records_at : State → Option (List ℕ) → List (List (List ℕ))
records_at state None = []
records_at state (Some bytes) = records_from default_config (length bytes + 1) state bytes

-- the records that the reader has left
abbrev pub records_left : Reader (Bor (List ℕ)) → List (List (List ℕ))
records_left reader = records_at (reader_state reader) (source_of (λ text. Some text.now) reader)

-- The reader has the default settings, takes records of any length, and the first as a record.
pub record IsSetUp (reader : Reader (Bor (List ℕ))) : Type 0 where
  pub config : reader_config reader ≡ default_config
  pub trim : reader_trim reader ≡ trim.None
  pub flexible : is_flexible reader ≡ true
  pub ready : Ready reader
