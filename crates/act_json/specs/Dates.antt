-- Dates as lines write them.
use Rattle.std.specs.Prelude.{ℕ}
use Rattle.serde_json.specs.Data.{Data}
use Rattle.serde_json.specs.Find.{as_str}
use Rattle.gb_base.specs.Texts.{day_written}
use Rattle.act_json.specs.Reading.{Read, ◌>>=◌, wanted}

-- the day whose text the string is
unfoldable pub read_day : Data → Read ℕ
read_day d = do
  text ← wanted (as_str d)
  wanted (day_written text)
