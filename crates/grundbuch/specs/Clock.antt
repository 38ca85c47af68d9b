-- What the system's clock says, as a stamp.
use Rattle.std.specs.Prelude.{ℕ, ◌/◌, ◌%◌, Option, Some, None, ◌&&◌, nat_le, if◌then◌else◌}
use Rattle.std.specs.Option.{unwrap_or}
use Rattle.gb_base.specs.DayMinute.{DayMinute}
use Rattle.gb_base.specs.Limits.{first_stamp_day, last_stamp_day}

-- 2000-01-01 at midnight, the first stamp that a receipt can have
abbrev pub first_stamp : DayMinute
first_stamp = record { day = first_stamp_day; minute = 0 }

-- the day and the minute of a moment in seconds since 1970-01-01 at midnight, on the days from 2000-01-01 to 2149-12-31
abbrev pub stamp_of : ℕ → Option DayMinute
stamp_of seconds =
    if nat_le first_stamp_day (seconds / 86400) && nat_le (seconds / 86400) last_stamp_day
    then Some (record { day = seconds / 86400; minute = seconds % 86400 / 60 })
    else None

-- the stamp of a moment that may not be known: the first one where it is not, or has none of its own
abbrev pub stamp_at : Option ℕ → DayMinute
stamp_at None = first_stamp
stamp_at (Some seconds) = unwrap_or (stamp_of seconds) first_stamp
