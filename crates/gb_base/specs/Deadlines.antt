-- Deadlines: the days after which a lapse ends the waiting of a filing (GBO § 18).
use Rattle.std.specs.Prelude.{ℕ, ◌+◌, ◌%◌, ◌==◌, if◌then◌else◌}

-- how many days a day is after a Monday: day 0, 1970-01-01, was a Thursday
abbrev pub weekday : ℕ → ℕ
weekday day = (day + 3) % 7

-- the day, or the next Monday where it is a Saturday or a Sunday (BGB § 193)
abbrev pub working_day : ℕ → ℕ
working_day day = if weekday day == 5 then day + 2 else (if weekday day == 6 then day + 1 else day)

-- the deadline so many days after a day: that day, or the next Monday where it is a Saturday or a Sunday (BGB § 193)
abbrev pub deadline_after : ℕ → ℕ → ℕ
deadline_after days day = working_day (day + days)

-- the deadline of a filing of this day: 30 days after it, or the next Monday where that is a Saturday or a Sunday
abbrev pub deadline : ℕ → ℕ
deadline day = deadline_after 30 day
