-- The interest of a right: what is current, and what is in arrears (ZVG §§ 10, 13, 47).
use Rattle.std.specs.Prelude.{ℕ, ◌+◌, ◌==◌, ◌&&◌, find, max, min}
use Rattle.std.specs.List.{range_with_len}
use Rattle.std.specs.Option.{option_map_or}
use Rattle.gb_base.specs.Calendar.{date_of}
use Rattle.gb_base.specs.Interest.{days360, interest}
use Rattle.gb_base.specs.Limits.{last_day}
use Rattle.act_model.specs.declared.rights.RightKind.{RightKind}
use Rattle.act_model.specs.declared.rights.RightKind.TheVariants as kind
use Rattle.auction_classes.specs.declared.accruals.Accrual.{Accrual}

-- the number of 1 January of a year
unfoldable pub new_year : ℕ → ℕ
new_year year = option_map_or (λ n. n) (find (λ n. (date_of n).year == year && ((date_of n).month == 1 && (date_of n).day == 1)) (range_with_len 0 (last_day + 1))) 0

-- the rate of a right in hundredths of a percent a year; a right of division II bears no interest
abbrev pub rate_of : RightKind → ℕ
rate_of (kind.Mortgage rate) = rate
rate_of (kind.LandCharge rate) = rate
rate_of other = 0

-- the interest of a right from a day up to another
abbrev pub interest_between : Accrual → ℕ → ℕ → ℕ
interest_between x from until = interest x.capital x.rate (days360 from until)

-- current interest begins on 1 January of the year before the seizure, or with the right's entry where that is later (ZVG § 13)
abbrev pub begin_of_current : Accrual → ℕ
begin_of_current x = max x.current_from x.entered

-- current interest, up to the 15th day after the sale, without that day (ZVG § 47)
abbrev pub current_interest : Accrual → ℕ
current_interest x = interest_between x (begin_of_current x) (x.sale + 15)

-- Of arrears from a day up to another, what the right's own class has: the part from 1 January of the third year before the
-- seizure, and from the right's entry, up to the beginning of current interest (ZVG § 10(1) no. 4).
abbrev pub arrears_in_class : Accrual → ℕ → ℕ → ℕ
arrears_in_class x from until = interest_between x (max from (max x.arrears_from x.entered)) (min until (begin_of_current x))

-- Of arrears from a day up to another, what class 8 has: the part before 1 January of the third year before the seizure, from the right's entry on (ZVG § 10(1) no. 8).
abbrev pub old_arrears : Accrual → ℕ → ℕ → ℕ
old_arrears x from until = interest_between x (max from x.entered) (min until x.arrears_from)
