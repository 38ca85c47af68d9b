use Rattle.kept_registers.proofs.PlaceDays.{days_never_fall}
use Rattle.kept_registers.proofs.laws.place_days.Goals as goal

pub returns : goal.returns
returns c = record { days = days_never_fall }
