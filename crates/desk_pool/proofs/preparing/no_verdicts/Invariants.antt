use Rattle.std.proofs.Common.{◌≡◌, length}
use Rattle.desk_pool.proofs.preparing.no_verdicts.Given as goal

abbrev pub invariant-loop-item : goal.invariant-loop-item
invariant-loop-item l = record { said : length l.verdicts.items ≡ l._item }
