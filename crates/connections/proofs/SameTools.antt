-- Tools that are the same are so one by one.
use Rattle.std.proofs.Common.{◌≡◌, ap}
use Rattle.connections.specs.Tools.{Tools}

pub same_disk : {D C : Type 0} (old new : Tools D C) → new ≡ old → new.disk ≡ old.disk
same_disk {D} {C} old new same = ap (λ (t : Tools D C). t.disk) same

pub same_clock : {D C : Type 0} (old new : Tools D C) → new ≡ old → new.clock ≡ old.clock
same_clock {D} {C} old new same = ap (λ (t : Tools D C). t.clock) same
