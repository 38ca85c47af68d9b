use Rattle.std.proofs.Common.{◌≡◌, ◌+◌, [], drop}
use Rattle.act_model.specs.Touches.{keys_of_acts}
use Rattle.act_model.specs.inner.KeyInsertion.{with_keys}
use Rattle.act_model.proofs.touched_keys.keys_of_acts.Given as goal

abbrev pub invariant-loop-i : goal.invariant-loop-i
invariant-loop-i l =
    with_keys (keys_of_acts l.journal.receipts l.m (l.i + 1) (drop l.i l.acts)) l.keys.items ≡ with_keys (keys_of_acts l.journal.receipts l.m 1 l.acts) []
