use Rattle.std.proofs.Common.{◌≡◌, drop}
use Rattle.act_model.specs.inner.KeyInsertion.{with_keys}
use Rattle.act_model.proofs.touched_keys.insert_keys.Given as goal

abbrev pub invariant-loop-key : goal.invariant-loop-key
invariant-loop-key l = with_keys (drop l.key-index l.more) l.keys.items ≡ with_keys l.more l.fn.keys.items
