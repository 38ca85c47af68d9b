use Rattle.std.proofs.Common.{◌≡◌, ◌++◌, take}
use Rattle.std.specs.List.{AllByRecursion, flat_map}
use Rattle.act_codec.specs.Spelling.{act_bytes}
use Rattle.act_codec.specs.Values.{IsAct}
use Rattle.act_codec.proofs.acts.put_list.Given as goal

abbrev pub invariant-loop-act : goal.invariant-loop-act
invariant-loop-act l = record {
  wrote : l.to ≡ l.fn.to ++ flat_map act_bytes (take l.act-index l.acts);
  each : AllByRecursion IsAct (take l.act-index l.acts);
}
