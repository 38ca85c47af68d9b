use Rattle.std.proofs.Common.{◌≡◌, ◌++◌, take}
use Rattle.std.specs.List.{AllByRecursion, flat_map}
use Rattle.act_codec.specs.Spelling.{u32_bytes}
use Rattle.act_codec.specs.Values.{IsNumber}
use Rattle.act_codec.proofs.acts.put_persons.Given as goal

abbrev pub invariant-loop-person : goal.invariant-loop-person
invariant-loop-person l = record {
  wrote : l.to ≡ l.fn.to ++ flat_map u32_bytes (take l.person-index l.persons);
  each : AllByRecursion IsNumber (take l.person-index l.persons);
}
