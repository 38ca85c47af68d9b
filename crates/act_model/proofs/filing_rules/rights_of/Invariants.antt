use Rattle.std.proofs.Common.{◌≡◌, ◌≤◌, ◌*◌, length, take}
use Rattle.std.specs.List.{flat_map}
use Rattle.act_model.specs.WellFormed.{rights_named}
use Rattle.act_model.proofs.filing_rules.rights_of.Given as goal

abbrev pub invariant-loop-act : goal.invariant-loop-act
invariant-loop-act l = record {
  so_far : l.rights.items ≡ flat_map rights_named (take l.act-index l.acts);
  room : length l.rights.items ≤ 2 * l.act-index;
}
