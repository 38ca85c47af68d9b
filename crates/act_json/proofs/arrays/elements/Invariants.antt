-- What the loop over the elements of an array keeps.
use Rattle.std.specs.Prelude.{IsTrue}
use Rattle.std.specs.List.{list_all}
use Rattle.act_json.proofs.Turns.{ReadSoFar}
use Rattle.act_json.proofs.arrays.elements.Given as goal

abbrev pub invariant-loop-i : goal.invariant-loop-i
invariant-loop-i g l = record {
  so_far : ReadSoFar g.T.FromJson.reads l.values l.i g.row.N l.list.items;
  good : IsTrue (list_all g.T.FromJson.keeps l.list.items);
}
