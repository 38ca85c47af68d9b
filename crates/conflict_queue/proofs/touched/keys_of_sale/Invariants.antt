use Rattle.std.proofs.Common.{◌≡◌, ◌+◌, ◌≤◌, ◌∷◌, length, map, take, vec_capacity}
use Rattle.gb_base.specs.declared.keys.Key.TheVariants.{Title, Right}
use Rattle.conflict_queue.proofs.touched.keys_of_sale.Given as goal

abbrev pub invariant-loop-right : goal.invariant-loop-right
invariant-loop-right l = record {
  room : length l.rights + 2 ≤ vec_capacity l.keys;
  listed : l.keys.items ≡ Title l.folio ∷ map (Right l.folio) (take l.right-index l.rights);
}
