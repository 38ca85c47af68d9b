use Rattle.std.proofs.Common.{◌≡◌, ◌++◌, drop, filter, vec_capacity}
use Rattle.folio_line.specs.FolioRights.{has_group}
use Rattle.folio_line.proofs.folio_rights.add_group.Given as goal

abbrev pub invariant-loop-right : goal.invariant-loop-right
invariant-loop-right l = record {
  items : l.list.items ++ filter (has_group l.group) (drop l.right-index l.of_filing)
      ≡ l.fn.list.items ++ filter (has_group l.group) l.of_filing;
  capacity : vec_capacity l.list ≡ vec_capacity l.fn.list;
}
