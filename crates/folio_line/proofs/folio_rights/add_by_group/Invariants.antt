use Rattle.std.proofs.Common.{◌≡◌, ◌++◌, ◌-◌, filter, flat_map, vec_capacity}
use Rattle.std.specs.List.{range_with_len}
use Rattle.folio_line.specs.FolioRights.{by_group, has_group}
use Rattle.folio_line.proofs.folio_rights.add_by_group.Given as goal

abbrev pub invariant-loop-group : goal.invariant-loop-group
invariant-loop-group l = record {
  items : l.list.items ++ flat_map (λ group. filter (has_group group) l.of_filing) (range_with_len l.group (9 - l.group))
      ≡ l.fn.list.items ++ by_group l.of_filing;
  capacity : vec_capacity l.list ≡ vec_capacity l.fn.list;
}
