use Rattle.std.proofs.Common.{filter_map, option_map}
use Rattle.desk_pool.specs.inner.FoliosInRow.{mark_of}
use Rattle.desk_pool.proofs.ready_desks.ReadyDesks.work.Given as goal

abbrev pub ghosts-settle_together : goal.ghosts-settle_together
ghosts-settle_together g a = record { row = filter_map (option_map mark_of) a.places.now }
