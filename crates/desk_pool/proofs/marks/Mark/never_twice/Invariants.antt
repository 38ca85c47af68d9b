use Rattle.desk_pool.proofs.marks.Mark.never_twice.Given as goal

abbrev pub ghosts-open_both : goal.ghosts-open_both
ghosts-open_both a = record { name = a.one.name; parts = 1 }
