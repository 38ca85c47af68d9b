use Rattle.desk_pool.proofs.at_desks.settle_at_desks.Given as goal

abbrev pub ghosts-settle_named : goal.ghosts-settle_named
ghosts-settle_named g a = record { receipts = a.journal.now.receipts }
