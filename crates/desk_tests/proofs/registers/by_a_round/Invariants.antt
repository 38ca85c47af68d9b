use Rattle.desk_tests.proofs.registers.by_a_round.Given as goal

abbrev pub ghosts-named_by_a_round : goal.ghosts-named_by_a_round
ghosts-named_by_a_round g a = record { receipts = a.journal.now.receipts }
