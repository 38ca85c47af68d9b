use Rattle.desk_tests.proofs.registers.by_a_round_of.Given as goal

abbrev pub ghosts-named_by_a_round_of : goal.ghosts-named_by_a_round_of
ghosts-named_by_a_round_of g a = record { receipts = a.journal.now.receipts }
