use Rattle.desk_tests.proofs.registers.in_order.Given as goal

abbrev pub ghosts-named_in_order : goal.ghosts-named_in_order
ghosts-named_in_order g a = record { receipts = a.journal.now.receipts }
