-- What holds between two frames.
use Rattle.std.proofs.Common.{◌≡◌, ℕ, List, IsTrue, false}
use Rattle.journal_disk.specs.Layout.{the_heading}
use Rattle.journal_disk.specs.Appending.{StandsOn}
use Rattle.fill_journal.proofs.filling.fill.Given as goal

abbrev pub invariant-loop : goal.invariant-loop
invariant-loop g l = IsTrue g.D.Disk.tells → l.log.failed ≡ false → (bodies : List (List ℕ)) × StandsOn the_heading l.log.gate bodies (g.D.Disk.reads l.disk) (g.D.Disk.images l.disk)
