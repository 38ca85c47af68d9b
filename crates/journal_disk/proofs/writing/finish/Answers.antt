use Rattle.std.proofs.Common.{◌≡◌, ℕ, List, [], ◌∷◌, ◌++◌, drop, ap}
use Rattle.gb_outside.proofs.Moments.{followed, weakened}
use Rattle.journal_disk.specs.Layout.{the_heading, StandsFor}
use Rattle.journal_disk.proofs.Making.{name_put, name_written, mark_put}
use Rattle.journal_disk.proofs.writing.finish.Goals as goal

pub returns-clause-any_moment : goal.returns-clause-any_moment
returns-clause-any_moment g c = λ yes.
    let P : List ℕ → Type 0 = λ file. StandsFor the_heading file [] in
    let rest = (c.requires.begun yes).0 in
    let first = weakened g.D.Disk.moment g.D.Disk.since _ _ _ P (name_put _ _ rest _ (c.requires.begun yes).1 (c.requires.settled yes)) (c.put.ensures.any_moment yes) in
    let is : g.D.Disk.reads c.put.new.disk ≡ 0 ∷ (the_heading ++ 0 ∷ drop 9 rest) =
    name_written _ rest (c.copy_from_slice.new.self ++ 0 ∷ []) _ (c.requires.begun yes).1 (ap (λ (l : List ℕ). l ++ 0 ∷ []) c.copy_from_slice.ensures.after) (c.in_ok-put.ensures.written yes) in
    let second = weakened g.D.Disk.moment g.D.Disk.since _ _ _ P (mark_put _ _ (drop 9 rest) is (c.in_ok-put.ensures.settled yes)) (c.put-2.ensures.any_moment yes) in
    followed g.D.Disk.moment g.D.Disk.since _ _ _ P first second
