-- Places that are equal are the same.
use Rattle.std.proofs.lemmas.Slice.Eq.{slice_eq-Decides}
use Rattle.rank_slots.proofs.SameFillings.{place_decides}
use Rattle.rank_slots.proofs.keeping.are_same.Goals as goal

pub returns : goal.returns
returns c = λ same. (slice_eq-Decides place_decides _ _ _ c.eq.ensures).0 same
