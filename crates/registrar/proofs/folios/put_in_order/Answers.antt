use Rattle.std.proofs.lemmas.List.Filters.{dedup_is}
use Rattle.std.proofs.lemmas.List.Kept.{AllPairs-from_increasing, Contains-dedup_nat, Contains-from_dedup}
use Rattle.std.proofs.lemmas.List.Sorted.{Contains-permutation, IsPermutation-sym}
use Rattle.std.proofs.lemmas.Map.Keys.{IsStrictlyIncreasing-dedup}
use Rattle.registrar.proofs.folios.put_in_order.Goals as goal

pub returns-clause-ascending : goal.returns-clause-ascending
returns-clause-ascending c =
    let sorted = c.sort_unstable.new.self.items in
    rw (dedup_is _ sorted c.dedup.new.self.items c.dedup.ensures.filtered) (AllPairs-from_increasing _ (IsStrictlyIncreasing-dedup sorted c.sort_unstable.ensures.sorted))

pub returns-clause-members : goal.returns-clause-members
returns-clause-members c = λ folio.
    let before = c.args.folios.now.items in
    let sorted = c.sort_unstable.new.self.items in
    let folios = c.dedup.new.self.items in
    let is = dedup_is _ sorted folios c.dedup.ensures.filtered in
    let moved = c.sort_unstable.ensures.permutation in (
      λ there. Contains-permutation sorted before folio (IsPermutation-sym before sorted moved) (Contains-from_dedup _ sorted folio (rw is at there)),
      λ there. rw is (Contains-dedup_nat sorted folio (Contains-permutation before sorted folio moved there)),
    )
