-- What keeps its place in a group keeps it in the line.
use Rattle.std.proofs.Common.{◌≡◌, Bool, true, false, not, ◌&&◌, List}
use Rattle.std.proofs.lemmas.Bool.{both_ways, true_from_ne_false}
use Rattle.std.proofs.lemmas.List.Elements.{All-from_recursion}
use Rattle.std.proofs.lemmas.List.Folds.{list_any_none}
use Rattle.gb_base.specs.RightNo.{RightNo}
use Rattle.rank_slots.specs.Groups.{group_of, is_of, keeps_place}
use Rattle.rank_slots.specs.declared.places.Place.{Place}
use Rattle.rank_slots.proofs.GroupMembers.{group_all}
use Rattle.part_tests.proofs.FillTests.{none_passes}

pub kept_in_group : (places : List Place) (r : RightNo) → keeps_place (group_of places r) r ≡ true → keeps_place places r ≡ true
kept_in_group places r kept =
    let test : Place → Bool = λ p. is_of r p && not p.dropped in
    true_from_ne_false (keeps_place places r)
    (λ none. both_ways (keeps_place (group_of places r) r)
    (list_any_none test (group_of places r)
    (group_all (λ p. test p ≡ false) places r (All-from_recursion (λ p. test p ≡ false) places (none_passes test places none))))
    kept)
