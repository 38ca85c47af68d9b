-- Places and exchanges that are equal are the same.
use Rattle.std.proofs.Common.{◌≡◌, Bool, true, ◌&&◌, Option, Some, None, IfSome, Decides, eqb, refl, subst}
use Rattle.std.specs.Bool.{beq}
use Rattle.std.specs.Cmp.{booleans_Decides}
use Rattle.std.specs.Option.{MatchOption}
use Rattle.std.proofs.lemmas.Bool.{and_from, and_parts}
use Rattle.std.proofs.lemmas.Bool.Decides.{Decides-eqb}
use Rattle.gb_base.specs.RightNo.{same_right}
use Rattle.gb_base.proofs.SameRights.{right_from, right_is}
use Rattle.rank_slots.specs.declared.places.Place.{Place}
use Rattle.rank_slots.specs.declared.places.Swap.{Swap}

-- ---- exchanges

-- what the derived test compares
abbrev is_swap : Swap → Swap → Bool
is_swap s z = same_right s.recede z.recede && same_right s.rise z.rise

swap_same : (s z : Swap) → is_swap s z ≡ true → s ≡ z
swap_same s z same =
    let parts = and_parts (same_right s.recede z.recede) (same_right s.rise z.rise) same in
    let recede = right_is s.recede z.recede parts.0 in
    let rise = right_is s.rise z.rise parts.1 in
    λ i. record { recede = recede i; rise = rise i }

swap_self : (s : Swap) → is_swap s s ≡ true
swap_self s = and_from (same_right s.recede s.recede) (same_right s.rise s.rise) (right_from s.recede s.recede refl) (right_from s.rise s.rise refl)

pub swap_decides : (s z : Swap) → Decides (is_swap s z) (s ≡ z)
swap_decides s z = (swap_same s z, λ is. subst (λ (w : Swap). is_swap s w ≡ true) is (swap_self s))

-- ---- places

-- what the derived test compares
abbrev is_place : Place → Place → Bool
is_place p q = same_right p.right q.right && (eqb p.claim q.claim && (beq p.with_previous q.with_previous && beq p.dropped q.dropped))

place_same : (p q : Place) → is_place p q ≡ true → p ≡ q
place_same p q same =
    let own = and_parts (same_right p.right q.right) (eqb p.claim q.claim && (beq p.with_previous q.with_previous && beq p.dropped q.dropped)) same in
    let sum = and_parts (eqb p.claim q.claim) (beq p.with_previous q.with_previous && beq p.dropped q.dropped) own.1 in
    let marks = and_parts (beq p.with_previous q.with_previous) (beq p.dropped q.dropped) sum.1 in
    let right = right_is p.right q.right own.0 in
    let claim = (Decides-eqb p.claim q.claim).0 sum.0 in
    let with_previous = (booleans_Decides p.with_previous q.with_previous).0 marks.0 in
    let dropped = (booleans_Decides p.dropped q.dropped).0 marks.1 in
    λ i. record { right = right i; claim = claim i; with_previous = with_previous i; dropped = dropped i }

place_self : (p : Place) → is_place p p ≡ true
place_self p =
    and_from (same_right p.right p.right) (eqb p.claim p.claim && (beq p.with_previous p.with_previous && beq p.dropped p.dropped)) (right_from p.right p.right refl)
    (and_from (eqb p.claim p.claim) (beq p.with_previous p.with_previous && beq p.dropped p.dropped) ((Decides-eqb p.claim p.claim).1 refl)
    (and_from (beq p.with_previous p.with_previous) (beq p.dropped p.dropped) ((booleans_Decides p.with_previous p.with_previous).1 refl) ((booleans_Decides p.dropped p.dropped).1 refl)))

pub place_decides : (p q : Place) → Decides (is_place p q) (p ≡ q)
place_decides p q = (place_same p q, λ is. subst (λ (w : Place). is_place p w ≡ true) is (place_self p))

-- ---- what is found

pub some_alone : {X : Type 0} (P : Type 0) (Q : X → Type 0) (found : Option X) → MatchOption found P Q → IfSome found Q
some_alone P Q None cases = tt
some_alone P Q (Some x) cases = cases
