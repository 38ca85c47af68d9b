-- What a right gets that stands alone: its own cents.
use Rattle.std.proofs.Common.{◌≡◌, ℕ, true, false, ◌||◌, List, [], ◌∷◌, count_by, take, refl, sym, ◌∙◌, subst}
use Rattle.gb_base.specs.RightNo.{RightNo, same_right}
use Rattle.gb_base.proofs.SameRights.{right_is}
use Rattle.rank_slots.specs.Filled.{Filled, line}
use Rattle.rank_slots.specs.Groups.{group_of}
use Rattle.rank_slots.specs.Payments.{is_of_group, share_in_group, line_pay}
use Rattle.rank_slots.specs.declared.places.Place.{Place}
use Rattle.rank_slots.proofs.GroupMembers.{IsAlone}
use Rattle.rank_slots.proofs.LineCounts.{counted, counted_agree, counted_is}

-- a cent is of the group just where it is the right's
lone_test : (p : Place) (r : RightNo) → same_right p.right r ≡ true → (c : RightNo) → is_of_group (p ∷ []) c ≡ same_right r c
lone_test p r own c =
    subst (λ z. (same_right p.right c || false) ≡ same_right z c) (right_is p.right r own)
    (elim (same_right p.right c) as (λ b. (b || false) ≡ b) [ true ↦ refl | false ↦ refl ])

pub lone_group : (group : List Place) (r : RightNo) → IsAlone group r → (c : RightNo) → is_of_group group c ≡ same_right r c
lone_group group r alone c = subst (λ g. is_of_group g c ≡ same_right r c) (sym alone.all) (lone_test alone.place r alone.own c)

pub lone_part : (group : List Place) (r : RightNo) (cents : ℕ) → IsAlone group r → share_in_group group r cents ≡ cents
lone_part group r cents alone = subst (λ g. share_in_group g r cents ≡ cents) (sym alone.all) refl

pub lone_pay : (filled : Filled) (r : RightNo) → IsAlone (group_of filled.places r) r → (t : ℕ) → line_pay filled r t ≡ counted (same_right r) (take t (line filled))
lone_pay filled r alone t =
    let group = group_of filled.places r in
    lone_part group r (count_by (is_of_group group) (take t (line filled))) alone
    ∙ (counted_is (is_of_group group) (take t (line filled))
    ∙ counted_agree (is_of_group group) (same_right r) (lone_group group r alone) (take t (line filled)))
