-- What a group of a line has, so that its cents can be shared.
use Rattle.std.proofs.Common.{◌≡◌, ℕ, ◌<◌, ◌≤◌, true, List, All, count_by, length, sum_by, take, sym, ap, ◌∙◌, subst, arith}
use Rattle.std.specs.List.{list_any}
use Rattle.gb_base.specs.RightNo.{RightNo}
use Rattle.rank_slots.specs.CanFill.{ArePlaces, StandsAlone}
use Rattle.rank_slots.specs.Filled.{Filled, line}
use Rattle.rank_slots.specs.Groups.{group_of, is_of, keeps_place}
use Rattle.gb_base.specs.Limits.{most_sum}
use Rattle.rank_slots.specs.Limits.{most_places}
use Rattle.rank_slots.specs.Payments.{is_of_group, share_in_group, line_pay}
use Rattle.rank_slots.specs.declared.places.Piece.{Piece}
use Rattle.rank_slots.specs.declared.places.Place.{Place}
use Rattle.rank_slots.specs.inner.Pieces.{line_of}
use Rattle.rank_slots.proofs.GroupMembers.{IsAlone, alone_group, group_all, group_holds, group_length, group_sum}
use Rattle.rank_slots.proofs.LonePay.{lone_part}
use Rattle.rank_slots.proofs.PlaceLines.{kept_listed}

pub record CanShare (group : List Place) (right : RightNo) : Type 0 where
  pub there : list_any (is_of right) group ≡ true
  pub few : length group ≤ most_places
  pub claims : All (λ p. 1 ≤ p.claim) group
  pub sum : sum_by (λ p. p.claim) group < most_sum

pub can_share : (places : List Place) (r : RightNo) → ArePlaces places → keeps_place places r ≡ true → CanShare (group_of places r) r
can_share places r are kept =
    let few = are.few in
    let sum = are.sum in
    record {
      there = group_holds places r (kept_listed r places kept);
      few = omega (arith, group_length places r);
      claims = group_all (λ p. 1 ≤ p.claim) places r are.claims;
      sum = omega (arith, group_sum (λ p. p.claim) places r);
    }

-- a group that was read as the right's has what it needs to be shared
pub read_group : (filled : Filled) (places group : List Place) (r : RightNo) → places ≡ filled.places → group ≡ group_of places r → ArePlaces filled.places → keeps_place filled.places r ≡ true → CanShare group r
read_group filled places group r same is are kept = subst (λ g. CanShare g r) (sym (is ∙ ap (λ ps. group_of ps r) same)) (can_share filled.places r are kept)

-- what was read is what the right gets
pub read_pay : (filled : Filled) (places group : List Place) (pieces : List Piece) (r : RightNo) (t cents paid : ℕ) → places ≡ filled.places → group ≡ group_of places r → line_of pieces ≡ line filled
    → cents ≡ count_by (is_of_group group) (take t (line_of pieces)) → paid ≡ share_in_group group r cents → paid ≡ line_pay filled r t
read_pay filled places group pieces r t cents paid same is same_line counts part =
    let whole : group ≡ group_of filled.places r = is ∙ ap (λ ps. group_of ps r) same in
    part ∙ (ap (share_in_group group r) counts ∙ (λ i. share_in_group (whole i) r (count_by (is_of_group (whole i)) (take t (same_line i)))))

-- what was read is all of the group's cents where the right stands alone
pub read_alone : (filled : Filled) (places group : List Place) (r : RightNo) (cents paid : ℕ) → places ≡ filled.places → group ≡ group_of places r → paid ≡ share_in_group group r cents → StandsAlone filled.places r → paid ≡ cents
read_alone filled places group r cents paid same is part alone =
    part ∙ lone_part group r cents (subst (λ g. IsAlone g r) (sym (is ∙ ap (λ ps. group_of ps r) same)) (alone_group filled.places r alone))
