-- The first of some groups, and those behind it.
use Rattle.std.proofs.Common.{◌≡◌, ℕ, ◌+◌, Bool, true, false, cond, List, [], ◌∷◌, Some, drop, find, refl, take, sym, suc, ap, arith, ◌∙◌}
use Rattle.std.specs.List.{list_any, prefix_len}
use Rattle.std.specs.Option.{option_map_or}
use Rattle.gb_base.specs.RightNo.{RightNo}
use Rattle.rank_slots.specs.Groups.{group_of, groups, is_of, with_first}
use Rattle.rank_slots.specs.declared.places.Place.{Place}

-- how many places at the front join the one before them
abbrev joining : List Place → ℕ
joining ps = prefix_len (λ p. p.with_previous) ps

-- one more place, where it joins the ones behind it, and where it does not
longer : (b : Bool) (p q : Place) (qs : List Place) → q.with_previous ≡ b
    → groups (q ∷ qs) ≡ (q ∷ take (joining qs) qs) ∷ groups (drop (joining qs) qs)
    → groups (p ∷ q ∷ qs) ≡ (p ∷ take (joining (q ∷ qs)) (q ∷ qs)) ∷ groups (drop (joining (q ∷ qs)) (q ∷ qs))
longer true p q qs joins rest =
    let n = joining qs in
    let more : 1 + n ≡ suc n = omega arith in
    (λ i. cond (joins i) (with_first p (groups (q ∷ qs))) ((p ∷ []) ∷ groups (q ∷ qs)))
    ∙ ap (with_first p) rest
    ∙ sym ((λ i. (p ∷ take (cond (joins i) (1 + n) 0) (q ∷ qs)) ∷ groups (drop (cond (joins i) (1 + n) 0) (q ∷ qs)))
    ∙ (λ i. (p ∷ take (more i) (q ∷ qs)) ∷ groups (drop (more i) (q ∷ qs))))
longer false p q qs joins rest =
    let n = joining qs in
    (λ i. cond (joins i) (with_first p (groups (q ∷ qs))) ((p ∷ []) ∷ groups (q ∷ qs)))
    ∙ sym (λ i. (p ∷ take (cond (joins i) (1 + n) 0) (q ∷ qs)) ∷ groups (drop (cond (joins i) (1 + n) 0) (q ∷ qs)))

-- the first group is the first place and those that join it
groups_split : (p : Place) (ps : List Place) → groups (p ∷ ps) ≡ (p ∷ take (joining ps) ps) ∷ groups (drop (joining ps) ps)
groups_split p [] = refl
groups_split p (q ∷ qs) = longer q.with_previous p q qs refl (groups_split q qs)

-- the group of a right is the first one, or one of those behind it
first_or_behind : (right : RightNo) (p : Place) (ps : List Place) → group_of (p ∷ ps) right ≡ option_map_or (λ g. g) (find (list_any (is_of right)) ((p ∷ take (joining ps) ps) ∷ groups (drop (joining ps) ps))) []
first_or_behind right p ps = ap (λ gs. option_map_or (λ g. g) (find (list_any (is_of right)) gs) []) (groups_split p ps)

-- where the first group has the right
pub group_found : (right : RightNo) (rest behind first : List Place) (p : Place) (n : ℕ) → rest ≡ p ∷ behind → n ≡ joining behind → first ≡ take (1 + n) rest
    → list_any (is_of right) first ≡ true → group_of rest right ≡ first
group_found right rest behind first p n split many front has =
    let more : 1 + n ≡ suc n = omega arith in
    let is : first ≡ p ∷ take (joining behind) behind = front ∙ (λ i. take (more i) (split i)) ∙ ap (λ k. p ∷ take k behind) many in
    ap (λ ps. group_of ps right) split
    ∙ first_or_behind right p behind
    ∙ ap (λ g. option_map_or (λ h. h) (find (list_any (is_of right)) (g ∷ groups (drop (joining behind) behind))) []) (sym is)
    ∙ (λ i. option_map_or (λ h. h) (cond (has i) (Some first) (find (list_any (is_of right)) (groups (drop (joining behind) behind)))) [])

-- where the first group does not have the right
pub group_behind : (right : RightNo) (rest behind first others : List Place) (p : Place) (n : ℕ) → rest ≡ p ∷ behind → n ≡ joining behind → first ≡ take (1 + n) rest → others ≡ drop (1 + n) rest
    → list_any (is_of right) first ≡ false → group_of rest right ≡ group_of others right
group_behind right rest behind first others p n split many front back lacks =
    let more : 1 + n ≡ suc n = omega arith in
    let is : first ≡ p ∷ take (joining behind) behind = front ∙ (λ i. take (more i) (split i)) ∙ ap (λ k. p ∷ take k behind) many in
    let left : others ≡ drop (joining behind) behind = back ∙ (λ i. drop (more i) (split i)) ∙ ap (λ k. drop k behind) many in
    ap (λ ps. group_of ps right) split
    ∙ first_or_behind right p behind
    ∙ ap (λ g. option_map_or (λ h. h) (find (list_any (is_of right)) (g ∷ groups (drop (joining behind) behind))) []) (sym is)
    ∙ (λ i. option_map_or (λ h. h) (cond (lacks i) (Some first) (find (list_any (is_of right)) (groups (drop (joining behind) behind)))) [])
    ∙ ap (λ ps. group_of ps right) (sym left)
