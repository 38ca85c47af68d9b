-- Where places ascend and name the divisions of their filings' rights, rank is the order of filing and group.
use Rattle.std.proofs.Common.{◌≡◌, ℕ, ◌<◌, ◌≤◌, Bool, true, false, cond, eqb, nat_lt, nat_le, ◌&&◌, ◌||◌, ◌==◌, if◌then◌else◌, List, IfSome, IsSomeAnd, Option, Some, None, fold, option_and_then, refl, sym, ap, ◌∙◌, ⊎_elim, arith}
use Rattle.std.specs.List.{before_first}
use Rattle.std.specs.Option.{option_map_or}
use Rattle.std.proofs.lemmas.Bool.{and_right, cases_eq, cases_lt, eq-eqb, eqb-true, false≢true, or_left, or_right, true≢false}
use Rattle.std.proofs.lemmas.Bool.Decides.{nat_tests}
use Rattle.folio_sections.specs.Places.{behind, behind_by, own_place}
use Rattle.kept_registers.specs.Ranks.{Ranked, are_of_one_day, is_ahead, is_behind, is_filed_ahead, is_of_earlier_day, is_placed_ahead, places_are, same_division}
use Rattle.folio_sections.specs.declared.title_places.TitlePlace.{TitlePlace}
use Rattle.kept_registers.proofs.PlaceOrder.{Ascends, ahead, ahead_is, ascends_ahead, days_rise, earlier_ahead, found_earlier, found_own, is_other, own_ahead, placed_ahead_is}

-- the place is one for the right's own division
abbrev pub is_of_own : Bool → TitlePlace → Bool
is_of_own third p = if third then p.third else p.second

-- what filing n's right stands behind
behind_is : (third : Bool) (n : ℕ) (ps : List TitlePlace) (q : TitlePlace) → own_place n ps ≡ Some q → behind third n ps ≡ fold (behind_by third q.day) None (ahead n ps)
behind_is third n ps q second =
    ap (option_and_then (λ own. fold (behind_by third own.day) None (before_first (λ p. p.filing == n) ps))) second
    ∙ ap (fold (behind_by third q.day) None) (ahead_is n ps)

or_none : (b : Bool) → (b || false) ≡ b
or_none true = refl
or_none false = refl

at_least : (m : ℕ) (o : Option ℕ) → IsSomeAnd o (λ k. m ≤ k) → option_map_or (λ k. nat_le m k) o false ≡ true
at_least m None h = absurd h
at_least m (Some k) h = grind (arith, nat_tests, h)

none_from : (m n : ℕ) (o : Option ℕ) → n < m → IfSome o (λ k. k < n) → option_map_or (λ k. nat_le m k) o false ≡ false
none_from m n None less h = refl
none_from m n (Some k) less h = grind (arith, nat_tests, h, less)

-- a right of a later filing stands behind filing m of the other division on its day, or behind a later one
behind_earlier : (third : Bool) (m n : ℕ) (ps : List TitlePlace) (p q : TitlePlace) → Ascends ps → own_place m ps ≡ Some p → own_place n ps ≡ Some q → m < n → is_other third q.day p ≡ true
    → option_map_or (λ k. nat_le m k) (behind third n ps) false ≡ true
behind_earlier third m n ps p q up first second less other =
    ap (λ o. option_map_or (λ k. nat_le m k) o false) (behind_is third n ps q second)
    ∙ at_least m (fold (behind_by third q.day) None (ahead n ps))
    (found_own third q.day m None (ahead n ps) p (ascends_ahead n ps up) (own_ahead m n ps p up first less) other)

-- a right of an earlier filing stands behind neither filing m nor a later one
behind_later : (third : Bool) (m n : ℕ) (ps : List TitlePlace) (q : TitlePlace) → Ascends ps → own_place n ps ≡ Some q → n < m → option_map_or (λ k. nat_le m k) (behind third n ps) false ≡ false
behind_later third m n ps q up second less =
    ap (λ o. option_map_or (λ k. nat_le m k) o false) (behind_is third n ps q second)
    ∙ none_from m n (fold (behind_by third q.day) None (ahead n ps)) less
    (found_earlier third q.day n None (ahead n ps) (earlier_ahead n ps q up second) tt)

both_places : (test : TitlePlace → TitlePlace → Bool) (m n : ℕ) (ps : List TitlePlace) (p q : TitlePlace) → own_place m ps ≡ Some p → own_place n ps ≡ Some q → places_are test ps m n ≡ test p q
both_places test m n ps p q first second =
    λ i. option_map_or (λ r. option_map_or (test r) (second i) false) (first i) false

-- where two rights are of different divisions, a place for the first one's is of the other division than the second one's
other_division : (first second : Bool) (p : TitlePlace) → same_division first second ≡ false → is_of_own first p ≡ true → (if second then p.second else p.third) ≡ true
other_division true true p apart own = absurd (true≢false apart)
other_division true false p apart own = own
other_division false true p apart own = own
other_division false false p apart own = absurd (true≢false apart)

-- in different divisions the earlier filing is ahead
earlier_or_behind : (ps : List TitlePlace) (m : ℕ) (first : Bool) (y : Ranked) (p q : TitlePlace) → Ascends ps → own_place m ps ≡ Some p → own_place y.filing ps ≡ Some q → (m ≡ y.filing → ⊥)
    → same_division first y.third ≡ false → is_of_own first p ≡ true
    → (is_of_earlier_day ps m y.filing || (are_of_one_day ps m y.filing && is_behind ps m y)) ≡ nat_lt m y.filing
earlier_or_behind ps m first y p q up here there other apart own =
    let n = y.filing in
    let earlier = both_places (λ r s. nat_lt r.day s.day) m n ps p q here there in
    let one = both_places (λ r s. r.day == s.day) m n ps p q here there in
    (λ i. earlier i || (one i && is_behind ps m y))
    ∙ ⊎_elim
    (λ less.
    let day = days_rise m n ps p q up here there less in
    ⊎_elim
    (λ same.
    let same_day : eqb p.day q.day ≡ true = eq-eqb p.day q.day same in
    let passes : is_other y.third q.day p ≡ true = (λ i. same_day i && other_division first y.third p apart own i) in
    let is_so : is_behind ps m y ≡ true = behind_earlier y.third m n ps p q up here there less passes in
    or_right (nat_lt p.day q.day) (eqb p.day q.day && is_behind ps m y) (λ i. same_day i && is_so i) ∙ sym (grind (arith, nat_tests, less)))
    (λ differs. or_left (nat_lt p.day q.day) (eqb p.day q.day && is_behind ps m y) (grind (arith, nat_tests, day, differs)) ∙ sym (grind (arith, nat_tests, less)))
    (cases_eq p.day q.day))
    (λ not_less.
    let more : n < m = omega arith in
    let day = days_rise n m ps q p up there here more in
    let not_earlier : nat_lt p.day q.day ≡ false = grind (arith, nat_tests, day) in
    let not_behind : is_behind ps m y ≡ false = behind_later y.third m n ps q up there more in
    (λ i. not_earlier i || (eqb p.day q.day && not_behind i)) ∙ and_right (eqb p.day q.day) false refl ∙ sym (grind (arith, nat_tests, more)))
    (cases_lt m n)

-- Where each of two filings has a place that names its right's division, rank is the order of filing and group.
pub rank_is_order : (ps : List TitlePlace) (x y : Ranked) (p q : TitlePlace) → Ascends ps → own_place x.filing ps ≡ Some p → own_place y.filing ps ≡ Some q → is_of_own x.third p ≡ true
    → is_ahead ps x y ≡ is_filed_ahead x y
rank_is_order ps x y p q up here there own =
    elim (eqb x.filing y.filing) as (λ b. eqb x.filing y.filing ≡ b
    → cond b (nat_lt x.group y.group) (cond (same_division x.third y.third) (is_placed_ahead ps x.filing y.filing) (is_of_earlier_day ps x.filing y.filing || (are_of_one_day ps x.filing y.filing && is_behind ps x.filing y)))
    ≡ (nat_lt x.filing y.filing || (b && nat_lt x.group y.group))) [
      | true ↦ λ same.
          let not_less : nat_lt x.filing y.filing ≡ false = grind (arith, nat_tests, eqb-true x.filing y.filing same) in
          ap (λ b. b || nat_lt x.group y.group) (sym not_less)
      | false ↦ λ other.
          elim (same_division x.third y.third) as (λ d. same_division x.third y.third ≡ d
          → cond d (is_placed_ahead ps x.filing y.filing) (is_of_earlier_day ps x.filing y.filing || (are_of_one_day ps x.filing y.filing && is_behind ps x.filing y))
          ≡ (nat_lt x.filing y.filing || false)) [
            | true ↦ λ one. placed_ahead_is x.filing y.filing ps p q up here there ∙ sym (or_none (nat_lt x.filing y.filing))
            | false ↦ λ apart.
                earlier_or_behind ps x.filing x.third y p q up here there (λ e. false≢true (sym other ∙ eq-eqb x.filing y.filing e)) apart own
                ∙ sym (or_none (nat_lt x.filing y.filing))
          ] refl
    ] refl
