-- Places in ascending order of their filings and days: which stand ahead of a filing's own, and which a right stands behind.
use Rattle.std.proofs.Common.{◌≡◌, ℕ, ◌+◌, ◌<◌, ◌≤◌, Bool, true, false, cond, eqb, not, nat_lt, ◌&&◌, ◌||◌, ◌==◌, if◌then◌else◌, List, [], ◌∷◌, suc, take, IfSome, IsSomeAnd, Option, Some, fold, refl, sym, ap, subst, ◌∙◌, arith}
use Rattle.std.specs.List.{AllByRecursion, before_first, list_any, position_or_len}
use Rattle.std.proofs.lemmas.Bool.{eqb-true}
use Rattle.std.proofs.lemmas.Bool.Decides.{nat_tests}
use Rattle.folio_sections.specs.Places.{behind_by, own_place}
use Rattle.kept_registers.specs.Ranks.{is_placed_ahead}
use Rattle.folio_sections.specs.declared.title_places.TitlePlace.{TitlePlace}

-- the second place is of a later filing, and of no earlier day
abbrev pub IsLater : TitlePlace → TitlePlace → Type 0
IsLater p q = (p.filing < q.filing) × (p.day ≤ q.day)

-- each place is later than those ahead of it
abbrev pub Ascends : List TitlePlace → Type 0
Ascends [] = Unit {0}
Ascends (p ∷ ps) = AllByRecursion (IsLater p) ps × Ascends ps

-- ---- the place of a filing

-- the place of filing m has what each place has
pub own_has : (P : TitlePlace → Type 0) (m : ℕ) (ps : List TitlePlace) (p : TitlePlace) → AllByRecursion P ps → own_place m ps ≡ Some p → P p × (p.filing ≡ m)
own_has P m [] p all is = absurd (cc is)
own_has P m (o ∷ ps) p all is =
    elim (eqb o.filing m) as (λ b. eqb o.filing m ≡ b → cond b (Some o) (own_place m ps) ≡ Some p → P p × (p.filing ≡ m)) [
      | true ↦ λ here found. let same : o ≡ p = cc found in subst (λ z. P z × (z.filing ≡ m)) same (all.0, eqb-true o.filing m here)
      | false ↦ λ other found. own_has P m ps p all.1 found
    ] refl is

-- the place of filing m is the first one, or later than the first
not_before_first : (m : ℕ) (o : TitlePlace) (ps : List TitlePlace) (p : TitlePlace) → AllByRecursion (IsLater o) ps → own_place m (o ∷ ps) ≡ Some p → (o.filing ≤ m) × (o.day ≤ p.day)
not_before_first m o ps p later is =
    elim (eqb o.filing m) as (λ b. eqb o.filing m ≡ b → cond b (Some o) (own_place m ps) ≡ Some p → (o.filing ≤ m) × (o.day ≤ p.day)) [
      | true ↦ λ here found.
          let same : o.day ≡ p.day = cc found in
          let own = eqb-true o.filing m here in (omega arith, omega arith)
      | false ↦ λ other found.
          let h = own_has (IsLater o) m ps p later found in
          let less = h.0.0 in let day = h.0.1 in let own = h.1 in (omega arith, omega arith)
    ] refl is

-- the place of an earlier filing is of no later day
pub days_rise : (m n : ℕ) (ps : List TitlePlace) (p q : TitlePlace) → Ascends ps → own_place m ps ≡ Some p → own_place n ps ≡ Some q → m < n → p.day ≤ q.day
days_rise m n [] p q up first second less = absurd (cc first)
days_rise m n (o ∷ ps) p q up first second less =
    elim (eqb o.filing m) as (λ b. eqb o.filing m ≡ b → cond b (Some o) (own_place m ps) ≡ Some p → p.day ≤ q.day) [
      | true ↦ λ here found.
          let same : o.day ≡ p.day = cc found in
          let day = (not_before_first n o ps q up.0 second).1 in omega arith
      | false ↦ λ other found.
          elim (eqb o.filing n) as (λ b. eqb o.filing n ≡ b → cond b (Some o) (own_place n ps) ≡ Some q → p.day ≤ q.day) [
            | true ↦ λ here also.
                let own = eqb-true o.filing n here in
                let low = (not_before_first m o ps p up.0 first).0 in absurd (omega arith)
            | false ↦ λ no also. days_rise m n ps p q up.1 found also less
          ] refl second
    ] refl first

-- ---- the places ahead of a filing's own

-- the places ahead of filing n's own
abbrev pub ahead : ℕ → List TitlePlace → List TitlePlace
ahead n [] = []
ahead n (o ∷ ps) = if o.filing == n then [] else (o ∷ ahead n ps)

pub ahead_is : (n : ℕ) (ps : List TitlePlace) → before_first (λ p. p.filing == n) ps ≡ ahead n ps
ahead_is n [] = refl
ahead_is n (o ∷ ps) =
    let k = position_or_len (λ (p : TitlePlace). p.filing == n) ps in
    let next : 1 + k ≡ suc k = omega arith in
    elim (eqb o.filing n) as (λ b. take (cond (not b) (1 + k) 0) (o ∷ ps) ≡ cond b [] (o ∷ ahead n ps)) [
      | true ↦ refl
      | false ↦ subst (λ j. take j (o ∷ ps) ≡ o ∷ ahead n ps) (sym next) (ap (λ qs. o ∷ qs) (ahead_is n ps))
    ]

-- one of them is of filing m exactly where m is the earlier filing
one_ahead : (m n : ℕ) (ps : List TitlePlace) (p q : TitlePlace) → Ascends ps → own_place m ps ≡ Some p → own_place n ps ≡ Some q → list_any (λ r. r.filing == m) (ahead n ps) ≡ nat_lt m n
one_ahead m n [] p q up first second = absurd (cc first)
one_ahead m n (o ∷ ps) p q up first second =
    elim (eqb o.filing n) as (λ b. eqb o.filing n ≡ b → cond b (Some o) (own_place n ps) ≡ Some q → list_any (λ r. r.filing == m) (cond b [] (o ∷ ahead n ps)) ≡ nat_lt m n) [
      | true ↦ λ here also.
          let own = eqb-true o.filing n here in
          let low = (not_before_first m o ps p up.0 first).0 in grind (arith, nat_tests, own, low)
      | false ↦ λ no also.
          elim (eqb o.filing m) as (λ c. eqb o.filing m ≡ c → cond c (Some o) (own_place m ps) ≡ Some p → (c || list_any (λ r. r.filing == m) (ahead n ps)) ≡ nat_lt m n) [
            | true ↦ λ here found.
                let own = eqb-true o.filing m here in
                let h = own_has (IsLater o) n ps q up.0 also in
                let less = h.0.0 in let theirs = h.1 in grind (arith, nat_tests, own, less, theirs)
            | false ↦ λ other found. one_ahead m n ps p q up.1 found also
          ] refl first
    ] refl second

pub placed_ahead_is : (m n : ℕ) (ps : List TitlePlace) (p q : TitlePlace) → Ascends ps → own_place m ps ≡ Some p → own_place n ps ≡ Some q → is_placed_ahead ps m n ≡ nat_lt m n
placed_ahead_is m n ps p q up first second = ap (list_any (λ (r : TitlePlace). r.filing == m)) (ahead_is n ps) ∙ one_ahead m n ps p q up first second

all_ahead : (P : TitlePlace → Type 0) (n : ℕ) (ps : List TitlePlace) → AllByRecursion P ps → AllByRecursion P (ahead n ps)
all_ahead P n [] all = tt
all_ahead P n (o ∷ ps) all =
    elim (eqb o.filing n) as (λ b. AllByRecursion P (cond b [] (o ∷ ahead n ps))) [
      | true ↦ tt
      | false ↦ (all.0, all_ahead P n ps all.1)
    ]

pub ascends_ahead : (n : ℕ) (ps : List TitlePlace) → Ascends ps → Ascends (ahead n ps)
ascends_ahead n [] up = tt
ascends_ahead n (o ∷ ps) up =
    elim (eqb o.filing n) as (λ b. Ascends (cond b [] (o ∷ ahead n ps))) [
      | true ↦ tt
      | false ↦ (all_ahead (IsLater o) n ps up.0, ascends_ahead n ps up.1)
    ]

-- the places ahead of filing n's own are of earlier filings
pub earlier_ahead : (n : ℕ) (ps : List TitlePlace) (q : TitlePlace) → Ascends ps → own_place n ps ≡ Some q → AllByRecursion (λ p. p.filing < n) (ahead n ps)
earlier_ahead n [] q up second = tt
earlier_ahead n (o ∷ ps) q up second =
    elim (eqb o.filing n) as (λ b. eqb o.filing n ≡ b → cond b (Some o) (own_place n ps) ≡ Some q → AllByRecursion (λ p. p.filing < n) (cond b [] (o ∷ ahead n ps))) [
      | true ↦ λ here found. tt
      | false ↦ λ other found.
          let h = own_has (IsLater o) n ps q up.0 found in
          let less = h.0.0 in let own = h.1 in (omega arith, earlier_ahead n ps q up.1 found)
    ] refl second

-- the place of an earlier filing is among those ahead
pub own_ahead : (m n : ℕ) (ps : List TitlePlace) (p : TitlePlace) → Ascends ps → own_place m ps ≡ Some p → m < n → own_place m (ahead n ps) ≡ Some p
own_ahead m n [] p up first less = first
own_ahead m n (o ∷ ps) p up first less =
    elim (eqb o.filing n) as (λ b. eqb o.filing n ≡ b → own_place m (cond b [] (o ∷ ahead n ps)) ≡ Some p) [
      | true ↦ λ here.
          let own = eqb-true o.filing n here in
          let low = (not_before_first m o ps p up.0 first).0 in absurd (omega arith)
      | false ↦ λ other.
          elim (eqb o.filing m) as (λ c. cond c (Some o) (own_place m ps) ≡ Some p → cond c (Some o) (own_place m (ahead n ps)) ≡ Some p) [
            | true ↦ λ found. found
            | false ↦ λ found. own_ahead m n ps p up.1 found less
          ] first
    ] refl

-- ---- what a right stands behind

-- the place is of this day, and of the other division
abbrev pub is_other : Bool → ℕ → TitlePlace → Bool
is_other third day p = p.day == day && (if third then p.second else p.third)

-- among places of filings before n, only such a filing is found
pub found_earlier : (third : Bool) (day n : ℕ) (before : Option ℕ) (ps : List TitlePlace) → AllByRecursion (λ p. p.filing < n) ps → IfSome before (λ k. k < n) → IfSome (fold (behind_by third day) before ps) (λ k. k < n)
found_earlier third day n before [] less old = old
found_earlier third day n before (o ∷ ps) less old =
    found_earlier third day n (behind_by third day before o) ps less.1
    (elim (is_other third day o) as (λ b. IfSome (cond b (Some o.filing) before) (λ k. k < n)) [
      | true ↦ less.0
      | false ↦ old
    ])

-- once filing m or a later one is found, what is found last is one of these too
found_stays : (third : Bool) (day m : ℕ) (before : Option ℕ) (ps : List TitlePlace) → AllByRecursion (λ p. m < p.filing) ps → IsSomeAnd before (λ k. m ≤ k) → IsSomeAnd (fold (behind_by third day) before ps) (λ k. m ≤ k)
found_stays third day m before [] later old = old
found_stays third day m before (o ∷ ps) later old =
    let less : m < o.filing = later.0 in
    found_stays third day m (behind_by third day before o) ps later.1
    (elim (is_other third day o) as (λ b. IsSomeAnd (cond b (Some o.filing) before) (λ k. m ≤ k)) [
      | true ↦ omega arith
      | false ↦ old
    ])

all_behind : (m : ℕ) (o : TitlePlace) (ps : List TitlePlace) → o.filing ≡ m → AllByRecursion (IsLater o) ps → AllByRecursion (λ p. m < p.filing) ps
all_behind m o [] own later = tt
all_behind m o (p ∷ ps) own later = (subst (λ k. k < p.filing) own later.0.0, all_behind m o ps own later.1)

-- filing m's place of the other division is found, or a later one
pub found_own : (third : Bool) (day m : ℕ) (before : Option ℕ) (ps : List TitlePlace) (p : TitlePlace) → Ascends ps → own_place m ps ≡ Some p → is_other third day p ≡ true
    → IsSomeAnd (fold (behind_by third day) before ps) (λ k. m ≤ k)
found_own third day m before [] p up first other = absurd (cc first)
found_own third day m before (o ∷ ps) p up first other =
    elim (eqb o.filing m) as (λ b. eqb o.filing m ≡ b → cond b (Some o) (own_place m ps) ≡ Some p → IsSomeAnd (fold (behind_by third day) before (o ∷ ps)) (λ k. m ≤ k)) [
      | true ↦ λ here found.
          let same : o ≡ p = cc found in
          let own = eqb-true o.filing m here in
          let passes : is_other third day o ≡ true = ap (is_other third day) same ∙ other in
          let is : behind_by third day before o ≡ Some o.filing = ap (λ b. cond b (Some o.filing) before) passes in
          found_stays third day m (behind_by third day before o) ps (all_behind m o ps own up.0)
          (subst (λ f. IsSomeAnd f (λ k. m ≤ k)) (sym is) (omega arith))
      | false ↦ λ no found. found_own third day m (behind_by third day before o) ps p up.1 found other
    ] refl first
