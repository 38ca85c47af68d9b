-- The exchanges of a right stand in a front of its entries, as many as there are.
use Rattle.std.proofs.Common.{◌≡◌, ℕ, zero, suc, ◌≤◌, nat_lt, Bool, true, false, cond, List, [], ◌∷◌, Option, Some, None, filter, filter_map, length, drop, take, refl, sym, ap, ◌∙◌, arith}
use Rattle.std.specs.List.{cons_option}
use Rattle.std.proofs.lemmas.Bool.{false≢true}
use Rattle.std.proofs.lemmas.List.Sums.{length-filter}
use Rattle.gb_base.specs.RightNo.{RightNo}
use Rattle.gb_base.specs.declared.keys.Key.{Key}
use Rattle.gb_base.specs.declared.keys.Key.TheVariants.{Right}
use Rattle.folio_sections.specs.Fronts.{below}
use Rattle.folio_sections.specs.Rights.{exchanges, is_exchange}
use Rattle.folio_sections.specs.declared.entries.Entry.{Entry}
use Rattle.folio_sections.specs.declared.entries.What.{What}
use Rattle.folio_sections.specs.declared.entries.What.TheVariants as what
use Rattle.folio_line.specs.Exchanges.{rise_by}
use Rattle.folio_line.specs.FolioLine.{rises_of}
use Rattle.folio_line.specs.FolioReading.{read_at}

-- where a front has all that pass, none passes behind it
none_left : {X : Type 0} (xs : List X) → length xs ≤ 0 → xs ≡ []
none_left [] few = refl
none_left (x ∷ xs) few = grind (arith, few)

pub front_has_all : {X : Type 0} (p : X → Bool) (i : ℕ) (xs : List X) → length (filter p (drop i xs)) ≤ 0 → filter p (take i xs) ≡ filter p xs
front_has_all p zero xs few = sym (none_left (filter p xs) few)
front_has_all p (suc i) [] few = refl
front_has_all p (suc i) (x ∷ xs) few =
    elim (p x) as (λ b. cond b (x ∷ filter p (take i xs)) (filter p (take i xs)) ≡ cond b (x ∷ filter p xs) (filter p xs)) [
      | true ↦ ap (λ ys. x ∷ ys) (front_has_all p i xs few)
      | false ↦ front_has_all p i xs few
    ]

-- a filter leaves no more that pass
fewer_below : {X : Type 0} (p q : X → Bool) (xs : List X) → length (filter p (filter q xs)) ≤ length (filter p xs)
fewer_below p q [] = omega arith
fewer_below p q (x ∷ xs) =
    let rest : length (filter p (filter q xs)) ≤ length (filter p xs) = fewer_below p q xs in
    elim (q x) as (λ b. length (filter p (cond b (x ∷ filter q xs) (filter q xs))) ≤ length (filter p (x ∷ xs))) [
      | true ↦ elim (p x) as (λ b. length (cond b (x ∷ filter p (filter q xs)) (filter p (filter q xs))) ≤ length (cond b (x ∷ filter p xs) (filter p xs))) [ true ↦ omega (arith, rest) | false ↦ rest ]
      | false ↦ elim (p x) as (λ b. length (filter p (filter q xs)) ≤ length (cond b (x ∷ filter p xs) (filter p xs))) [ true ↦ omega (arith, rest) | false ↦ rest ]
    ]

-- no reading of entries has more exchanges than they have
pub fewer_read : (before : Option ℕ) (entries : List Entry) (k : Key) → exchanges (read_at before (λ _. entries) k) ≤ exchanges entries
fewer_read None entries k = omega arith
fewer_read (Some n) entries k =
    let p = λ (e : Entry). is_exchange e.what in
    let all : length (filter p entries) ≡ exchanges entries = length-filter p entries in
    let front : length (filter p (below n entries)) ≡ exchanges (below n entries) = length-filter p (below n entries) in
    let few : length (filter p (below n entries)) ≤ length (filter p entries) = fewer_below p (λ e. nat_lt e.receipt n) entries in
    omega (arith, all, front, few)

-- no right rises by a content that is no exchange
rises_by_none : (right : RightNo) (n : ℕ) (w : What) → is_exchange w ≡ false → rise_by right n w ≡ None
rises_by_none right n (what.Exchanged recede rise act) is = absurd (false≢true (sym is))
rises_by_none right n other is = refl

-- what a right rises by stands among the exchanges
pub rises_there : (right : RightNo) (entries : List Entry)
    → filter_map (λ e. rise_by right e.receipt e.what) (filter (λ e. is_exchange e.what) entries) ≡ filter_map (λ e. rise_by right e.receipt e.what) entries
rises_there right [] = refl
rises_there right (e ∷ entries) =
    let f = λ (d : Entry). rise_by right d.receipt d.what in
    elim (is_exchange e.what) as (λ b. is_exchange e.what ≡ b
    → filter_map f (cond b (e ∷ filter (λ d. is_exchange d.what) entries) (filter (λ d. is_exchange d.what) entries)) ≡ cons_option (f e) (filter_map f entries)) [
      | true ↦ λ _. ap (cons_option (f e)) (rises_there right entries)
      | false ↦ λ is. rises_there right entries ∙ sym (ap (λ o. cons_option o (filter_map f entries)) (rises_by_none right e.receipt e.what is))
    ] refl

-- what a right rises by, as a front that has all of the exchanges says it
pub rises_ahead : (at : Key → List Entry) (folio : ℕ) (right : RightNo) (front entries : List Entry) → filter (λ e. is_exchange e.what) front ≡ filter (λ e. is_exchange e.what) entries
    → entries ≡ at (Right folio right) → filter_map (λ e. rise_by right e.receipt e.what) front ≡ rises_of at folio right
rises_ahead at folio right front entries same there =
    let rises = λ (es : List Entry). filter_map (λ e. rise_by right e.receipt e.what) es in
    sym (rises_there right front) ∙ ap rises same ∙ rises_there right entries ∙ ap rises there
