-- The rights filed before a receipt, and the exchanges by which one of them rises, are no more than those before a later receipt.
use Rattle.std.proofs.Common.{◌≡◌, ℕ, zero, suc, ◌≤◌, nat_lt, Bool, true, false, cond, List, [], ◌∷◌, filter, filter_map, flat_map, length, take, Option, Some, None, refl, sym, subst, arith}
use Rattle.std.specs.List.{cons_option}
use Rattle.std.proofs.lemmas.Bool.Decides.{nat_tests}
use Rattle.std.proofs.lemmas.List.{length-append}
use Rattle.gb_base.specs.RightNo.{RightNo, same_right}
use Rattle.gb_base.specs.declared.keys.Key.{Key}
use Rattle.gb_base.specs.declared.keys.Key.TheVariants.{Right}
use Rattle.act_model.specs.Creations.{creations_in}
use Rattle.act_model.specs.Limits.{most_creations}
use Rattle.act_model.specs.SaleKeys.{earlier_rights}
use Rattle.act_model.specs.declared.receipts.Receipt.{Receipt}
use Rattle.folio_sections.specs.Fronts.{below}
use Rattle.folio_sections.specs.declared.entries.Entry.{Entry}
use Rattle.folio_sections.proofs.FilteredLists.{any_in, in_filter, of_any, of_filter}
use Rattle.folio_line.specs.AllRights.{is_among, rights_filed}
use Rattle.folio_line.specs.Exchanges.{rise_by}
use Rattle.folio_line.specs.FolioLine.{all_rises, rises_of}
use Rattle.folio_line.specs.FolioReading.{read_at, where_held}
use Rattle.folio_line.specs.declared.exchanges.Exchange.{Exchange}
use Rattle.folio_line.proofs.LineRoom.{filter_few}

-- a number below n is below each a that is not below n
less_on : (n a : ℕ) → n ≤ a → (id : RightNo) → nat_lt id.receipt n ≡ true → nat_lt id.receipt a ≡ true
less_on n a within id less = grind (arith, nat_tests, within, less)

-- a right that was filed before a receipt was filed before a later one
pub filed_earlier : (journal : List Receipt) (folio n a : ℕ) → n ≤ a → (id : RightNo) → is_among (rights_filed (Some n) journal folio) id ≡ true → is_among (earlier_rights journal a folio) id ≡ true
filed_earlier journal folio n a within id among =
    let first = take most_creations (creations_in journal folio) in
    let from = of_any (same_right id) (rights_filed (Some n) journal folio) among in
    let own = of_filter (λ (k : RightNo). nat_lt k.receipt n) first from.0 from.1 in
    any_in (same_right id) (earlier_rights journal a folio) from.0
    (in_filter (λ (k : RightNo). nat_lt k.receipt a) first from.0 own.0 (less_on n a within from.0 own.1)) from.2

-- what is made of those that pass a narrower test is no more than what is made of those that pass the wider one
less_made : {X Y Z : Type 0} (p q : X → Bool) (g : X → List Y) (h : X → List Z) (xs : List X) → ((x : X) → p x ≡ true → q x ≡ true) → ((x : X) → length (g x) ≤ length (h x))
    → length (flat_map g (filter p xs)) ≤ length (flat_map h (filter q xs))
less_made p q g h [] less few = omega arith
less_made {X} {Y} {Z} p q g h (x ∷ xs) less few =
    let rest = less_made p q g h xs less few in
    let here = few x in
    let left = length-append (g x) (flat_map g (filter p xs)) in
    let right = length-append (h x) (flat_map h (filter q xs)) in
    elim (p x) as (λ b. p x ≡ b → length (flat_map g (cond b (x ∷ filter p xs) (filter p xs))) ≤ length (flat_map h (cond (q x) (x ∷ filter q xs) (filter q xs)))) [
      | true ↦ λ is. subst (λ c. length (flat_map g (x ∷ filter p xs)) ≤ length (flat_map h (cond c (x ∷ filter q xs) (filter q xs)))) (sym (less x is)) (omega (arith, rest, here, left, right))
      | false ↦ λ _.
          elim (q x) as (λ c. length (flat_map g (filter p xs)) ≤ length (flat_map h (cond c (x ∷ filter q xs) (filter q xs)))) [
            | true ↦ omega (arith, rest, right)
            | false ↦ rest
          ]
    ] refl

-- no more pass a narrower test than a wider one
filter_less : {X : Type 0} (p q : X → Bool) (xs : List X) → ((x : X) → p x ≡ true → q x ≡ true) → length (filter p xs) ≤ length (filter q xs)
filter_less p q [] less = omega arith
filter_less p q (x ∷ xs) less =
    let rest = filter_less p q xs less in
    elim (p x) as (λ b. p x ≡ b → length (cond b (x ∷ filter p xs) (filter p xs)) ≤ length (cond (q x) (x ∷ filter q xs) (filter q xs))) [
      | true ↦ λ is. subst (λ c. length (x ∷ filter p xs) ≤ length (cond c (x ∷ filter q xs) (filter q xs))) (sym (less x is)) (omega (arith, rest))
      | false ↦ λ _.
          elim (q x) as (λ c. length (filter p xs) ≤ length (cond c (x ∷ filter q xs) (filter q xs))) [ true ↦ omega (arith, rest) | false ↦ rest ]
    ] refl

pub filed_few : (journal : List Receipt) (folio n a : ℕ) → n ≤ a → length (rights_filed (Some n) journal folio) ≤ length (earlier_rights journal a folio)
filed_few journal folio n a within = filter_less (λ (k : RightNo). nat_lt k.receipt n) (λ (k : RightNo). nat_lt k.receipt a) (take most_creations (creations_in journal folio)) (less_on n a within)

taken_few : {X : Type 0} (n : ℕ) (xs : List X) → length (take n xs) ≤ n
taken_few zero xs = omega arith
taken_few (suc n) [] = omega arith
taken_few (suc n) (x ∷ xs) =
    let few = taken_few n xs in
    omega (arith, few)

-- the rights filed before a receipt are at most as many as a folio has
pub filed_at_most : (journal : List Receipt) (folio n : ℕ) → length (rights_filed (Some n) journal folio) ≤ most_creations
filed_at_most journal folio n =
    let first = take most_creations (creations_in journal folio) in
    let fewer = filter_few (λ (k : RightNo). nat_lt k.receipt n) first in
    let few = taken_few most_creations (creations_in journal folio) in
    omega (arith, fewer, few)

-- what is given of those that pass a test is no more than what is given of all
given_less : {X Y : Type 0} (f : X → Option Y) (p : X → Bool) (xs : List X) → length (filter_map f (filter p xs)) ≤ length (filter_map f xs)
given_less f p [] = omega arith
given_less f p (x ∷ xs) =
    let rest = given_less f p xs in
    elim (p x) as (λ b. length (filter_map f (cond b (x ∷ filter p xs) (filter p xs))) ≤ length (cons_option (f x) (filter_map f xs))) [
      | true ↦ elim (f x) as (λ o. length (cons_option o (filter_map f (filter p xs))) ≤ length (cons_option o (filter_map f xs))) [ None ↦ rest | Some y ↦ omega (arith, rest) ]
      | false ↦ elim (f x) as (λ o. length (filter_map f (filter p xs)) ≤ length (cons_option o (filter_map f xs))) [ None ↦ rest | Some y ↦ omega (arith, rest) ]
    ]

rises_few : (holds : Key → Bool) (at : Key → List Entry) (folio n : ℕ) (id : RightNo) → length (rises_of (read_at (Some n) (where_held holds at)) folio id) ≤ length (rises_of at folio id)
rises_few holds at folio n id =
    let k = Right folio id in
    let f : Entry → Option Exchange = λ e. rise_by id e.receipt e.what in
    elim (holds k) as (λ b. length (filter_map f (below n (cond b (at k) []))) ≤ length (filter_map f (at k))) [
      | true ↦ given_less f (λ (e : Entry). nat_lt e.receipt n) (at k)
      | false ↦ omega arith
    ]

-- so room for the exchanges of the rights filed before a receipt is enough for those of the rights filed before an earlier one
pub rises_fit : (journal : List Receipt) (holds : Key → Bool) (at : Key → List Entry) (folio n a : ℕ) → n ≤ a
    → length (all_rises (read_at (Some n) (where_held holds at)) folio (rights_filed (Some n) journal folio)) ≤ length (all_rises at folio (earlier_rights journal a folio))
rises_fit journal holds at folio n a within =
    less_made (λ (k : RightNo). nat_lt k.receipt n) (λ (k : RightNo). nat_lt k.receipt a) (rises_of (read_at (Some n) (where_held holds at)) folio) (rises_of at folio)
    (take most_creations (creations_in journal folio)) (less_on n a within) (rises_few holds at folio n)
