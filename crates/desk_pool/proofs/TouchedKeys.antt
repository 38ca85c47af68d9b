-- Of which folios some keys are, as read from the first of them and the first that is of another folio.
use Rattle.std.proofs.Common.{◌≡◌, ◌⊎◌, ⊎_elim, inl, inr, ℕ, ◌<◌, ◌≤◌, true, false, cond, ◌==◌, nat_lt, not, List, [], ◌∷◌, All, Contains, find, Some, None, refl, sym, subst, ◌∙◌, arith}
use Rattle.std.specs.List.{AllByRecursion}
use Rattle.std.proofs.lemmas.Bool.{cases_lt, eqb-false, eqb-true, not-true}
use Rattle.std.proofs.lemmas.Bool.Decides.{nat_tests}
use Rattle.std.proofs.lemmas.List.Elements.{All-contains, All-from_recursion}
use Rattle.std.proofs.lemmas.Option.{none-some}
use Rattle.gb_base.proofs.Members.{find_sound}
use Rattle.gb_base.specs.Keys.{folio_of_key}
use Rattle.gb_base.specs.declared.keys.Key.{Key}
use Rattle.act_model.proofs.KeyOrder.{in_key_order_members}
use Rattle.act_model.specs.Touches.{in_key_order}
use Rattle.folio_sections.proofs.FilteredLists.{any_in, of_any}
use Rattle.registrar.proofs.ContainedParts.{all_contained, contains_first}
use Rattle.registrar.proofs.RisingNumbers.{contains_of_in, in_of_contains}
use Rattle.desk_pool.proofs.NoKeys.{no_key}
use Rattle.desk_pool.specs.FolioQueues.{has_folio}
use Rattle.desk_pool.specs.declared.touched_folios.TouchedFolios.TheVariants as touched
use Rattle.desk_pool.specs.declared.touched_folios.TouchedFolios.{TouchedFolios}
use Rattle.desk_pool.specs.inner.TouchedFolios.{AreOfFewFolios, AreTouched}

pub has_its_folio : (keys : List Key) (key : Key) (folio : ℕ) → Contains keys key → folio ≡ folio_of_key key → has_folio keys folio ≡ true
has_its_folio keys key folio there is = any_in (λ k. folio_of_key k == folio) keys key (in_of_contains keys key there) (grind (arith, nat_tests, is))

-- ---- one folio

each_one : (keys : List Key) (folio : ℕ) → find (λ k. not (folio_of_key k == folio)) keys ≡ None → AllByRecursion (λ k. folio_of_key k ≡ folio) keys
each_one [] folio none = tt
each_one (k ∷ keys) folio none =
    elim (folio_of_key k == folio) as (λ b. (folio_of_key k == folio) ≡ b → cond (not b) (Some k) (find (λ j. not (folio_of_key j == folio)) keys) ≡ None
    → (folio_of_key k ≡ folio) × AllByRecursion (λ j. folio_of_key j ≡ folio) keys) [
      | true ↦ λ is rest. (eqb-true (folio_of_key k) folio is, each_one keys folio rest)
      | false ↦ λ other found. absurd (none-some k (sym found))
    ] refl none

pub one_touched : (keys : List Key) (key : Key) (folio : ℕ) → Contains keys key → folio ≡ folio_of_key key → find (λ k. not (folio_of_key k == folio)) keys ≡ None → AreTouched keys (touched.One folio)
one_touched keys key folio there is none = (has_its_folio keys key folio there is, All-from_recursion (λ k. folio_of_key k ≡ folio) keys (each_one keys folio none))

-- ---- two folios

all_so : (P : Key → Type 0) (keys : List Key) → ((k : Key) → Contains keys k → P k) → All P keys
all_so P keys each = All-from_recursion P keys (all_contained P keys each)

module _ (keys : List Key) (key other : Key) (one two : ℕ) (few : AreOfFewFolios keys) (first : Contains keys key) (one_is : one ≡ folio_of_key key)
    (found : find (λ k. not (folio_of_key k == one)) keys ≡ Some other) (two_is : two ≡ folio_of_key other) where
  has_one : has_folio keys one ≡ true
  has_one = has_its_folio keys key one first one_is

  has_two : has_folio keys two ≡ true
  has_two = has_its_folio keys other two (contains_of_in keys other (find_sound (λ k. not (folio_of_key k == one)) keys other found).0) two_is

  apart : one ≡ two → ⊥
  apart same =
      let passes = (find_sound (λ k. not (folio_of_key k == one)) keys other found).1 in
      eqb-false (folio_of_key other) one (not-true (folio_of_key other == one) passes) (sym two_is ∙ sym same)

  either : (l : Key) → Contains keys l → (folio_of_key l ≡ one) ⊎ (folio_of_key l ≡ two)
  either l there =
      ⊎_elim (λ is. inl (is ∙ sym one_is)) (λ is. inr (is ∙ sym two_is))
      (few key other l first (contains_of_in keys other (find_sound (λ k. not (folio_of_key k == one)) keys other found).0) there (λ same. apart (one_is ∙ same ∙ sym two_is)))

  pub two_touched : (result : TouchedFolios) → result ≡ cond (nat_lt one two) (touched.Two one two) (touched.Two two one) → AreTouched keys result
  two_touched result is =
      subst (AreTouched keys) (sym is)
      (elim (nat_lt one two) as (λ b. nat_lt one two ≡ b → AreTouched keys (cond b (touched.Two one two) (touched.Two two one))) [
        | true ↦ λ less. (grind (arith, nat_tests, less), has_one, has_two, all_so (λ k. (folio_of_key k ≡ one) ⊎ (folio_of_key k ≡ two)) keys either)
        | false ↦ λ no.
            let most : two ≤ one = grind (arith, nat_tests, no) in
            let less : two < one = ⊎_elim (λ low. low) (λ high. absurd (apart (omega (arith, most, high)))) (cases_lt two one) in
            (less, has_two, has_one, all_so (λ k. (folio_of_key k ≡ two) ⊎ (folio_of_key k ≡ one)) keys (λ l there. ⊎_elim (λ a. inr a) (λ b. inl b) (either l there)))
      ] refl)

-- ---- keys in order

pub few_in_order : (keys : List Key) → AreOfFewFolios keys → AreOfFewFolios (in_key_order keys)
few_in_order keys few j k l of_j of_k of_l apart = few j k l ((in_key_order_members keys j).0 of_j) ((in_key_order_members keys k).0 of_k) ((in_key_order_members keys l).0 of_l) apart

all_of_order : (P : Key → Type 0) (keys : List Key) → All P (in_key_order keys) → All P keys
all_of_order P keys all = all_so P keys (λ k there. All-contains P (in_key_order keys) k all ((in_key_order_members keys k).1 there))

has_of_order : (keys : List Key) (folio : ℕ) → has_folio (in_key_order keys) folio ≡ true → has_folio keys folio ≡ true
has_of_order keys folio has =
    let found = of_any (λ k. folio_of_key k == folio) (in_key_order keys) has in
    any_in (λ k. folio_of_key k == folio) keys found.0 (in_of_contains keys found.0 ((in_key_order_members keys found.0).0 (contains_of_in (in_key_order keys) found.0 found.1))) found.2

none_of_order : (keys : List Key) → in_key_order keys ≡ [] → keys ≡ []
none_of_order [] none = refl
none_of_order (k ∷ keys) none = absurd (no_key (in_key_order (k ∷ keys)) k none ((in_key_order_members (k ∷ keys) k).1 (contains_first k keys)))

pub touched_of_order : (keys : List Key) (result : TouchedFolios) → AreTouched (in_key_order keys) result → AreTouched keys result
touched_of_order keys touched.Nowhere none = none_of_order keys none
touched_of_order keys (touched.One folio) is = (has_of_order keys folio is.0, all_of_order (λ k. folio_of_key k ≡ folio) keys is.1)
touched_of_order keys (touched.Two first second) are =
    (are.0, has_of_order keys first are.1, has_of_order keys second are.2, all_of_order (λ k. (folio_of_key k ≡ first) ⊎ (folio_of_key k ≡ second)) keys are.3)
