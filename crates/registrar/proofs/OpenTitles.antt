-- The open folios whose titles are among keys.
use Rattle.std.proofs.Common.{◌≡◌, ℕ, ◌<◌, true, false, cond, eqb, nat_lt, List, [], ◌∷◌, Option, Some, None, filter_map, refl, sym, ap, subst, ⊎_elim, inl, inr, arith}
use Rattle.std.specs.List.{AllByRecursion, cons_option}
use Rattle.std.specs.List.Sorted.{IsStrictlySortedBy}
use Rattle.std.specs.Ordering.{is_lt, ordering_then}
use Rattle.std.specs.declared.cmp.Ordering.TheVariants.{Less, Equal, Greater}
use Rattle.std.proofs.lemmas.Bool.{false≢true, or_cases}
use Rattle.std.proofs.lemmas.Bool.Decides.{nat_tests}
use Rattle.gb_base.specs.Keys.{key_cmp, same_key}
use Rattle.gb_base.specs.declared.keys.Key.{Key}
use Rattle.gb_base.specs.declared.keys.Key.TheVariants.{Title, Right, Case}
use Rattle.gb_base.proofs.Members.{In}
use Rattle.act_model.proofs.KeyOrder.{has, same_is}
use Rattle.folio_sections.specs.Titles.{is_open}
use Rattle.folio_sections.specs.declared.entries.Entry.{Entry}
use Rattle.registrar.specs.inner.OpenFolios.{AreOpenFolios, open_folio_of_title}
use Rattle.registrar.proofs.NoticedPlaces.{Rises}
use Rattle.registrar.proofs.RisingNumbers.{contains_of_in, in_of_contains, pairs_of_rises}

-- the folios of the open titles among these keys
abbrev pub open_among : (Key → List Entry) → List Key → List ℕ
open_among at ks = filter_map (open_folio_of_title at) ks

-- ---- which they are

pub among_is_open : (at : Key → List Entry) (ks : List Key) (folio : ℕ) → In folio (open_among at ks) → is_open (at (Title folio)) ≡ true
among_is_open at [] folio there = absurd there
among_is_open at (Title f ∷ ks) folio there =
    elim (is_open (at (Title f))) as (λ b. is_open (at (Title f)) ≡ b → In folio (cons_option (cond b (Some f) None) (open_among at ks)) → is_open (at (Title folio)) ≡ true) [
      | true ↦ λ is found. ⊎_elim (λ same. subst (λ n. is_open (at (Title n)) ≡ true) same is) (λ later. among_is_open at ks folio later) found
      | false ↦ λ is found. among_is_open at ks folio found
    ] refl there
among_is_open at (Right f right ∷ ks) folio there = among_is_open at ks folio there
among_is_open at (Case f ∷ ks) folio there = among_is_open at ks folio there

pub open_is_among : (at : Key → List Entry) (ks : List Key) (folio : ℕ) → has (Title folio) ks ≡ true → is_open (at (Title folio)) ≡ true → In folio (open_among at ks)
open_is_among at [] folio there is = absurd (false≢true there)
open_is_among at (k ∷ ks) folio there is =
    ⊎_elim
    (λ here. subst (λ j. In folio (cons_option (open_folio_of_title at j) (open_among at ks))) (sym (same_is k (Title folio) here))
    (subst (λ b. In folio (cons_option (cond b (Some folio) None) (open_among at ks))) (sym is) (inl refl)))
    (λ later. behind (open_folio_of_title at k) (open_among at ks) (open_is_among at ks folio later is))
    (or_cases (same_key k (Title folio)) (has (Title folio) ks) there)
  where
    behind : (o : Option ℕ) (ns : List ℕ) → In folio ns → In folio (cons_option o ns)
    behind None ns later = later
    behind (Some n) ns later = inr later

-- ---- in ascending order

title_less : (f g : ℕ) → key_cmp (Title f) (Title g) ≡ Less → f < g
title_less f g less =
    elim (nat_lt f g) as (λ b. nat_lt f g ≡ b → ordering_then (cond b Less (cond (eqb f g) Equal Greater)) Equal ≡ Less → f < g) [
      | true ↦ λ is _. grind (arith, nat_tests, is)
      | false ↦ λ _. elim (eqb f g) as (λ b. ordering_then (cond b Equal Greater) Equal ≡ Less → f < g) [
        | true ↦ λ tied. absurd (false≢true (ap is_lt tied))
        | false ↦ λ more. absurd (false≢true (ap is_lt more))
      ]
    ] refl less

above_titles : (at : Key → List Entry) (f : ℕ) (ks : List Key) → AllByRecursion (λ k. key_cmp (Title f) k ≡ Less) ks → AllByRecursion (λ n. f < n) (open_among at ks)
above_titles at f [] less = tt
above_titles at f (Title g ∷ ks) less =
    elim (is_open (at (Title g))) as (λ b. AllByRecursion (λ n. f < n) (cons_option (cond b (Some g) None) (open_among at ks))) [
      | true ↦ (title_less f g less.0, above_titles at f ks less.1)
      | false ↦ above_titles at f ks less.1
    ]
above_titles at f (Right g right ∷ ks) less = above_titles at f ks less.1
above_titles at f (Case g ∷ ks) less = above_titles at f ks less.1

pub among_rises : (at : Key → List Entry) (ks : List Key) → IsStrictlySortedBy key_cmp ks → Rises (open_among at ks)
unfolding IsStrictlySortedBy
among_rises at [] sorted = tt
among_rises at (Title f ∷ ks) sorted =
    elim (is_open (at (Title f))) as (λ b. Rises (cons_option (cond b (Some f) None) (open_among at ks))) [
      | true ↦ (above_titles at f ks sorted.0, among_rises at ks sorted.1)
      | false ↦ among_rises at ks sorted.1
    ]
among_rises at (Right f right ∷ ks) sorted = among_rises at ks sorted.1
among_rises at (Case f ∷ ks) sorted = among_rises at ks sorted.1

-- ---- together

-- ascending numbers that are the open ones among keys, where each open title is among these
pub are_open : (at : Key → List Entry) (ks : List Key) (folios : List ℕ) → Rises folios → ((folio : ℕ) → In folio folios → In folio (open_among at ks)) → ((folio : ℕ) → In folio (open_among at ks) → In folio folios)
    → ((folio : ℕ) → is_open (at (Title folio)) ≡ true → has (Title folio) ks ≡ true) → AreOpenFolios folios at
are_open at ks folios up there here given = record {
  ascending = pairs_of_rises folios up;
  members = λ folio. (
    λ among. among_is_open at ks folio (there folio (in_of_contains folios folio among)),
    λ is. contains_of_in folios folio (here folio (open_is_among at ks folio (given folio is) is)),
  );
}
