-- What is kept at one title: its places ascend, and its filings that wait have their places by their notices.
use Rattle.std.proofs.Common.{◌≡◌, ℕ, ◌<◌, true, false, eqb, ◌||◌, ◌==◌, List, [], ◌∷◌, ◌++◌, get_or, All, AllPairs, Some, None, refl, sym, ap, subst, ◌∙◌, ⊎_elim, arith}
use Rattle.std.specs.List.{AllByRecursion, cons_option}
use Rattle.std.proofs.lemmas.Bool.{cases_eq, cases_lt, eqb-true, false≢true, or_cases, or_left}
use Rattle.std.proofs.lemmas.Bool.Decides.{nat_tests}
use Rattle.std.proofs.lemmas.List.{append-nil}
use Rattle.std.proofs.lemmas.List.Elements.{All-append, All-from_recursion, recursion_from_All}
use Rattle.std.proofs.lemmas.List.Quantifiers.{all_pairs_push}
use Rattle.std.proofs.lemmas.List.Folds.{list_any_at}
use Rattle.gb_base.specs.declared.keys.Key.{Key}
use Rattle.gb_base.specs.declared.keys.Key.TheVariants.{Title}
use Rattle.act_model.specs.declared.receipts.Receipt.{Receipt}
use Rattle.kept_registers.specs.KeptPlaces.{PlacesAscend, SaysDivisions, is_placed}
use Rattle.act_model.specs.Divisions.{creates_there}
use Rattle.folio_sections.specs.Places.{place_by, places_among}
use Rattle.folio_sections.specs.Waiting.{is_pending}
use Rattle.folio_sections.specs.declared.entries.Entry.{Entry}
use Rattle.folio_sections.specs.declared.title_places.TitlePlace.{TitlePlace}
use Rattle.folio_sections.proofs.Unchanged.{all_both}
use Rattle.registrar.proofs.Dealing.{KeepsWaiting}
use Rattle.registrar.proofs.PlaceReads.{has_no_place, is_noticed, is_ranked, places_both, ranked_both, ranked_is, waits_as_before}

-- The places of a folio ascend. Where a filing has a place, each earlier one that waits and creates a right there has one, too.
pub record Ranked (journal : List Receipt) (folio : ℕ) (entries : List Entry) : Type 0 where
  pub ascend : AllPairs (λ p later. p.filing < later.filing) (places_among journal folio entries)
  pub divisions : All (λ e. SaysDivisions journal folio e.what) entries
  pub noticed : (m n : ℕ) → is_ranked m (places_among journal folio entries) ≡ true → n < m → is_pending n entries ≡ true
      → creates_there journal folio n ≡ true → is_ranked n (places_among journal folio entries) ≡ true

-- no place was set for filing x
abbrev pub IsUnplaced : ℕ → List Entry → Type 0
IsUnplaced x es = AllByRecursion (λ e. is_placed x e.what ≡ false) es

-- a filing other than m that waits has no place but by its notice
abbrev pub PlacedByNoticeBut : ℕ → List Entry → Type 0
PlacedByNoticeBut m entries = (x : ℕ) → (x ≡ m → ⊥) → is_pending x entries ≡ true → IsUnplaced x entries

-- no filing that waits has a place but by its notice
abbrev pub PlacedByNotice : List Entry → Type 0
PlacedByNotice entries = (x : ℕ) → is_pending x entries ≡ true → IsUnplaced x entries

-- The title is in order: both of these hold of it.
pub record InOrder (journal : List Receipt) (folio : ℕ) (entries : List Entry) : Type 0 where
  pub ranked : Ranked journal folio entries
  pub by_notice : PlacedByNotice entries

-- ---- of a title, and of all titles

pub title_of : (journal : List Receipt) (at : Key → List Entry) → PlacesAscend journal at → (folio : ℕ) → InOrder journal folio (at (Title folio))
title_of journal at kept folio =
    let ps = places_among journal folio (at (Title folio)) in
    record {
      ranked = record {
        ascend = kept.ascend folio;
        divisions = kept.divisions folio;
        noticed = λ m n has less waits creates. sym (ranked_is n ps) ∙ kept.noticed folio m n (ranked_is m ps ∙ has) less waits creates;
      };
      by_notice = λ x waits. recursion_from_All (λ e. is_placed x e.what ≡ false) (at (Title folio)) (kept.by_notice folio x waits);
    }

pub of_titles : (journal : List Receipt) (at : Key → List Entry) → ((folio : ℕ) → InOrder journal folio (at (Title folio))) → PlacesAscend journal at
of_titles journal at each = record {
  ascend = λ folio. (each folio).ranked.ascend;
  divisions = λ folio. (each folio).ranked.divisions;
  by_notice = λ folio m waits. All-from_recursion (λ e. is_placed m e.what ≡ false) (at (Title folio)) ((each folio).by_notice m waits);
  noticed = λ folio m n has less waits creates.
      let ps = places_among journal folio (at (Title folio)) in
      ranked_is n ps ∙ (each folio).ranked.noticed m n (sym (ranked_is m ps) ∙ has) less waits creates;
}

-- ---- entries that set no place

-- the entry sets no place in the folio
abbrev pub SetsNone : List Receipt → ℕ → Entry → Type 0
SetsNone journal folio e = (place_by journal folio e.day e.what ≡ None) × SaysDivisions journal folio e.what

sets_none : (journal : List Receipt) (folio : ℕ) (es : List Entry) → AllByRecursion (SetsNone journal folio) es → places_among journal folio es ≡ []
sets_none journal folio [] all = refl
sets_none journal folio (e ∷ es) all = rw all.0.0 (sets_none journal folio es all.1)

says_divisions : (journal : List Receipt) (folio : ℕ) (es : List Entry) → AllByRecursion (SetsNone journal folio) es → AllByRecursion (λ e. SaysDivisions journal folio e.what) es
says_divisions journal folio [] all = tt
says_divisions journal folio (e ∷ es) all = (all.0.1, says_divisions journal folio es all.1)

pub ranked_on : (journal : List Receipt) (folio : ℕ) (xs ys : List Entry) → Ranked journal folio xs → AllByRecursion (SetsNone journal folio) ys
    → ((m n : ℕ) → is_ranked m (places_among journal folio xs) ≡ true → n < m → is_pending n (xs ++ ys) ≡ true → is_pending n xs ≡ true)
    → Ranked journal folio (xs ++ ys)
ranked_on journal folio xs ys old none fewer =
    let same : places_among journal folio (xs ++ ys) ≡ places_among journal folio xs =
    places_both journal folio xs ys ∙ ap (λ ps. places_among journal folio xs ++ ps) (sets_none journal folio ys none) ∙ append-nil (places_among journal folio xs) in
    record {
      ascend = subst (λ ps. AllPairs (λ (p later : TitlePlace). p.filing < later.filing) ps) (sym same) old.ascend;
      divisions = All-append (λ e. SaysDivisions journal folio e.what) xs ys old.divisions (All-from_recursion (λ e. SaysDivisions journal folio e.what) ys (says_divisions journal folio ys none));
      noticed = λ m n has less waits creates.
          let had = sym (ap (is_ranked m) same) ∙ has in
          ap (is_ranked n) same ∙ old.noticed m n had less (fewer m n had less waits) creates;
    }

-- ---- an entry that sets one

pub ranked_with : (journal : List Receipt) (folio : ℕ) (xs : List Entry) (e : Entry) (p : TitlePlace) → Ranked journal folio xs
    → place_by journal folio e.day e.what ≡ Some p → SaysDivisions journal folio e.what → KeepsWaiting e.what
    → All (λ q. q.filing < p.filing) (places_among journal folio xs)
    → ((n : ℕ) → n < p.filing → is_pending n xs ≡ true → creates_there journal folio n ≡ true → is_ranked n (places_among journal folio xs) ≡ true)
    → Ranked journal folio (xs ++ e ∷ [])
ranked_with journal folio xs e p old sets says keeps before waited =
    let ps = places_among journal folio xs in
    let more : places_among journal folio (xs ++ e ∷ []) ≡ ps ++ p ∷ [] =
    places_both journal folio xs (e ∷ []) ∙ ap (λ o. ps ++ cons_option o []) sets in
    record {
      ascend = subst (λ qs. AllPairs (λ (q later : TitlePlace). q.filing < later.filing) qs) (sym more) (all_pairs_push (λ (q later : TitlePlace). q.filing < later.filing) ps p old.ascend before);
      divisions = All-append (λ x. SaysDivisions journal folio x.what) xs (e ∷ []) old.divisions (All-from_recursion (λ x. SaysDivisions journal folio x.what) (e ∷ []) (says, tt));
      noticed = λ m n has less waits creates.
          let waited_before = sym (waits_as_before n xs (e ∷ []) (keeps, tt)) ∙ waits in
          let is : (is_ranked m ps || (eqb p.filing m || false)) ≡ true = sym (ap (is_ranked m) more ∙ ranked_both m ps (p ∷ [])) ∙ has in
          let had : is_ranked n ps ≡ true =
          ⊎_elim
          (λ older. old.noticed m n older less waited_before creates)
          (λ newer. let same : p.filing ≡ m = ⊎_elim (λ here. eqb-true p.filing m here) (λ no. absurd (false≢true no)) (or_cases (eqb p.filing m) false newer) in
          waited n (subst (λ k. n < k) (sym same) less) waited_before creates)
          (or_cases (is_ranked m ps) (eqb p.filing m || false) is) in
          ap (is_ranked n) more ∙ ranked_both n ps (p ∷ []) ∙ or_left (is_ranked n ps) (is_ranked n (p ∷ [])) had;
    }

itself : (n : ℕ) → eqb n n ≡ true
itself n = grind (arith, nat_tests)

-- all places are of filings earlier than one that waits, creates a right there and has no place
pub all_before : (journal : List Receipt) (folio : ℕ) (xs : List Entry) (n : ℕ) → Ranked journal folio xs → is_pending n xs ≡ true → creates_there journal folio n ≡ true
    → is_ranked n (places_among journal folio xs) ≡ false → All (λ p. p.filing < n) (places_among journal folio xs)
all_before journal folio xs n old waits creates none k d within =
    let ps = places_among journal folio xs in
    let x = (get_or ps k d).filing in
    let has : is_ranked x ps ≡ true = list_any_at (λ (p : TitlePlace). p.filing == x) ps k d within (itself x) in
    ⊎_elim
    (λ less. less)
    (λ not_less. absurd (⊎_elim
    (λ same. false≢true (sym none ∙ subst (λ j. is_ranked j ps ≡ true) same has))
    (λ apart. false≢true (sym none ∙ old.noticed x n has (omega arith) waits creates))
    (cases_eq x n)))
    (cases_lt x n)

-- all places are of filings earlier than one that waits and creates a right there without a notice, since that has no place
pub all_before_unnoticed : (journal : List Receipt) (folio : ℕ) (xs : List Entry) (n : ℕ) → InOrder journal folio xs → is_pending n xs ≡ true → creates_there journal folio n ≡ true
    → is_noticed n xs ≡ false → All (λ p. p.filing < n) (places_among journal folio xs)
all_before_unnoticed journal folio xs n old waits creates unnoticed =
    all_before journal folio xs n old.ranked waits creates (has_no_place journal folio n xs unnoticed (old.by_notice n waits))

-- ---- no place but by the notice

pub by_notice_on : (m : ℕ) (xs ys : List Entry) → PlacedByNoticeBut m xs
    → ((x : ℕ) → (x ≡ m → ⊥) → is_pending x (xs ++ ys) ≡ true → (is_pending x xs ≡ true) × IsUnplaced x ys) → PlacedByNoticeBut m (xs ++ ys)
by_notice_on m xs ys old more x other waits =
    let h = more x other waits in all_both (λ e. is_placed x e.what ≡ false) xs ys (old x other h.0) h.1

-- where filing m has no place but by its notice either, no filing that waits has
pub by_notice_all : (m : ℕ) (es : List Entry) → PlacedByNoticeBut m es → (is_pending m es ≡ true → IsUnplaced m es) → PlacedByNotice es
by_notice_all m es others own x waits =
    ⊎_elim
    (λ same. subst (λ k. IsUnplaced k es) (sym same) (own (subst (λ k. is_pending k es ≡ true) same waits)))
    (λ other. others x other waits)
    (cases_eq x m)
