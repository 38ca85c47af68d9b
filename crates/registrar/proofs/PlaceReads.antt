-- Which filings have a place among the entries at a title, and which wait there.
use Rattle.std.specs.Prelude.{IfSome}
use Rattle.std.proofs.Common.{◌≡◌, ℕ, ◌<◌, ◌≤◌, Bool, true, false, cond, eqb, not, ◌||◌, ◌==◌, List, [], ◌∷◌, ◌++◌, find, fold, option_map, Option, Some, None, is_none, is_some, refl, sym, ap, subst, ◌∙◌, ⊎_elim, arith}
use Rattle.std.specs.List.{AllByRecursion, cons_option, list_any}
use Rattle.std.proofs.lemmas.Bool.{eqb-true, false≢true, or_cases, or_left, or_parts, or_right}
use Rattle.std.proofs.lemmas.Bool.Decides.{nat_tests}
use Rattle.std.proofs.lemmas.List.Elements.{filter_map-append}
use Rattle.std.proofs.lemmas.List.Folds.{list_any-append}
use Rattle.std.proofs.lemmas.List.Sums.{fold-append}
use Rattle.act_model.specs.declared.receipts.Receipt.{Receipt}
use Rattle.kept_registers.specs.KeptEntries.{WaitsInTime}
use Rattle.kept_registers.specs.KeptPlaces.{is_placed}
use Rattle.act_model.specs.Divisions.{creates_there}
use Rattle.folio_sections.specs.Places.{own_place, place_by, place_of, places_among}
use Rattle.folio_sections.specs.Waiting.{is_notice_of, is_pending, notice, pending, until_by}
use Rattle.folio_sections.specs.declared.entries.Entry.{Entry}
use Rattle.folio_sections.specs.declared.entries.What.{What}
use Rattle.folio_sections.specs.declared.entries.What.TheVariants as what
use Rattle.folio_sections.specs.declared.title_places.TitlePlace.{TitlePlace}
use Rattle.folio_sections.proofs.Indexes.{is_some-find}
use Rattle.registrar.proofs.Dealing.{KeepsWaiting}
use Rattle.registrar.proofs.WaitingReads.{pending_kept}

-- ---- which filings have a place

-- filing n has a place among these
abbrev pub is_ranked : ℕ → List TitlePlace → Bool
is_ranked n ps = list_any (λ p. p.filing == n) ps

pub ranked_is : (n : ℕ) (ps : List TitlePlace) → is_some (own_place n ps) ≡ is_ranked n ps
ranked_is n ps = is_some-find (λ (p : TitlePlace). p.filing == n) ps

pub places_both : (journal : List Receipt) (folio : ℕ) (xs ys : List Entry) → places_among journal folio (xs ++ ys) ≡ places_among journal folio xs ++ places_among journal folio ys
places_both journal folio xs ys = filter_map-append (λ (e : Entry). place_by journal folio e.day e.what) xs ys

pub ranked_both : (n : ℕ) (ps qs : List TitlePlace) → is_ranked n (ps ++ qs) ≡ (is_ranked n ps || is_ranked n qs)
ranked_both n ps qs = list_any-append (λ (p : TitlePlace). p.filing == n) ps qs

-- a filing that has a place is below any bound of all that have one
pub ranked_below : (bound n : ℕ) (ps : List TitlePlace) → AllByRecursion (λ p. p.filing < bound) ps → is_ranked n ps ≡ true → n < bound
ranked_below bound n [] less has = absurd (false≢true has)
ranked_below bound n (p ∷ ps) less has =
    ⊎_elim
    (λ here. subst (λ x. x < bound) (eqb-true p.filing n here) less.0)
    (λ later. ranked_below bound n ps less.1 later)
    (or_cases (eqb p.filing n) (is_ranked n ps) has)

-- a filing keeps its place where another is put in front
ranked_behind : (n : ℕ) (o : Option TitlePlace) (ps : List TitlePlace) → is_ranked n ps ≡ true → is_ranked n (cons_option o ps) ≡ true
ranked_behind n None ps has = has
ranked_behind n (Some p) ps has = or_right (eqb p.filing n) (is_ranked n ps) has

-- ---- what sets a place

-- some of the entries is the official notice of filing n
abbrev pub is_noticed : ℕ → List Entry → Bool
is_noticed n es = list_any (λ e. is_notice_of n e.what) es

-- a content that is neither the notice nor the place of filing n sets it no place
other_content : (journal : List Receipt) (folio n day : ℕ) (w : What) (ps : List TitlePlace) → is_notice_of n w ≡ false → is_placed n w ≡ false
    → is_ranked n (cons_option (place_by journal folio day w) ps) ≡ is_ranked n ps
other_content journal folio n day (what.Placed f second third) ps no_notice no_place = ap (λ b. b || is_ranked n ps) no_place
other_content journal folio n day (what.Notice f) ps no_notice no_place =
    elim (creates_there journal folio f) as (λ b. is_ranked n (cons_option (cond b (Some (place_of journal folio day f)) None) ps) ≡ is_ranked n ps) [
      | true ↦ ap (λ b. b || is_ranked n ps) no_notice
      | false ↦ refl
    ]
other_content journal folio n day other ps no_notice no_place = refl

-- without a notice and without a place that was set for it, a filing has no place
pub has_no_place : (journal : List Receipt) (folio n : ℕ) (es : List Entry) → is_noticed n es ≡ false → AllByRecursion (λ e. is_placed n e.what ≡ false) es
    → is_ranked n (places_among journal folio es) ≡ false
has_no_place journal folio n [] no_notice none = refl
has_no_place journal folio n (e ∷ es) no_notice none =
    let parts = or_parts (is_notice_of n e.what) (is_noticed n es) no_notice in
    other_content journal folio n e.day e.what (places_among journal folio es) parts.0 none.0 ∙ has_no_place journal folio n es parts.1 none.1

-- the notice of a filing that creates a right sets its place
notice_content : (journal : List Receipt) (folio n day : ℕ) (w : What) (ps : List TitlePlace) → creates_there journal folio n ≡ true → is_notice_of n w ≡ true
    → is_ranked n (cons_option (place_by journal folio day w) ps) ≡ true
notice_content journal folio n day (what.Notice f) ps creates its =
    let same : f ≡ n = eqb-true f n its in
    let does : creates_there journal folio f ≡ true = subst (λ x. creates_there journal folio x ≡ true) (sym same) creates in
    ap (λ b. is_ranked n (cons_option (cond b (Some (place_of journal folio day f)) None) ps)) does ∙ or_left (eqb f n) (is_ranked n ps) its
notice_content journal folio n day other ps creates its = absurd (false≢true its)

pub has_place_by_notice : (journal : List Receipt) (folio n : ℕ) (es : List Entry) → creates_there journal folio n ≡ true → is_noticed n es ≡ true
    → is_ranked n (places_among journal folio es) ≡ true
has_place_by_notice journal folio n [] creates its = absurd (false≢true its)
has_place_by_notice journal folio n (e ∷ es) creates its =
    let rest = places_among journal folio es in
    ⊎_elim
    (λ here. notice_content journal folio n e.day e.what rest creates here)
    (λ later. ranked_behind n (place_by journal folio e.day e.what) rest (has_place_by_notice journal folio n es creates later))
    (or_cases (is_notice_of n e.what) (is_noticed n es) its)

none_mapped : (o : Option Entry) → is_none (option_map (λ e. e.day) o) ≡ not (is_some o)
none_mapped None = refl
none_mapped (Some e) = refl

-- a filing that waits has a notice exactly where one of the entries is that
pub lacks_is : (n : ℕ) (es : List Entry) → is_pending n es ≡ true → is_none (notice n es) ≡ not (is_noticed n es)
lacks_is n es waits =
    ap (λ b. is_none (cond b (option_map (λ (e : Entry). e.day) (find (λ (e : Entry). is_notice_of n e.what) es)) None)) waits
    ∙ none_mapped (find (λ (e : Entry). is_notice_of n e.what) es) ∙ ap not (is_some-find (λ (e : Entry). is_notice_of n e.what) es)

-- ---- who waits

-- with such contents alone each filing waits as before
pub waits_as_before : (n : ℕ) (xs ys : List Entry) → AllByRecursion (λ e. KeepsWaiting e.what) ys → is_pending n (xs ++ ys) ≡ is_pending n xs
waits_as_before n xs ys keeps = ap is_some (pending_kept n xs ys keeps)

-- one entry at the end changes a filing's waiting as its content says
pub waits_behind : (n : ℕ) (xs : List Entry) (e : Entry) → pending n (xs ++ e ∷ []) ≡ until_by n (pending n xs) e.what
waits_behind n xs e = fold-append (λ b e. until_by n b e.what) None xs (e ∷ [])

not_later : (m receipt : ℕ) (w : What) → receipt < m → WaitsInTime receipt w → until_by m None w ≡ None
not_later m receipt (what.Pending f until) earlier within =
    let other : eqb f m ≡ false = grind (arith, nat_tests, earlier, within) in ap (λ b. cond b (Some until) None) other
not_later m receipt (what.Settled f) earlier within =
    elim (eqb f m) as (λ b. cond {A = Option ℕ} b None None ≡ None) [
      | true ↦ refl
      | false ↦ refl
    ]
not_later m receipt other earlier within = refl

-- a filing does not wait among entries of earlier receipts
pub never_waits_before : (m : ℕ) (es : List Entry) → AllByRecursion (λ e. e.receipt < m) es → AllByRecursion (λ e. WaitsInTime e.receipt e.what) es → pending m es ≡ None
never_waits_before m [] earlier within = refl
never_waits_before m (e ∷ es) earlier within =
    ap (λ b. fold (λ b e. until_by m b e.what) b es) (not_later m e.receipt e.what earlier.0 within.0)
    ∙ never_waits_before m es earlier.1 within.1

-- ---- entries of earlier receipts

one_before : (m receipt : ℕ) (o : Option TitlePlace) (ps : List TitlePlace) → receipt < m → IfSome o (λ p. p.filing ≤ receipt) → AllByRecursion (λ p. p.filing < m) ps
    → AllByRecursion (λ p. p.filing < m) (cons_option o ps)
one_before m receipt None ps earlier within less = less
one_before m receipt (Some p) ps earlier within less = (omega arith, less)

-- the places that they set are of earlier filings
pub places_before : (journal : List Receipt) (folio m : ℕ) (es : List Entry) → AllByRecursion (λ e. e.receipt < m) es
    → AllByRecursion (λ e. IfSome (place_by journal folio e.day e.what) (λ p. p.filing ≤ e.receipt)) es → AllByRecursion (λ p. p.filing < m) (places_among journal folio es)
places_before journal folio m [] earlier within = tt
places_before journal folio m (e ∷ es) earlier within =
    one_before m e.receipt (place_by journal folio e.day e.what) (places_among journal folio es) earlier.0 within.0 (places_before journal folio m es earlier.1 within.1)

not_its_place : (journal : List Receipt) (folio m day receipt : ℕ) (w : What) → receipt < m → IfSome (place_by journal folio day w) (λ p. p.filing ≤ receipt) → is_placed m w ≡ false
not_its_place journal folio m day receipt (what.Placed f second third) earlier within = grind (arith, nat_tests, earlier, within)
not_its_place journal folio m day receipt other earlier within = refl

-- none is the place of a later filing
pub unplaced_before : (journal : List Receipt) (folio m : ℕ) (es : List Entry) → AllByRecursion (λ e. e.receipt < m) es
    → AllByRecursion (λ e. IfSome (place_by journal folio e.day e.what) (λ p. p.filing ≤ e.receipt)) es → AllByRecursion (λ e. is_placed m e.what ≡ false) es
unplaced_before journal folio m [] earlier within = tt
unplaced_before journal folio m (e ∷ es) earlier within =
    (not_its_place journal folio m e.day e.receipt e.what earlier.0 within.0, unplaced_before journal folio m es earlier.1 within.1)
