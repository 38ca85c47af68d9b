-- The official notices that the entry of filing m brings at a title, and the places that they set.
use Rattle.std.proofs.Common.{◌≡◌, ℕ, zero, suc, ◌+◌, ◌-◌, ◌<◌, ◌≤◌, Bool, true, false, cond, eqb, ◌||◌, List, [], ◌∷◌, ◌++◌, filter, map, Some, None, is_none, refl, sym, ap, subst, ◌∙◌, ⊎_elim, inl, inr, append_assoc, arith}
use Rattle.std.specs.List.{AllByRecursion, cons_option, range_with_len}
use Rattle.std.proofs.lemmas.Bool.{cases_Bool, false≢true, not_from_false, or_from, or_parts, not-true}
use Rattle.std.proofs.lemmas.Bool.Decides.{nat_tests}
use Rattle.std.proofs.lemmas.List.{append-nil}
use Rattle.std.proofs.lemmas.List.Folds.{list_any-append}
use Rattle.gb_base.specs.declared.keys.Key.{Key}
use Rattle.gb_base.proofs.Members.{In, in_range}
use Rattle.act_model.specs.declared.receipts.Receipt.{Receipt}
use Rattle.folio_sections.specs.Entries.{entry_by}
use Rattle.folio_sections.specs.Waiting.{waiting_unnoticed, receipts_before, is_notice_of, is_pending, notice, waiting_before}
use Rattle.kept_registers.specs.KeptPlaces.{is_placed}
use Rattle.act_model.specs.Divisions.{creates_there}
use Rattle.folio_sections.specs.Places.{place_by, place_of, places_among}
use Rattle.folio_sections.specs.declared.entries.Entry.{Entry}
use Rattle.folio_sections.specs.declared.entries.What.TheVariants as what
use Rattle.folio_sections.specs.declared.title_places.TitlePlace.{TitlePlace}
use Rattle.folio_sections.proofs.Unchanged.{all_both, all_weaker}
use Rattle.registrar.proofs.PlaceReads.{has_place_by_notice, is_noticed, is_ranked, lacks_is, waits_as_before}
use Rattle.registrar.proofs.RankedTitles.{InOrder, IsUnplaced, Ranked, ranked_on, ranked_with, all_before_unnoticed}

-- ---- numbers in ascending order

-- each number is below all further ones
abbrev pub Rises : List ℕ → Type 0
Rises [] = Unit {0}
Rises (x ∷ xs) = AllByRecursion (λ y. x < y) xs × Rises xs

all_that_pass : (P : ℕ → Type 0) (q : ℕ → Bool) (xs : List ℕ) → AllByRecursion P xs → AllByRecursion (λ x. P x × (q x ≡ true)) (filter q xs)
all_that_pass P q [] all = tt
all_that_pass P q (x ∷ xs) all =
    elim (q x) as (λ b. q x ≡ b → AllByRecursion (λ y. P y × (q y ≡ true)) (cond b (x ∷ filter q xs) (filter q xs))) [
      | true ↦ λ passes. ((all.0, passes), all_that_pass P q xs all.1)
      | false ↦ λ fails. all_that_pass P q xs all.1
    ] refl

rises_filtered : (q : ℕ → Bool) (xs : List ℕ) → Rises xs → Rises (filter q xs)
rises_filtered q [] up = tt
rises_filtered q (x ∷ xs) up =
    elim (q x) as (λ b. Rises (cond b (x ∷ filter q xs) (filter q xs))) [
      | true ↦ (all_weaker (λ y. (x < y) × (q y ≡ true)) (λ y. x < y) (filter q xs) (λ y both. both.0) (all_that_pass (λ y. x < y) q xs up.0), rises_filtered q xs up.1)
      | false ↦ rises_filtered q xs up.1
    ]

range_above : (x a n : ℕ) → x < a → AllByRecursion (λ y. x < y) (range_with_len a n)
range_above x a zero less = tt
range_above x a (suc n) less = (less, range_above x (a + 1) n (omega arith))

range_rises : (a n : ℕ) → Rises (range_with_len a n)
range_rises a zero = tt
range_rises a (suc n) = (range_above a (a + 1) n (omega arith), range_rises (a + 1) n)

range_less : (bound a n : ℕ) → a + n ≤ bound → AllByRecursion (λ y. y < bound) (range_with_len a n)
range_less bound a zero within = tt
range_less bound a (suc n) within = (omega arith, range_less bound (a + 1) n (omega arith))

receipts_before_less : (m : ℕ) → AllByRecursion (λ y. y < m) (receipts_before m)
receipts_before_less zero = tt
receipts_before_less (suc k) = range_less (suc k) 1 (suc k - 1) (omega arith)

in_filtered : (q : ℕ → Bool) (xs : List ℕ) (x : ℕ) → In x xs → q x ≡ true → In x (filter q xs)
in_filtered q [] x there passes = absurd there
in_filtered q (y ∷ ys) x there passes =
    elim (q y) as (λ b. q y ≡ b → In x (cond b (y ∷ filter q ys) (filter q ys))) [
      | true ↦ λ other. ⊎_elim (λ same. inl same) (λ later. inr (in_filtered q ys x later passes)) there
      | false ↦ λ fails. ⊎_elim (λ same. absurd (false≢true (sym fails ∙ ap q same ∙ passes))) (λ later. in_filtered q ys x later passes) there
    ] refl

in_all : (P : ℕ → Type 0) (xs : List ℕ) (x : ℕ) → In x xs → AllByRecursion P xs → P x
in_all P [] x there all = absurd there
in_all P (y ∷ ys) x there all = ⊎_elim (λ same. subst P same all.0) (λ later. in_all P ys x later all.1) there

-- ---- which filings get a notice

-- the filing waits without a notice
abbrev pub LacksNotice : List Entry → ℕ → Type 0
LacksNotice entries n = (is_pending n entries ≡ true) × (is_noticed n entries ≡ false)

pub unnoticed_rise : (m : ℕ) (entries : List Entry) → Rises (waiting_unnoticed m entries)
unnoticed_rise m entries =
    rises_filtered (λ n. is_none (notice n entries)) (waiting_before m entries)
    (rises_filtered (λ n. is_pending n entries) (receipts_before m) (range_rises 1 (m - 1)))

pub unnoticed_lack : (m : ℕ) (entries : List Entry) → AllByRecursion (λ n. (n < m) × LacksNotice entries n) (waiting_unnoticed m entries)
unnoticed_lack m entries =
    all_weaker (λ n. ((n < m) × (is_pending n entries ≡ true)) × (is_none (notice n entries) ≡ true)) (λ n. (n < m) × LacksNotice entries n) (waiting_unnoticed m entries)
    (λ n all. (all.0.0, (all.0.1, not-true (is_noticed n entries) (sym (lacks_is n entries all.0.1) ∙ all.1))))
    (all_that_pass (λ n. (n < m) × (is_pending n entries ≡ true)) (λ n. is_none (notice n entries)) (waiting_before m entries)
    (all_that_pass (λ n. n < m) (λ n. is_pending n entries) (receipts_before m) (receipts_before_less m)))

-- where a filing creates a right it is no receipt 0
is_receipt : (journal : List Receipt) (folio n : ℕ) → creates_there journal folio n ≡ true → 0 < n
is_receipt journal folio zero creates = absurd (false≢true creates)
is_receipt journal folio (suc n) creates = omega arith

pub unnoticed_has : (journal : List Receipt) (folio m n : ℕ) (entries : List Entry) → n < m → creates_there journal folio n ≡ true → LacksNotice entries n
    → In n (waiting_unnoticed m entries)
unnoticed_has journal folio m n entries less creates lacks =
    let above : 0 < n = is_receipt journal folio n creates in
    in_filtered (λ k. is_none (notice k entries)) (waiting_before m entries) n
    (in_filtered (λ k. is_pending k entries) (receipts_before m) n (in_range 1 (m - 1) n (omega arith) (omega arith)) lacks.0)
    (lacks_is n entries lacks.0 ∙ not_from_false (is_noticed n entries) lacks.1)

-- ---- one notice after the other

-- the official notice of filing n
abbrev pub notice_entry : List Receipt → ℕ → Key → ℕ → Entry
notice_entry journal i key n = entry_by journal i key (what.Notice n)

-- How far the notices at a title have come: those of the filings `rest` are left.
pub record Noticing (journal : List Receipt) (folio m : ℕ) (rest : List ℕ) (entries : List Entry) : Type 0 where
  pub order : InOrder journal folio entries
  pub lack : AllByRecursion (LacksNotice entries) rest
  pub left : (n : ℕ) → n < m → creates_there journal folio n ≡ true → LacksNotice entries n → In n rest

-- with one notice more, a filing has a notice where it had one or this is its own
noticed_on : (journal : List Receipt) (i : ℕ) (key : Key) (n x : ℕ) (entries : List Entry) → is_noticed x (entries ++ notice_entry journal i key n ∷ []) ≡ (is_noticed x entries || (eqb n x || false))
noticed_on journal i key n x entries = list_any-append (λ (e : Entry). is_notice_of x e.what) entries (notice_entry journal i key n ∷ [])

-- each of the further filings still lacks its notice
lack_on : (journal : List Receipt) (i : ℕ) (key : Key) (n : ℕ) (rest : List ℕ) (entries : List Entry) → AllByRecursion (λ x. n < x) rest → AllByRecursion (LacksNotice entries) rest
    → AllByRecursion (LacksNotice (entries ++ notice_entry journal i key n ∷ [])) rest
lack_on journal i key n [] entries up lack = tt
lack_on journal i key n (x ∷ rest) entries up lack =
    let less : n < x = up.0 in
    let other : eqb n x ≡ false = grind (arith, nat_tests, less) in (
      (
        waits_as_before x entries (notice_entry journal i key n ∷ []) (tt, tt) ∙ lack.0.0,
        noticed_on journal i key n x entries ∙ or_from (is_noticed x entries) (eqb n x || false) lack.0.1 (or_from (eqb n x) false other refl),
      ),
      lack_on journal i key n rest entries up.1 lack.1,
    )

-- where the notices have come as far as filing n, each earlier filing that waits and creates a right there has its place
earlier_placed : (journal : List Receipt) (folio m n : ℕ) (rest : List ℕ) (entries : List Entry) → n < m → Rises (n ∷ rest) → Noticing journal folio m (n ∷ rest) entries
    → (x : ℕ) → x < n → is_pending x entries ≡ true → creates_there journal folio x ≡ true → is_ranked x (places_among journal folio entries) ≡ true
earlier_placed journal folio m n rest entries within up so_far x less waits creates =
    ⊎_elim
    (λ noticed. has_place_by_notice journal folio x entries creates noticed)
    (λ unnoticed. absurd (⊎_elim
    (λ same. let is : n ≡ x = same in omega arith)
    (λ later. let above : n < x = in_all (λ y. n < y) rest x later up.0 in omega arith)
    (so_far.left x (omega arith) creates (waits, unnoticed))))
    (cases_Bool (is_noticed x entries))

ranked_noticing : (journal : List Receipt) (folio m i : ℕ) (key : Key) (n : ℕ) (rest : List ℕ) (entries : List Entry) → n < m → Rises (n ∷ rest) → Noticing journal folio m (n ∷ rest) entries
    → Ranked journal folio (entries ++ notice_entry journal i key n ∷ [])
ranked_noticing journal folio m i key n rest entries within up so_far =
    let e = notice_entry journal i key n in
    elim (creates_there journal folio n) as (λ b. creates_there journal folio n ≡ b → Ranked journal folio (entries ++ e ∷ [])) [
      | true ↦ λ creates.
          ranked_with journal folio entries e (place_of journal folio e.day n) so_far.order.ranked
          (ap (λ b. cond b (Some (place_of journal folio e.day n)) None) creates) tt tt
          (all_before_unnoticed journal folio entries n so_far.order so_far.lack.0.0 creates so_far.lack.0.1)
          (earlier_placed journal folio m n rest entries within up so_far)
      | false ↦ λ other.
          ranked_on journal folio entries (e ∷ []) so_far.order.ranked
          ((ap (λ b. cond b (Some (place_of journal folio e.day n)) None) other, tt), tt)
          (λ x y has less waits. sym (waits_as_before y entries (e ∷ []) (tt, tt)) ∙ waits)
    ] refl

next_noticed : (journal : List Receipt) (folio m i : ℕ) (key : Key) (n : ℕ) (rest : List ℕ) (entries : List Entry) → n < m → Rises (n ∷ rest) → Noticing journal folio m (n ∷ rest) entries
    → Noticing journal folio m rest (entries ++ notice_entry journal i key n ∷ [])
next_noticed journal folio m i key n rest entries within up so_far =
    let e = notice_entry journal i key n in
    let as_before : (x : ℕ) → is_pending x (entries ++ e ∷ []) ≡ is_pending x entries = λ x. waits_as_before x entries (e ∷ []) (tt, tt) in
    record {
      order = record {
        ranked = ranked_noticing journal folio m i key n rest entries within up so_far;
        by_notice = λ x waits. all_and_one x entries e (so_far.order.by_notice x (sym (as_before x) ∙ waits)) refl;
      };
      lack = lack_on journal i key n rest entries up.0 so_far.lack.1;
      left = λ x less creates lacks.
          let none = or_parts (is_noticed x entries) (eqb n x || false) (sym (noticed_on journal i key n x entries) ∙ lacks.1) in
          let other : eqb n x ≡ false = (or_parts (eqb n x) false none.1).0 in
          ⊎_elim
          (λ same. let is : n ≡ x = same in absurd (grind (arith, nat_tests, other, is)))
          (λ later. later)
          (so_far.left x less creates (sym (as_before x) ∙ lacks.0, none.0));
    }
  where
    all_and_one : (x : ℕ) (xs : List Entry) (e : Entry) → IsUnplaced x xs → is_placed x e.what ≡ false → IsUnplaced x (xs ++ e ∷ [])
    all_and_one x xs e all one = all_both (λ y. is_placed x y.what ≡ false) xs (e ∷ []) all (one, tt)

all_noticed_from : (journal : List Receipt) (folio m i : ℕ) (key : Key) (rest : List ℕ) (entries : List Entry) → AllByRecursion (λ n. n < m) rest → Rises rest → Noticing journal folio m rest entries
    → Noticing journal folio m [] (entries ++ map (notice_entry journal i key) rest)
all_noticed_from journal folio m i key [] entries within up so_far = subst (Noticing journal folio m []) (sym (append-nil entries)) so_far
all_noticed_from journal folio m i key (n ∷ rest) entries within up so_far =
    subst (Noticing journal folio m []) (append_assoc entries (notice_entry journal i key n ∷ []) (map (notice_entry journal i key) rest))
    (all_noticed_from journal folio m i key rest (entries ++ notice_entry journal i key n ∷ []) within.1 up.1
    (next_noticed journal folio m i key n rest entries within.0 up so_far))

-- all notices at a title are entered
pub all_notices_ranked : (journal : List Receipt) (folio m i : ℕ) (key : Key) (entries : List Entry) → InOrder journal folio entries
    → Noticing journal folio m [] (entries ++ map (notice_entry journal i key) (waiting_unnoticed m entries))
all_notices_ranked journal folio m i key entries order =
    let ns = waiting_unnoticed m entries in
    let lack = unnoticed_lack m entries in
    all_noticed_from journal folio m i key ns entries
    (all_weaker (λ n. (n < m) × LacksNotice entries n) (λ n. n < m) ns (λ n both. both.0) lack) (unnoticed_rise m entries)
    (record {
      order = order;
      lack = all_weaker (λ n. (n < m) × LacksNotice entries n) (LacksNotice entries) ns (λ n both. both.1) lack;
      left = λ n less creates lacks. unnoticed_has journal folio m n entries less creates lacks;
    })

-- ---- the places that notices set

one_noticed : (journal : List Receipt) (folio m day n : ℕ) (ps : List TitlePlace) → n < m → AllByRecursion (λ p. p.filing < m) ps
    → AllByRecursion (λ p. p.filing < m) (cons_option (place_by journal folio day (what.Notice n)) ps)
one_noticed journal folio m day n ps less all =
    elim (creates_there journal folio n) as (λ b. AllByRecursion (λ p. p.filing < m) (cons_option (cond b (Some (place_of journal folio day n)) None) ps)) [
      | true ↦ (less, all)
      | false ↦ all
    ]

noticed_before : (journal : List Receipt) (folio m i : ℕ) (key : Key) (ns : List ℕ) → AllByRecursion (λ n. n < m) ns
    → AllByRecursion (λ p. p.filing < m) (places_among journal folio (map (notice_entry journal i key) ns))
noticed_before journal folio m i key [] less = tt
noticed_before journal folio m i key (n ∷ ns) less =
    one_noticed journal folio m (notice_entry journal i key n).day n (places_among journal folio (map (notice_entry journal i key) ns)) less.0 (noticed_before journal folio m i key ns less.1)

-- the places that notices set are of earlier filings than m
pub notices_before : (journal : List Receipt) (folio m i : ℕ) (key : Key) (entries : List Entry)
    → AllByRecursion (λ p. p.filing < m) (places_among journal folio (map (notice_entry journal i key) (waiting_unnoticed m entries)))
notices_before journal folio m i key entries =
    noticed_before journal folio m i key (waiting_unnoticed m entries)
    (all_weaker (λ n. (n < m) × LacksNotice entries n) (λ n. n < m) (waiting_unnoticed m entries) (λ n both. both.0) (unnoticed_lack m entries))
