-- What the entry of a filing, its interim order and the end of its waiting make of one title that is in order.
use Rattle.std.proofs.Common.{◌≡◌, ℕ, ◌<◌, Bool, true, false, cond, eqb, ◌&&◌, List, [], ◌∷◌, ◌++◌, All, Option, Some, None, is_none, is_some, refl, sym, ap, subst, ◌∙◌, ⊎_elim, append_assoc, arith}
use Rattle.std.specs.List.{AllByRecursion}
use Rattle.std.proofs.lemmas.Bool.{cases_Bool, eqb-true, false≢true}
use Rattle.std.proofs.lemmas.Bool.Decides.{nat_tests}
use Rattle.std.proofs.lemmas.List.{append-nil}
use Rattle.gb_base.specs.declared.keys.Key.{Key}
use Rattle.gb_base.specs.declared.keys.Key.TheVariants.{Title}
use Rattle.act_model.specs.Touches.{acts_of}
use Rattle.act_model.specs.declared.receipts.Receipt.{Receipt}
use Rattle.folio_sections.specs.Entries.{entry_by}
use Rattle.entry_rules.specs.Entering.{placed_in}
use Rattle.kept_registers.specs.KeptPlaces.{is_placed}
use Rattle.act_model.specs.Divisions.{create_in_division, creates_there}
use Rattle.folio_sections.specs.Places.{places_among}
use Rattle.folio_sections.specs.Waiting.{is_pending, notice, pending}
use Rattle.folio_sections.specs.declared.entries.Entry.{Entry}
use Rattle.folio_sections.specs.declared.entries.What.{What}
use Rattle.folio_sections.specs.declared.entries.What.TheVariants as what
use Rattle.folio_sections.specs.declared.title_places.TitlePlace.{TitlePlace}
use Rattle.folio_sections.proofs.Unchanged.{all_both}
use Rattle.registrar.proofs.Dealing.{KeepsWaiting}
use Rattle.registrar.proofs.NoticedPlaces.{Noticing}
use Rattle.registrar.proofs.PlaceReads.{has_place_by_notice, is_noticed, is_ranked, ranked_below, waits_as_before, waits_behind}
use Rattle.registrar.proofs.RankedTitles.{InOrder, IsUnplaced, PlacedByNoticeBut, Ranked, SetsNone, by_notice_all, by_notice_on, ranked_on, ranked_with}

-- ---- contents that neither set a place nor make a filing wait

-- neither a place nor a notice, and no beginning or end of waiting
abbrev pub IsQuiet : What → Type 0
IsQuiet (what.Placed filing second third) = ⊥
IsQuiet (what.Notice filing) = ⊥
IsQuiet (what.Pending filing until) = ⊥
IsQuiet (what.Settled filing) = ⊥
IsQuiet other = Unit {0}

-- What a quiet entry leaves.
record LeavesTitle (journal : List Receipt) (folio : ℕ) (e : Entry) : Type 0 where
  none : SetsNone journal folio e
  keeps : KeepsWaiting e.what
  unplaced : (x : ℕ) → is_placed x e.what ≡ false

quiet_leaves : (journal : List Receipt) (folio receipt day : ℕ) (key : Key) (w : What) → IsQuiet w → LeavesTitle journal folio (record { receipt = receipt; day = day; key = key; what = w })
quiet_leaves journal folio receipt day key (what.Placed filing second third) quiet = absurd quiet
quiet_leaves journal folio receipt day key (what.Notice filing) quiet = absurd quiet
quiet_leaves journal folio receipt day key (what.Pending filing until) quiet = absurd quiet
quiet_leaves journal folio receipt day key (what.Settled filing) quiet = absurd quiet
quiet_leaves journal folio receipt day key other quiet = record { none = (refl, tt); keeps = tt; unplaced = λ x. refl }

quiet_none : (journal : List Receipt) (folio : ℕ) (es : List Entry) → AllByRecursion (λ e. IsQuiet e.what) es → AllByRecursion (SetsNone journal folio) es
quiet_none journal folio [] quiet = tt
quiet_none journal folio (e ∷ es) quiet = ((quiet_leaves journal folio e.receipt e.day e.key e.what quiet.0).none, quiet_none journal folio es quiet.1)

quiet_keeps : (es : List Entry) → AllByRecursion (λ e. IsQuiet e.what) es → AllByRecursion (λ e. KeepsWaiting e.what) es
quiet_keeps [] quiet = tt
quiet_keeps (e ∷ es) quiet = ((quiet_leaves [] 0 e.receipt e.day e.key e.what quiet.0).keeps, quiet_keeps es quiet.1)

quiet_unplaced : (x : ℕ) (es : List Entry) → AllByRecursion (λ e. IsQuiet e.what) es → IsUnplaced x es
quiet_unplaced x [] quiet = tt
quiet_unplaced x (e ∷ es) quiet = ((quiet_leaves [] 0 e.receipt e.day e.key e.what quiet.0).unplaced x, quiet_unplaced x es quiet.1)

ranked_quiet : (journal : List Receipt) (folio : ℕ) (xs ys : List Entry) → Ranked journal folio xs → AllByRecursion (λ e. IsQuiet e.what) ys → Ranked journal folio (xs ++ ys)
ranked_quiet journal folio xs ys old quiet =
    ranked_on journal folio xs ys old (quiet_none journal folio ys quiet)
    (λ m n has less waits. sym (waits_as_before n xs ys (quiet_keeps ys quiet)) ∙ waits)

-- quiet entries leave a title in order
pub title_quiet : (journal : List Receipt) (folio : ℕ) (xs ys : List Entry) → InOrder journal folio xs → AllByRecursion (λ e. IsQuiet e.what) ys → InOrder journal folio (xs ++ ys)
title_quiet journal folio xs ys old quiet = record {
  ranked = ranked_quiet journal folio xs ys old.ranked quiet;
  by_notice = λ x waits.
      all_both (λ e. is_placed x e.what ≡ false) xs ys (old.by_notice x (sym (waits_as_before x xs ys (quiet_keeps ys quiet)) ∙ waits)) (quiet_unplaced x ys quiet);
}

-- ---- an interim order

-- filing m, whose receipt is later than all, is set to wait
pub title_ordered : (journal : List Receipt) (folio m i until : ℕ) (key : Key) (xs : List Entry) → InOrder journal folio xs
    → AllByRecursion (λ p. p.filing < m) (places_among journal folio xs) → IsUnplaced m xs
    → InOrder journal folio (xs ++ entry_by journal i key (what.Pending m until) ∷ [])
title_ordered journal folio m i until key xs old before own =
    let e = entry_by journal i key (what.Pending m until) in
    let others : (n : ℕ) → (n ≡ m → ⊥) → is_pending n (xs ++ e ∷ []) ≡ true → is_pending n xs ≡ true = λ n other waits.
    by_test n (eqb m n) (pending n xs) (λ same. other (sym (eqb-true m n same))) (sym (ap is_some (waits_behind n xs e)) ∙ waits) in
    record {
      ranked = ranked_on journal folio xs (e ∷ []) old.ranked ((refl, tt), tt)
          (λ x n has less waits.
          let below : x < m = ranked_below m x (places_among journal folio xs) before has in
          others n (λ same. let is : n ≡ m = same in omega arith) waits);
      by_notice = by_notice_all m (xs ++ e ∷ [])
          (by_notice_on m xs (e ∷ []) (λ x other waits. old.by_notice x waits) (λ x other waits. (others x other waits, (refl, tt))))
          (λ waits. all_both (λ y. is_placed m y.what ≡ false) xs (e ∷ []) own (refl, tt));
    }
  where
    by_test : (n : ℕ) (b : Bool) (before : Option ℕ) → (b ≡ true → ⊥) → is_some (cond b (Some until) before) ≡ true → is_some before ≡ true
    by_test n true before not_its waits = absurd (not_its refl)
    by_test n false before not_its waits = waits

-- ---- a later deadline

-- filing m, which waits already, waits until another day: whoever waits then waited before
pub title_waiting_on : (journal : List Receipt) (folio m i until : ℕ) (key : Key) (xs : List Entry) → InOrder journal folio xs → is_pending m xs ≡ true
    → InOrder journal folio (xs ++ entry_by journal i key (what.Pending m until) ∷ [])
title_waiting_on journal folio m i until key xs old waited =
    let e = entry_by journal i key (what.Pending m until) in
    let before : (n : ℕ) → is_pending n (xs ++ e ∷ []) ≡ true → is_pending n xs ≡ true = λ n waits.
    by_test n (pending n xs) (eqb m n) refl refl (sym (ap is_some (waits_behind n xs e)) ∙ waits) in
    record {
      ranked = ranked_on journal folio xs (e ∷ []) old.ranked ((refl, tt), tt) (λ x n has less waits. before n waits);
      by_notice = λ x waits. all_both (λ y. is_placed x y.what ≡ false) xs (e ∷ []) (old.by_notice x (before x waits)) (refl, tt);
    }
  where
    by_test : (n : ℕ) (day : Option ℕ) (b : Bool) → pending n xs ≡ day → eqb m n ≡ b → is_some (cond b (Some until) day) ≡ true → is_pending n xs ≡ true
    by_test n day true is own waits = subst (λ x. is_pending x xs ≡ true) (eqb-true m n own) waited
    by_test n day false is other waits = ap is_some is ∙ waits

-- ---- the end of waiting

settled_before : (b : Bool) (before : Option ℕ) → is_some (cond b None before) ≡ true → (b ≡ false) × (is_some before ≡ true)
settled_before true before waits = absurd (false≢true waits)
settled_before false before waits = (refl, waits)

-- filing m waits no longer, and no other filing that waits has a place but by its notice
pub title_ended_but : (journal : List Receipt) (folio m i : ℕ) (key : Key) (xs : List Entry) → Ranked journal folio xs → PlacedByNoticeBut m xs
    → InOrder journal folio (xs ++ entry_by journal i key (what.Settled m) ∷ [])
title_ended_but journal folio m i key xs ranked old =
    let e = entry_by journal i key (what.Settled m) in
    let waited : (n : ℕ) → is_pending n (xs ++ e ∷ []) ≡ true → (eqb m n ≡ false) × (is_pending n xs ≡ true) = λ n waits.
    settled_before (eqb m n) (pending n xs) (sym (ap is_some (waits_behind n xs e)) ∙ waits) in
    record {
      ranked = ranked_on journal folio xs (e ∷ []) ranked ((refl, tt), tt) (λ x n has less waits. (waited n waits).1);
      by_notice = λ x waits.
          let h = waited x waits in
          let other : x ≡ m → ⊥ = λ same. let is_not = h.0 in let is : x ≡ m = same in grind (arith, nat_tests, is_not, is) in
          all_both (λ y. is_placed x y.what ≡ false) xs (e ∷ []) (old x other h.1) (refl, tt);
    }

pub title_ended : (journal : List Receipt) (folio m i : ℕ) (key : Key) (xs : List Entry) → InOrder journal folio xs
    → InOrder journal folio (xs ++ entry_by journal i key (what.Settled m) ∷ [])
title_ended journal folio m i key xs old = title_ended_but journal folio m i key xs old.ranked (λ x other waits. old.by_notice x waits)

-- ---- an entry

-- the place that filing m gets at a title with these entries
abbrev pub place_list : List Receipt → ℕ → ℕ → ℕ → List Entry → List Entry
place_list journal m i folio entries = placed_in journal m i (λ key. entries) folio

-- The notices stand, and all places are of earlier filings than m, where it gets one.
pub record IsReady (journal : List Receipt) (folio m : ℕ) (mid : List Entry) : Type 0 where
  pub noticing : Noticing journal folio m [] mid
  pub before : creates_there journal folio m ≡ true → is_none (notice m mid) ≡ true → All (λ p. p.filing < m) (places_among journal folio mid)

-- an earlier filing that waits and creates a right there has its place by then
waited_placed : (journal : List Receipt) (folio m : ℕ) (mid : List Entry) → Noticing journal folio m [] mid
    → (n : ℕ) → n < m → is_pending n mid ≡ true → creates_there journal folio n ≡ true → is_ranked n (places_among journal folio mid) ≡ true
waited_placed journal folio m mid noticing n less waits creates =
    ⊎_elim
    (λ noticed. has_place_by_notice journal folio n mid creates noticed)
    (λ unnoticed. absurd (noticing.left n less creates (waits, unnoticed)))
    (cases_Bool (is_noticed n mid))

ranked_placed : (journal : List Receipt) (folio m i : ℕ) (mid : List Entry) → IsReady journal folio m mid → Ranked journal folio (mid ++ place_list journal m i folio mid)
ranked_placed journal folio m i mid ready =
    let acts = acts_of journal m in
    let e = entry_by journal i (Title folio) (what.Placed m (create_in_division false folio acts) (create_in_division true folio acts)) in
    let p : TitlePlace = record { filing = m; day = e.day; second = create_in_division false folio acts; third = create_in_division true folio acts } in
    let nothing : Ranked journal folio (mid ++ []) = subst (Ranked journal folio) (sym (append-nil mid)) ready.noticing.order.ranked in
    elim (creates_there journal folio m) as (λ b. creates_there journal folio m ≡ b → Ranked journal folio (mid ++ cond (b && is_none (notice m mid)) (e ∷ []) [])) [
      | true ↦ λ creates. elim (is_none (notice m mid)) as (λ b. is_none (notice m mid) ≡ b → Ranked journal folio (mid ++ cond b (e ∷ []) [])) [
        | true ↦ λ lacks.
            ranked_with journal folio mid e p ready.noticing.order.ranked refl (refl, refl) tt (ready.before creates lacks)
            (waited_placed journal folio m mid ready.noticing)
        | false ↦ λ has. nothing
      ] refl
      | false ↦ λ other. nothing
    ] refl

-- the entry of its place neither begins nor ends waiting
place_keeps : (journal : List Receipt) (folio m i : ℕ) (b : Bool) (second third : Bool) → AllByRecursion (λ e. KeepsWaiting e.what) (cond b (entry_by journal i (Title folio) (what.Placed m second third) ∷ []) [])
place_keeps journal folio m i true second third = (tt, tt)
place_keeps journal folio m i false second third = tt

place_of_other : (journal : List Receipt) (folio m i x : ℕ) (b : Bool) (second third : Bool) → (x ≡ m → ⊥) → IsUnplaced x (cond b (entry_by journal i (Title folio) (what.Placed m second third) ∷ []) [])
place_of_other journal folio m i x true second third other =
    (⊎_elim (λ same. absurd (other (sym (eqb-true m x same)))) (λ apart. apart) (cases_Bool (eqb m x)), tt)
place_of_other journal folio m i x false second third other = tt

-- the notices, the place and the contents
abbrev pub with_entry : List Receipt → ℕ → ℕ → ℕ → List Entry → List Entry → List Entry
with_entry journal m i folio mid contents = mid ++ (place_list journal m i folio mid ++ contents)

entry_keeps : (journal : List Receipt) (folio m i : ℕ) (mid contents : List Entry) → AllByRecursion (λ e. IsQuiet e.what) contents
    → AllByRecursion (λ e. KeepsWaiting e.what) (place_list journal m i folio mid ++ contents)
entry_keeps journal folio m i mid contents quiet =
    let acts = acts_of journal m in
    all_both (λ e. KeepsWaiting e.what) (place_list journal m i folio mid) contents
    (place_keeps journal folio m i (creates_there journal folio m && is_none (notice m mid)) (create_in_division false folio acts) (create_in_division true folio acts))
    (quiet_keeps contents quiet)

entry_ranked : (journal : List Receipt) (folio m i : ℕ) (mid contents : List Entry) → IsReady journal folio m mid → AllByRecursion (λ e. IsQuiet e.what) contents
    → Ranked journal folio (with_entry journal m i folio mid contents)
entry_ranked journal folio m i mid contents ready quiet =
    subst (Ranked journal folio) (append_assoc mid (place_list journal m i folio mid) contents)
    (ranked_quiet journal folio (mid ++ place_list journal m i folio mid) contents (ranked_placed journal folio m i mid ready) quiet)

entry_by_notice : (journal : List Receipt) (folio m i : ℕ) (mid contents : List Entry) → IsReady journal folio m mid → AllByRecursion (λ e. IsQuiet e.what) contents
    → PlacedByNoticeBut m (with_entry journal m i folio mid contents)
entry_by_notice journal folio m i mid contents ready quiet =
    let acts = acts_of journal m in
    let place = place_list journal m i folio mid in
    by_notice_on m mid (place ++ contents) (λ x other waits. ready.noticing.order.by_notice x waits)
    (λ x other waits. (
      sym (waits_as_before x mid (place ++ contents) (entry_keeps journal folio m i mid contents quiet)) ∙ waits,
      all_both (λ e. is_placed x e.what ≡ false) place contents
          (place_of_other journal folio m i x (creates_there journal folio m && is_none (notice m mid)) (create_in_division false folio acts) (create_in_division true folio acts) other)
          (quiet_unplaced x contents quiet),
    ))

-- a filing that never waited is entered
pub title_entered : (journal : List Receipt) (folio m i : ℕ) (mid contents : List Entry) → IsReady journal folio m mid → AllByRecursion (λ e. IsQuiet e.what) contents
    → is_pending m mid ≡ false → InOrder journal folio (with_entry journal m i folio mid contents)
title_entered journal folio m i mid contents ready quiet rests = record {
  ranked = entry_ranked journal folio m i mid contents ready quiet;
  by_notice = by_notice_all m (with_entry journal m i folio mid contents) (entry_by_notice journal folio m i mid contents ready quiet)
      (λ waits. absurd (false≢true (sym rests ∙ sym (waits_as_before m mid (place_list journal m i folio mid ++ contents) (entry_keeps journal folio m i mid contents quiet)) ∙ waits)));
}

-- a filing that waited is entered, and waits no longer
pub title_cured : (journal : List Receipt) (folio m i : ℕ) (mid contents : List Entry) → IsReady journal folio m mid → AllByRecursion (λ e. IsQuiet e.what) contents
    → InOrder journal folio (with_entry journal m i folio mid contents ++ entry_by journal i (Title folio) (what.Settled m) ∷ [])
title_cured journal folio m i mid contents ready quiet =
    title_ended_but journal folio m i (Title folio) (with_entry journal m i folio mid contents)
    (entry_ranked journal folio m i mid contents ready quiet) (entry_by_notice journal folio m i mid contents ready quiet)
