-- The rights of a folio stand filing by filing: what is left of them begins with all that are of one filing.
use Rattle.std.proofs.Common.{◌≡◌, ℕ, zero, suc, ◌+◌, ◌<◌, Bool, true, false, cond, eqb, List, [], ◌∷◌, ◌++◌, length, take, drop, map, filter_map, flat_map, Some, None, option_map, refl, sym, ap, subst, ◌∙◌, append_assoc, arith}
use Rattle.std.specs.List.{AllByRecursion, cons_option, prefix_len, range_with_len, slice_get}
use Rattle.std.proofs.Math.Seq.{drop-append_seam, take-append_seam}
use Rattle.std.proofs.lemmas.Bool.{eq-eqb}
use Rattle.std.proofs.lemmas.List.{append-nil}
use Rattle.std.proofs.lemmas.Bool.Decides.{nat_tests}
use Rattle.gb_base.specs.RightNo.{RightNo}
use Rattle.gb_base.specs.declared.keys.Key.{Key}
use Rattle.gb_base.specs.declared.keys.Key.TheVariants.{Right}
use Rattle.act_model.specs.Touches.{new_right}
use Rattle.folio_sections.specs.HeldRights.{last_number, receipt_numbers}
use Rattle.folio_sections.specs.Rights.{created}
use Rattle.folio_sections.specs.declared.entries.Created.{Created}
use Rattle.folio_sections.specs.declared.entries.Entry.{Entry}
use Rattle.folio_sections.proofs.ReceiptNumbers.{numbers_are}
use Rattle.folio_sections.proofs.Unchanged.{all_both, all_weaker}
use Rattle.folio_line.specs.FolioRights.{by_group, right_where, rights_of}
use Rattle.folio_line.specs.declared.folio_rights.CreatedRight.{CreatedRight}
use Rattle.folio_line.specs.inner.FilingRuns.{AreOfFilings, is_of_filing}

-- ---- runs

pub placed_of_filings : (holds : RightNo → List Entry → Bool) (at : Key → List Entry) (folio : ℕ) → AreOfFilings (rights_of holds at folio)
placed_of_filings holds at folio m = by (range_with_len 1 8)
  where
    by : (acts : List ℕ) → AllByRecursion (λ x. is_of_filing m x ≡ true) (filter_map (right_where holds at folio) (map (new_right m) acts))
    by [] = tt
    by (a ∷ acts) =
        elim (cond (holds (new_right m a) (at (Right folio (new_right m a)))) (created (at (Right folio (new_right m a)))) None) as (λ o. AllByRecursion (λ x. is_of_filing m x ≡ true) (cons_option (option_map (λ made. right_of a made) o) (filter_map (right_where holds at folio) (map (new_right m) acts)))) [
          | None ↦ by acts
          | Some made ↦ (eq-eqb m m refl, by acts)
        ]
      where
        right_of : ℕ → Created → CreatedRight
        right_of act made = record { id = new_right m act; made = made }

-- rights of later filings are of no earlier filing
later_filings : (f : ℕ → List CreatedRight) → AreOfFilings f → (m from many : ℕ) → m < from → AllByRecursion (λ x. is_of_filing m x ≡ false) (flat_map f (range_with_len from many))
later_filings f own m from zero above = tt
later_filings f own m from (suc many) above =
    all_both (λ x. is_of_filing m x ≡ false) (f from) (flat_map f (range_with_len (from + 1) many))
    (all_weaker (λ x. is_of_filing from x ≡ true) (λ x. is_of_filing m x ≡ false) (f from) (λ x is. other x.id.receipt is) (own from))
    (later_filings f own m (from + 1) many (omega arith))
  where
    other : (n : ℕ) → eqb n from ≡ true → eqb n m ≡ false
    other n is = grind (arith, nat_tests, is, above)

run_ahead : {X : Type 0} (p : X → Bool) (xs ys : List X) → AllByRecursion (λ x. p x ≡ true) xs → AllByRecursion (λ y. p y ≡ false) ys → prefix_len p (xs ++ ys) ≡ length xs
run_ahead p [] [] pass fail = refl
run_ahead p [] (y ∷ ys) pass fail = ap (λ b. cond b (1 + prefix_len p ys) 0) fail.0
run_ahead p (x ∷ xs) ys pass fail =
    let rest : prefix_len p (xs ++ ys) ≡ length xs = run_ahead p xs ys pass.1 fail in
    ap (λ b. cond b (1 + prefix_len p (xs ++ ys)) 0) pass.0 ∙ omega (arith, rest)

-- ---- what is left of them

-- The rest of all rights begins with those of a filing, and the rights that are done stand by group.
pub record Left (f : ℕ → List CreatedRight) (done rest all : List CreatedRight) : Type 0 where
  pub from : ℕ
  pub many : ℕ
  pub ahead : rest ≡ flat_map f (range_with_len from many)
  pub whole : done ++ flat_map (λ m. by_group (f m)) (range_with_len from many) ≡ all

-- how many rights are of the filing of the first
abbrev pub run_of : CreatedRight → List CreatedRight → ℕ
run_of first rest = prefix_len (is_of_filing first.id.receipt) rest

pub goes_on : (f : ℕ → List CreatedRight) (done rest all : List CreatedRight) (first : CreatedRight) → AreOfFilings f → slice_get rest 0 ≡ Some first → Left f done rest all
    → Left f (done ++ by_group (take (run_of first rest) rest)) (drop (run_of first rest) rest) all
goes_on f done rest all first own is left = by left.from left.many left.ahead left.whole
  where
    run : (from many : ℕ) (xs : List CreatedRight) → f from ≡ xs → rest ≡ xs ++ flat_map f (range_with_len (from + 1) many)
        → (done ++ (by_group xs ++ flat_map (λ m. by_group (f m)) (range_with_len (from + 1) many)) ≡ all)
        → (xs ≡ [] → Left f (done ++ by_group (take (run_of first rest) rest)) (drop (run_of first rest) rest) all)
        → Left f (done ++ by_group (take (run_of first rest) rest)) (drop (run_of first rest) rest) all
    run from many [] here ahead whole later = later refl
    run from many (x ∷ xs) here ahead whole later =
        let behind = flat_map f (range_with_len (from + 1) many) in
        let all_own : AllByRecursion (λ y. is_of_filing from y ≡ true) (x ∷ xs) = subst (AllByRecursion (λ y. is_of_filing from y ≡ true)) here (own from) in
        let same : x ≡ first = cc (sym (ap (λ ys. slice_get ys 0) ahead) ∙ is) in
        let filing : first.id.receipt ≡ from = ap (λ (y : CreatedRight). y.id.receipt) (sym same) ∙ grind (arith, nat_tests, all_own.0) in
        let count : run_of first rest ≡ length (x ∷ xs) =
        (λ i. prefix_len (is_of_filing (filing i)) (ahead i)) ∙ run_ahead (is_of_filing from) (x ∷ xs) behind all_own (later_filings f own from (from + 1) many (omega arith)) in
        let taken : take (run_of first rest) rest ≡ x ∷ xs = (λ i. take (count i) (ahead i)) ∙ take-append_seam (x ∷ xs) behind in
        let dropped : drop (run_of first rest) rest ≡ behind = (λ i. drop (count i) (ahead i)) ∙ drop-append_seam (x ∷ xs) behind in
        record {
          from = from + 1;
          many = many;
          ahead = dropped;
          whole =
              ap (λ ys. (done ++ by_group ys) ++ flat_map (λ m. by_group (f m)) (range_with_len (from + 1) many)) taken
              ∙ append_assoc done (by_group (x ∷ xs)) (flat_map (λ m. by_group (f m)) (range_with_len (from + 1) many)) ∙ whole;
        }

    by : (from many : ℕ) → rest ≡ flat_map f (range_with_len from many) → done ++ flat_map (λ m. by_group (f m)) (range_with_len from many) ≡ all
        → Left f (done ++ by_group (take (run_of first rest) rest)) (drop (run_of first rest) rest) all
    by from zero ahead whole = absurd (cc (sym (ap (λ ys. slice_get ys 0) ahead) ∙ is))
    by from (suc many) ahead whole =
        run from many (f from) refl ahead whole
        (λ none. by (from + 1) many (ahead ∙ ap (λ xs. xs ++ flat_map f (range_with_len (from + 1) many)) none)
        (ap (λ xs. done ++ (by_group xs ++ flat_map (λ m. by_group (f m)) (range_with_len (from + 1) many))) (sym none) ∙ whole))

-- ---- all of them

begins_row : (f : ℕ → List CreatedRight) (n : ℕ) (ms : List ℕ) (rest : List CreatedRight) → ms ≡ range_with_len 1 n → rest ≡ flat_map f ms → Left f [] rest (flat_map (λ m. by_group (f m)) ms)
begins_row f n ms rest is ahead = record { from = 1; many = n; ahead = ahead ∙ ap (flat_map f) is; whole = ap (flat_map (λ m. by_group (f m))) (sym is) }

pub begins : (f : ℕ → List CreatedRight) (rest : List CreatedRight) → rest ≡ flat_map f receipt_numbers → Left f [] rest (flat_map (λ m. by_group (f m)) receipt_numbers)
begins f rest ahead = begins_row f last_number receipt_numbers rest numbers_are ahead

none_left : (f : ℕ → List CreatedRight) (from many : ℕ) → [] ≡ flat_map f (range_with_len from many) → flat_map (λ m. by_group (f m)) (range_with_len from many) ≡ []
none_left f from zero none = refl
none_left f from (suc many) none = by (f from) (λ left. none_left f (from + 1) many left) none
  where
    by : (xs : List CreatedRight) → ([] ≡ flat_map f (range_with_len (from + 1) many) → flat_map (λ m. by_group (f m)) (range_with_len (from + 1) many) ≡ []) → [] ≡ xs ++ flat_map f (range_with_len (from + 1) many) → by_group xs ++ flat_map (λ m. by_group (f m)) (range_with_len (from + 1) many) ≡ []
    by [] behind left = behind left
    by (x ∷ xs) behind left = absurd (cc left)

pub ends : (f : ℕ → List CreatedRight) (done rest all : List CreatedRight) → slice_get rest 0 ≡ None → Left f done rest all → done ≡ all
ends f done [] all none left = sym (append-nil done) ∙ ap (λ xs. done ++ xs) (sym (none_left f left.from left.many left.ahead)) ∙ left.whole
ends f done (x ∷ rest) all none left = absurd (cc none)
