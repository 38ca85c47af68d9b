-- The case at a forced sale with one entry more.
use Rattle.std.proofs.Common.{◌≡◌, ℕ, ◌+◌, ◌-◌, Bool, true, false, cond, not, nat_lt, min, ◌||◌, List, [], ◌∷◌, ◌++◌, Option, None, drop, fold, length, count_by, refl, sym, ap, ◌∙◌, arith}
use Rattle.std.specs.List.{after_last, list_any, prefix_len, suffix_len}
use Rattle.std.proofs.lemmas.Bool.Decides.{nat_tests}
use Rattle.std.proofs.lemmas.List.{drop-append-le, reverse-append}
use Rattle.std.proofs.lemmas.List.Sums.{fold-append, sum_by-append, sum_by-cons, suffix_len-le-length}
use Rattle.folio_sections.specs.Cases.{award_by, call_by, case, is_distribution, is_registration, is_seizure, registrations, seizures}
use Rattle.folio_sections.specs.declared.case_part.Running.{Running}
use Rattle.folio_sections.specs.declared.entries.Entry.{Entry}
use Rattle.folio_sections.specs.declared.entries.What.{What}
use Rattle.folio_sections.specs.declared.entries.What.TheVariants as what
use Rattle.folio_sections.specs.inner.States.{IsRunning, most_counted, running_behind}
use Rattle.folio_sections.proofs.Naming.{length_push}

-- ---- after the last that passes

dropped : {X : Type 0} (xs : List X) → drop (length xs) xs ≡ []
dropped [] = refl
dropped (x ∷ xs) = dropped xs

-- how many fail from the end back
fail_push : {X : Type 0} (p : X → Bool) (xs : List X) (x : X) → suffix_len (λ y. not (p y)) (xs ++ x ∷ []) ≡ cond (not (p x)) (1 + suffix_len (λ y. not (p y)) xs) 0
fail_push p xs x = ap (prefix_len (λ y. not (p y))) (reverse-append xs (x ∷ []))

pub behind_another : {X : Type 0} (p : X → Bool) (xs : List X) (x : X) → p x ≡ true → after_last p (xs ++ x ∷ []) ≡ []
behind_another p xs x is =
    let none : suffix_len (λ y. not (p y)) (xs ++ x ∷ []) ≡ 0 = fail_push p xs x ∙ ap (λ b. cond (not b) (1 + suffix_len (λ y. not (p y)) xs) 0) is in
    let all : length (xs ++ x ∷ []) - 0 ≡ length (xs ++ x ∷ []) = omega arith in
    ap (λ n. drop (length (xs ++ x ∷ []) - n) (xs ++ x ∷ [])) none ∙ ap (λ n. drop n (xs ++ x ∷ [])) all ∙ dropped (xs ++ x ∷ [])

pub behind_more : {X : Type 0} (p : X → Bool) (xs : List X) (x : X) → p x ≡ false → after_last p (xs ++ x ∷ []) ≡ after_last p xs ++ x ∷ []
behind_more p xs x fails_it =
    let fails = suffix_len (λ y. not (p y)) xs in
    let more : suffix_len (λ y. not (p y)) (xs ++ x ∷ []) ≡ 1 + fails = fail_push p xs x ∙ ap (λ b. cond (not b) (1 + fails) 0) fails_it in
    let len : length (xs ++ x ∷ []) ≡ length xs + 1 = length_push xs x in
    let few = suffix_len-le-length (λ y. not (p y)) xs in
    let start : length (xs ++ x ∷ []) - suffix_len (λ y. not (p y)) (xs ++ x ∷ []) ≡ length xs - fails = omega arith in
    ap (λ n. drop n (xs ++ x ∷ [])) start ∙ drop-append-le (length xs - fails) xs (x ∷ []) (omega arith)

-- ---- counted

pub count_push : {X : Type 0} (p : X → Bool) (xs : List X) (x : X) → count_by p (xs ++ x ∷ []) ≡ count_by p xs + cond (p x) 1 0
count_push p xs x =
    let both = sum_by-append (λ y. cond (p y) 1 0) xs (x ∷ []) in
    omega arith

-- some pass exactly where their number is above 0
pub counted_any : {X : Type 0} (p : X → Bool) (xs : List X) → nat_lt 0 (min (count_by p xs) most_counted) ≡ list_any p xs
counted_any p [] = refl
counted_any p (x ∷ xs) =
    let rest = counted_any p xs in
    ap (λ n. nat_lt 0 (min n most_counted)) (sum_by-cons (λ y. cond (p y) 1 0) x xs)
    ∙ elim (p x) as (λ b. nat_lt 0 (min (cond b 1 0 + count_by p xs) most_counted) ≡ (b || list_any p xs)) [
      | true ↦ grind (arith, nat_tests)
      | false ↦
          let none_more : cond {A = ℕ} false 1 0 + count_by p xs ≡ count_by p xs = omega arith in
          ap (λ n. nat_lt 0 (min n most_counted)) none_more ∙ rest
    ]

-- a count that stops at the most that is counted
capped : (n more : ℕ) → min (min n most_counted + more) most_counted ≡ min (n + more) most_counted
capped n more = omega arith

-- ---- the case

-- what a walk over the case reads, with one entry more that ends none
walked_on : {B : Type 0} (f : B → Entry → B) (start : B) (xs : List Entry) (e : Entry) → is_distribution e.what ≡ false → fold f start (case (xs ++ e ∷ [])) ≡ f (fold f start (case xs)) e
walked_on f start xs e stays = ap (fold f start) (behind_more (λ d. is_distribution d.what) xs e stays) ∙ fold-append f start (case xs) (e ∷ [])

counted_on : (p : Entry → Bool) (xs : List Entry) (e : Entry) → is_distribution e.what ≡ false → count_by p (case (xs ++ e ∷ [])) ≡ count_by p (case xs) + cond (p e) 1 0
counted_on p xs e stays = ap (count_by p) (behind_more (λ d. is_distribution d.what) xs e stays) ∙ count_push p (case xs) e

-- an entry that ends no case leaves this case, where these are its numbers of seizures and registrations, its award and its call
goes_on : (c : Running) (xs : List Entry) (e : Entry) → is_distribution e.what ≡ false → IsRunning c xs → (s r : ℕ) (a b : Option ℕ)
    → s ≡ min (c.seizures + cond (is_seizure e.what) 1 0) most_counted → r ≡ min (c.registrations + cond (is_registration e.what) 1 0) most_counted
    → a ≡ award_by e.receipt c.award e.what → b ≡ call_by e.receipt c.called e.what
    → IsRunning (record { begin = c.begin; seizures = s; registrations = r; award = a; called = b }) (xs ++ e ∷ [])
goes_on c xs e stays is s r a b seized registered awarded called =
    let len = length_push xs e in
    let within = is.within in
    record {
      begin = behind_more (λ d. is_distribution d.what) xs e stays ∙ ap (λ ys. ys ++ e ∷ []) is.begin ∙ sym (drop-append-le c.begin xs (e ∷ []) is.within);
      within = omega arith;
      seizures = let more = counted_on (λ d. is_seizure d.what) xs e stays in
          let before = is.seizures in
          seized ∙ ap (λ n. min (n + cond (is_seizure e.what) 1 0) most_counted) is.seizures ∙ capped (seizures xs) (cond (is_seizure e.what) 1 0) ∙ ap (λ n. min n most_counted) (sym more);
      registrations = let more = counted_on (λ d. is_registration d.what) xs e stays in
          registered ∙ ap (λ n. min (n + cond (is_registration e.what) 1 0) most_counted) is.registrations ∙ capped (registrations xs) (cond (is_registration e.what) 1 0) ∙ ap (λ n. min n most_counted) (sym more);
      award = awarded ∙ ap (λ o. award_by e.receipt o e.what) is.award ∙ sym (walked_on (λ o d. award_by d.receipt o d.what) None xs e stays);
      called = called ∙ ap (λ o. call_by e.receipt o e.what) is.called ∙ sym (walked_on (λ o d. call_by d.receipt o d.what) None xs e stays);
    }

begins_anew : (xs : List Entry) (e : Entry) → is_distribution e.what ≡ true
    → IsRunning (record { begin = length xs + 1; seizures = 0; registrations = 0; award = None; called = None }) (xs ++ e ∷ [])
begins_anew xs e is =
    let len = length_push xs e in
    let empty = behind_another (λ d. is_distribution d.what) xs e is in
    record {
      begin = empty ∙ sym (ap (λ n. drop n (xs ++ e ∷ [])) (sym len) ∙ dropped (xs ++ e ∷ []));
      within = omega arith;
      seizures = ap (λ ys. min (count_by (λ d. is_seizure d.what) ys) most_counted) (sym empty);
      registrations = ap (λ ys. min (count_by (λ d. is_registration d.what) ys) most_counted) (sym empty);
      award = ap (fold (λ o d. award_by d.receipt o d.what) None) (sym empty);
      called = ap (fold (λ o d. call_by d.receipt o d.what) None) (sym empty);
    }

-- a count that nothing is added to stays as it is
unseen : (n m : ℕ) → n ≡ min m most_counted → n ≡ min (n + 0) most_counted
unseen n m is = omega (arith, is)

pub running_push : (c : Running) (xs : List Entry) (e : Entry) (w : What) → e.what ≡ w → IsRunning c xs → IsRunning (running_behind (length xs) c e.receipt w) (xs ++ e ∷ [])
running_push c xs e what.Distributed is run = begins_anew xs e (ap is_distribution is)
running_push c xs e what.Seized is run =
    goes_on c xs e (ap is_distribution is) run _ _ _ _ (ap (λ w. min (c.seizures + cond (is_seizure w) 1 0) most_counted) (sym is))
    (unseen _ _ run.registrations ∙ ap (λ w. min (c.registrations + cond (is_registration w) 1 0) most_counted) (sym is))
    (ap (award_by e.receipt c.award) (sym is)) (ap (call_by e.receipt c.called) (sym is))
running_push c xs e what.Registered is run =
    goes_on c xs e (ap is_distribution is) run _ _ _ _ (unseen _ _ run.seizures ∙ ap (λ w. min (c.seizures + cond (is_seizure w) 1 0) most_counted) (sym is))
    (ap (λ w. min (c.registrations + cond (is_registration w) 1 0) most_counted) (sym is))
    (ap (award_by e.receipt c.award) (sym is)) (ap (call_by e.receipt c.called) (sym is))
running_push c xs e (what.Awarded buyer bid) is run =
    goes_on c xs e (ap is_distribution is) run _ _ _ _ (unseen _ _ run.seizures ∙ ap (λ w. min (c.seizures + cond (is_seizure w) 1 0) most_counted) (sym is))
    (unseen _ _ run.registrations ∙ ap (λ w. min (c.registrations + cond (is_registration w) 1 0) most_counted) (sym is))
    (ap (award_by e.receipt c.award) (sym is)) (ap (call_by e.receipt c.called) (sym is))
running_push c xs e (what.Bids costs) is run =
    goes_on c xs e (ap is_distribution is) run _ _ _ _ (unseen _ _ run.seizures ∙ ap (λ w. min (c.seizures + cond (is_seizure w) 1 0) most_counted) (sym is))
    (unseen _ _ run.registrations ∙ ap (λ w. min (c.registrations + cond (is_registration w) 1 0) most_counted) (sym is))
    (ap (award_by e.receipt c.award) (sym is)) (ap (call_by e.receipt c.called) (sym is))
running_push c xs e other is run =
    goes_on c xs e (ap is_distribution is) run _ _ _ _ (unseen _ _ run.seizures ∙ ap (λ w. min (c.seizures + cond (is_seizure w) 1 0) most_counted) (sym is))
    (unseen _ _ run.registrations ∙ ap (λ w. min (c.registrations + cond (is_registration w) 1 0) most_counted) (sym is))
    (ap (award_by e.receipt c.award) (sym is)) (ap (call_by e.receipt c.called) (sym is))
