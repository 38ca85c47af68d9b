-- The applicants of those filings that wait at a right and stand above a number: the ones that a loop still has to ask.
use Rattle.std.proofs.Common.{◌≡◌, ℕ, ◌<◌, Bool, true, false, ◌||◌, List, [], ◌∷◌, length, filter_map, find, Option, Some, None, option_and_then, is_some, refl, sym, ap, ◌∙◌, arith}
use Rattle.std.specs.List.{last_or, list_any}
use Rattle.std.specs.Option.{option_eq, option_map_or}
use Rattle.std.proofs.lemmas.Bool.{false≢true, or_right}
use Rattle.act_model.specs.declared.receipts.Receipt.{Receipt}
use Rattle.act_model.specs.Touches.{applicant_of}
use Rattle.folio_sections.specs.Waiting.{is_above, waiting_before}
use Rattle.folio_sections.specs.declared.entries.Entry.{Entry}
use Rattle.folio_sections.proofs.FirstAbove.{all_above, first_above, none_above, waiting_ascend}
use Rattle.consent_rules.specs.Persons.{waiting_applicants}
use Rattle.consent_rules.specs.inner.WaitersAbove.{applicants_above, left_above}
use Rattle.consent_rules.proofs.ListLemmas.{any_given}

-- at first all are left
pub all_left : (p : ℕ → Bool) (journal : List Receipt) (m : ℕ) (entries : List Entry)
    → list_any p (applicants_above journal None m entries) ≡ list_any p (waiting_applicants journal m entries)
all_left p journal m entries = ap (λ ns. list_any p (filter_map (applicant_of journal) ns)) (all_above (waiting_before m entries))

-- the one that is found is the first of those left
first_left : (after : Option ℕ) (m n : ℕ) (entries : List Entry) → Some n ≡ find (is_above after) (waiting_before m entries)
    → left_above after m entries ≡ n ∷ left_above (Some n) m entries
first_left after m n entries is = first_above after (waiting_before m entries) n (waiting_ascend m entries) (sym is)

-- so one fewer is left after it
pub fewer_left : (after : Option ℕ) (m n : ℕ) (entries : List Entry) → Some n ≡ find (is_above after) (waiting_before m entries)
    → length (left_above (Some n) m entries) < length (left_above after m entries)
fewer_left after m n entries is = let count = ap length (first_left after m n entries is) in omega arith

-- so one of those left passes a test just where its applicant passes, or one of those after it
next_left : (p : ℕ → Bool) (journal : List Receipt) (after : Option ℕ) (m n : ℕ) (entries : List Entry) → Some n ≡ find (is_above after) (waiting_before m entries)
    → list_any p (applicants_above journal after m entries) ≡ (option_map_or p (applicant_of journal n) false || list_any p (applicants_above journal (Some n) m entries))
next_left p journal after m n entries is =
    ap (λ ns. list_any p (filter_map (applicant_of journal) ns)) (first_left after m n entries is)
    ∙ any_given p (applicant_of journal n) (applicants_above journal (Some n) m entries)

-- so the answer of its applicant, or of those after it, is that of all whom the walk asks
pub asked_first : {all : Bool} (p : ℕ → Bool) (journal : List Receipt) (after : Option ℕ) (m n : ℕ) (b : Bool) (entries : List Entry) → Some n ≡ find (is_above after) (waiting_before m entries)
    → list_any p (applicants_above journal after m entries) ≡ all → option_map_or p (applicant_of journal n) false ≡ b
    → (b || list_any p (applicants_above journal (Some n) m entries)) ≡ all
asked_first p journal after m n b entries is so_far answer =
    ap (λ c. c || list_any p (applicants_above journal (Some n) m entries)) (sym answer) ∙ sym (next_left p journal after m n entries is) ∙ so_far

-- of two walks in turn: the answer of those whom both ask next, or of those after them, is that of all whom both ask
pub asked_both : {all : Bool} (p : ℕ → Bool) (journal : List Receipt) (ahead behind next : Option ℕ) (s m n : ℕ) (b c : Bool) (entries : List Entry) → Some n ≡ find (is_above ahead) (waiting_before s entries)
    → (list_any p (applicants_above journal ahead s entries) || list_any p (applicants_above journal behind m entries)) ≡ all → option_map_or p (applicant_of journal n) false ≡ b
    → (c || list_any p (applicants_above journal next m entries)) ≡ list_any p (applicants_above journal behind m entries)
    → ((b || list_any p (applicants_above journal (Some n) s entries)) || (c || list_any p (applicants_above journal next m entries))) ≡ all
asked_both p journal ahead behind next s m n b c entries is so_far answer other =
    ap (λ x. x || (c || list_any p (applicants_above journal next m entries))) (asked_first p journal ahead s n b entries is refl answer)
    ∙ ap (λ y. list_any p (applicants_above journal ahead s entries) || y) other ∙ so_far

-- where none is found, none is left, and so none passes
pub none_pass : {all : Bool} (p : ℕ → Bool) (journal : List Receipt) (after : Option ℕ) (m : ℕ) (entries : List Entry) → None ≡ find (is_above after) (waiting_before m entries)
    → list_any p (applicants_above journal after m entries) ≡ all
    → false ≡ all
none_pass p journal after m entries is so_far =
    ap (λ ns. list_any p (filter_map (applicant_of journal) ns)) (sym (none_above (is_above after) (waiting_before m entries) (sym is))) ∙ so_far

-- where no filing waits, nobody passes
pub none_wait : (p : ℕ → Bool) (journal : List Receipt) (m : ℕ) (entries : List Entry) → is_some (find (is_above None) (waiting_before m entries)) ≡ false
    → false ≡ list_any p (waiting_applicants journal m entries)
none_wait p journal m entries none = none_pass p journal None m entries (not_some _ none) (all_left p journal m entries)
  where
    not_some : (o : Option ℕ) → is_some o ≡ false → None ≡ o
    not_some (Some n) some = absurd (false≢true (sym some))
    not_some None some = refl

-- where the applicant of the last filing passes, one of all passes
pub last_passes : (p : ℕ → Bool) (journal : List Receipt) (m : ℕ) (entries : List Entry) → option_map_or p (option_and_then (applicant_of journal) (last_or None (waiting_before m entries))) false ≡ true
    → true ≡ list_any p (waiting_applicants journal m entries)
last_passes p journal m entries is = sym (among (waiting_before m entries) is)
  where
    among : (ns : List ℕ) → option_map_or p (option_and_then (applicant_of journal) (last_or None ns)) false ≡ true → list_any p (filter_map (applicant_of journal) ns) ≡ true
    among [] it = it
    among (n ∷ []) it = any_given p (applicant_of journal n) [] ∙ ap (λ b. b || false) it
    among (n ∷ k ∷ ns) it = any_given p (applicant_of journal n) (filter_map (applicant_of journal) (k ∷ ns)) ∙ or_right (option_map_or p (applicant_of journal n) false) _ (among (k ∷ ns) it)

-- an optional value is there and equals this one
pub given_is : (e : ℕ → ℕ → Bool) (o : Option ℕ) (y : ℕ) → option_map_or (λ x. e x y) o false ≡ option_eq e o (Some y)
given_is e (Some x) y = refl
given_is e None y = refl
