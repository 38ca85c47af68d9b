-- Who has no certified consent in the cure of the first consent or an earlier one.
use Rattle.std.proofs.Common.{◌≡◌, ℕ, ◌<◌, ◌≤◌, Bool, true, false, cond, eqb, ◌&&◌, ◌||◌, nat_lt, List, [], ◌∷◌, ◌++◌, filter, length, Option, Some, None, is_none, not, refl, sym, subst, ap, ◌∙◌, arith, le_trans}
use Rattle.std.specs.List.{list_any}
use Rattle.std.specs.Option.{option_or}
use Rattle.std.proofs.lemmas.Bool.{and_parts, eqb-true, false≢true}
use Rattle.std.proofs.lemmas.Bool.Decides.{nat_tests}
use Rattle.act_model.specs.declared.cure_documents.Consenter.{Consenter}
use Rattle.act_model.specs.declared.cure_documents.CureDocuments.{CureDocuments}
use Rattle.act_model.specs.declared.documents.Doc.{Doc}
use Rattle.act_model.specs.declared.documents.Doc.TheVariants as doc
use Rattle.act_model.specs.declared.firsts.DocumentOf.{DocumentOf}
use Rattle.act_model.specs.declared.items.Item.{Item}
use Rattle.act_model.specs.declared.items.Item.TheVariants as item
use Rattle.act_model.specs.declared.receipts.Receipt.{Receipt}
use Rattle.act_model.specs.declared.sought.Sought.{Sought}
use Rattle.act_model.specs.declared.sought.Sought.TheVariants as sought
use Rattle.act_model.specs.DocumentTests.{is_certified_consent_of}
use Rattle.act_model.specs.Sought.{is_sought}
use Rattle.act_model.specs.inner.CureDocuments.{comes_behind, consenter_of, consenters_to, firsts_with, found_by, found_in, is_certified_among, is_first_consent, is_plain_first, key_of, new_consenters, plain_consenters_to, AgreeTo, AreDocumentsOf, ArePlain, Finds, Rises}
use Rattle.act_model.specs.inner.Firsts.{first, first_cure}
use Rattle.act_model.proofs.DocumentKeys.{or_twice}
use Rattle.act_model.proofs.DocumentRoom.{eqb-itself}

-- ---- with one document more

filter_append : {X : Type 0} (p : X → Bool) (xs ys : List X) → filter p (xs ++ ys) ≡ filter p xs ++ filter p ys
filter_append p [] ys = refl
filter_append p (x ∷ xs) ys =
    ap (λ rest. cond (p x) (x ∷ rest) rest) (filter_append p xs ys) ∙ either (p x)
  where
    either : (b : Bool) → cond b (x ∷ filter p xs ++ filter p ys) (filter p xs ++ filter p ys) ≡ cond b (x ∷ filter p xs) (filter p xs) ++ filter p ys
    either true = refl
    either false = refl

no_number : (o : Option ℕ) → is_none o ≡ true → o ≡ None
no_number None e = refl
no_number (Some x) e = absurd (false≢true e)

not_itself : (n : ℕ) → nat_lt n n ≡ false
not_itself n = grind (arith, nat_tests)

-- a certified consent in receipt n does not come after receipt n
unless_certified : (n : ℕ) (certified : Bool) → comes_behind n (cond certified (Some n) None) ≡ not certified
unless_certified n true = not_itself n
unless_certified n false = refl

-- who is added to the list of all is added to the plain ones where the test passes
one_comes : (p : Consenter → Bool) (c : Consenter) (here none certified : Bool) → (here ≡ true → none ≡ true → p c ≡ not certified)
    → cond (here && (none && not certified)) (c ∷ []) [] ≡ filter p (cond (here && none) (c ∷ []) [])
one_comes p c true true certified is = ap (λ b. cond b (c ∷ []) []) (sym (is refl refl))
one_comes p c true false certified is = refl
one_comes p c false none certified is = refl

-- who is added to the plain ones with a document
plain_comes : (old : CureDocuments) (n filing : ℕ) (docs : List Doc) (d : Doc) (m a : ℕ)
    → ((m a p : ℕ) → first old.firsts (key_of m (sought.Consent a p)) ≡ None → first old.firsts (key_of m (sought.Certified a p)) ≡ None)
    → consenter_of n filing d (is_first_consent old filing d && not (is_certified_among docs d)) m a
    ≡ filter (is_plain_first (firsts_with old (found_in n filing docs)) m a) (new_consenters n old filing d m a)
plain_comes old n filing docs (doc.Consent act p given) m a certified =
    one_comes (is_plain_first (firsts_with old (found_in n filing docs)) m a) (record { person = p; first = n }) (eqb filing m && eqb act a)
    (is_none (first old.firsts (key_of filing (sought.Consent act p)))) (list_any (is_certified_consent_of act p) docs)
    (λ same none.
    let parts = and_parts (eqb filing m) (eqb act a) same in
    (λ i. comes_behind n (firsts_with old (found_in n filing docs) (sym (eqb-true filing m parts.0) i) (sought.Certified (sym (eqb-true act a parts.1) i) p)))
    ∙ ap (λ o. comes_behind n (option_or o (found_in n filing docs (key_of filing (sought.Certified act p)))))
    (certified filing act p (no_number (first old.firsts (key_of filing (sought.Consent act p))) none))
    ∙ ap (λ b. comes_behind n (cond (b && list_any (is_certified_consent_of act p) docs) (Some n) None)) (eqb-itself filing)
    ∙ unless_certified n (list_any (is_certified_consent_of act p) docs))
plain_comes old n filing docs (doc.Agreement act) m a certified = refl
plain_comes old n filing docs (doc.TaxClearance act) m a certified = refl
plain_comes old n filing docs (doc.ExpiryProof act) m a certified = refl

-- one document more: who is listed as plain, by what it and those after it bring
pub plain_then : (old new : CureDocuments) (n filing : ℕ) (docs : List Doc) (d : Doc) → AgreeTo n old → ArePlain old (firsts_with old (found_in n filing docs))
    → ((m a : ℕ) → consenters_to new m a ≡ consenters_to old m a ++ new_consenters n old filing d m a)
    → ((m a : ℕ) → plain_consenters_to new m a ≡ plain_consenters_to old m a ++ consenter_of n filing d (is_first_consent old filing d && not (is_certified_among docs d)) m a)
    → ArePlain new (firsts_with old (found_in n filing docs))
plain_then old new n filing docs d agree plain listed plain_listed m a =
    let passes = is_plain_first (firsts_with old (found_in n filing docs)) m a in
    plain_listed m a
    ∙ (λ i. plain m a i ++ plain_comes old n filing docs d m a agree.certified i)
    ∙ sym (filter_append passes (consenters_to old m a) (new_consenters n old filing d m a))
    ∙ ap (filter passes) (sym (listed m a))

one_or_rest : (t x y : Bool) → ((t && (x || false)) || (t && y)) ≡ (t && (x || y))
one_or_rest true true y = refl
one_or_rest true false y = refl
one_or_rest false x y = refl

-- what is found with one document and then with the others is found with all
pub firsts_go_on : (old new : CureDocuments) (n filing : ℕ) (docs : List Doc) (d : Doc) (rest : List Doc) → docs ≡ d ∷ rest → Finds old new (found_in n filing (d ∷ []))
    → firsts_with new (found_in n filing rest) ≡ firsts_with old (found_in n filing docs)
firsts_go_on old new n filing docs d rest is finds = λ i m s. at_key m s i
  where
    at_key : (m : ℕ) (s : Sought) → firsts_with new (found_in n filing rest) m s ≡ firsts_with old (found_in n filing docs) m s
    at_key m s =
        ap (λ o. option_or o (found_in n filing rest (key_of m s))) (finds (key_of m s))
        ∙ or_twice n (first old.firsts (key_of m s)) (eqb filing m && (is_sought s d || false)) (eqb filing m && list_any (is_sought s) rest)
        ∙ ap (λ b. option_or (first old.firsts (key_of m s)) (cond b (Some n) None)) (one_or_rest (eqb filing m) (is_sought s d) (list_any (is_sought s) rest))
        ∙ ap (λ ds. option_or (first old.firsts (key_of m s)) (found_in n filing ds (key_of m s))) (sym is)

-- ---- with one receipt more

-- the first cures with what a cure of an earlier filing brings
pub firsts_by_cure : (old : CureDocuments) (n m : ℕ) (i : Item) (docs : List Doc) → i ≡ item.Cure m docs → nat_lt m n ≡ true
    → firsts_with old (found_by n i) ≡ firsts_with old (found_in n m docs)
firsts_by_cure old n m i docs is behind =
    ap (λ x. firsts_with old (found_by n x)) is ∙ (λ j k s. option_or (first old.firsts (key_of k s)) (cond (behind j) (found_in n m docs (key_of k s)) None))

-- what a later receipt brings comes after an earlier one
found_behind : (f n : ℕ) (i : Item) (k : DocumentOf) → nat_lt f n ≡ true → comes_behind f (found_by n i k) ≡ true
found_behind f n (item.Cure m docs) k later = either (nat_lt m n) (eqb m k.filing && list_any (is_sought k.sought) docs)
  where
    either : (a b : Bool) → comes_behind f (cond a (cond b (Some n) None) None) ≡ true
    either true true = later
    either true false = refl
    either false b = refl
found_behind f n other k later = refl

behind_as_before : (f n : ℕ) (i : Item) (k : DocumentOf) (o : Option ℕ) → nat_lt f n ≡ true → comes_behind f o ≡ comes_behind f (option_or o (found_by n i k))
behind_as_before f n i k None later = sym (found_behind f n i k later)
behind_as_before f n i k (Some x) later = refl

-- among those whose consents come before receipt n, who is plain stays so, whatever receipt n brings
plain_ahead : (documents : CureDocuments) (journal : List Receipt) (n : ℕ) (i : Item) (m a from last : ℕ) (cs : List Consenter)
    → ((k : ℕ) (s : Sought) → first documents.firsts (key_of k s) ≡ first_cure journal k s) → last < n → Rises from last cs
    → filter (is_plain_first (first_cure journal) m a) cs ≡ filter (is_plain_first (firsts_with documents (found_by n i)) m a) cs
plain_ahead documents journal n i m a from last [] firsts ahead up = refl
plain_ahead documents journal n i m a from last (c ∷ cs) firsts ahead up =
    let within = up.1.0 in
    let later : nat_lt c.first n ≡ true = grind (arith, nat_tests, within, ahead) in
    let s = sought.Certified a c.person in
    let same : is_plain_first (first_cure journal) m a c ≡ is_plain_first (firsts_with documents (found_by n i)) m a c =
    ap (comes_behind c.first) (sym (firsts m s)) ∙ behind_as_before c.first n i (key_of m s) (first documents.firsts (key_of m s)) later in
    λ j. cond (same j) (c ∷ plain_ahead documents journal n i m a c.first last cs firsts ahead up.1.1 j) (plain_ahead documents journal n i m a c.first last cs firsts ahead up.1.1 j)

pub plain_later : (documents : CureDocuments) (journal : List Receipt) (n : ℕ) (i : Item) → length journal < n → AreDocumentsOf documents journal
    → ArePlain documents (firsts_with documents (found_by n i))
plain_later documents journal n i ahead are m a =
    are.plain m a ∙ plain_ahead documents journal n i m a 0 (length journal) (consenters_to documents m a) are.first ahead (are.agree.rise m a)

-- ---- walked up to a receipt

rises_sooner : (from k last : ℕ) (cs : List Consenter) → from ≤ k → Rises k last cs → Rises from last cs
rises_sooner from k last [] le up = tt
rises_sooner from k last (c ∷ cs) le up = (le_trans le up.0, up.1)

rises_among : (p : Consenter → Bool) (from last : ℕ) (cs : List Consenter) → Rises from last cs → Rises from last (filter p cs)
rises_among p from last [] up = tt
rises_among p from last (c ∷ cs) up = elim (p c) as (λ b. Rises from last (cond b (c ∷ filter p cs) (filter p cs))) [
  | true ↦ (up.0, (up.1.0, rises_among p c.first last cs up.1.1))
  | false ↦ rises_sooner from c.first last (filter p cs) up.0 (rises_among p c.first last cs up.1.1)
]

-- those who are plain stand in the order of receipts too
pub plain_rise : (documents : CureDocuments) (journal : List Receipt) (m a : ℕ) → AreDocumentsOf documents journal → Rises 0 (length journal) (plain_consenters_to documents m a)
plain_rise documents journal m a are = subst (Rises 0 (length journal)) (sym (are.plain m a)) (rises_among (is_plain_first (first_cure journal) m a) 0 (length journal) (consenters_to documents m a) (are.agree.rise m a))
