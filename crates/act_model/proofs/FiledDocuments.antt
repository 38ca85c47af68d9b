-- A test of the documents that count for a filing: of its own, and of those that cures bring up to an item.
use Rattle.std.proofs.Common.{◌≡◌, ℕ, ◌+◌, ◌<◌, Bool, true, false, cond, eqb, ◌&&◌, ◌||◌, nat_le, nat_lt, List, [], ◌∷◌, ◌++◌, filter, find, flat_map, length, Option, Some, None, refl, sym, ap, ◌∙◌, ⊎_elim, arith}
use Rattle.std.specs.Cmp.{both_ways}
use Rattle.std.specs.List.{cons_option, enumerate_from, filter_map, list_any}
use Rattle.std.specs.Option.{option_map_or}
use Rattle.std.proofs.lemmas.Bool.{and_from, and_parts, eqb-true, false≢true, or_cases, or_left, or_right}
use Rattle.std.proofs.lemmas.Bool.Decides.{nat_tests}
use Rattle.std.proofs.lemmas.List.Folds.{list_any-append}
use Rattle.gb_base.specs.Limits.{is_between}
use Rattle.act_model.specs.declared.cure_documents.Consenter.{Consenter}
use Rattle.act_model.specs.declared.cure_documents.CureDocuments.{CureDocuments}
use Rattle.act_model.specs.declared.documents.Doc.{Doc}
use Rattle.act_model.specs.declared.documents.Doc.TheVariants as doc
use Rattle.act_model.specs.declared.documents.Form.TheVariants as form
use Rattle.act_model.specs.declared.matters.Matter.{Matter}
use Rattle.act_model.specs.declared.receipts.Receipt.{Receipt}
use Rattle.act_model.specs.declared.sought.Sought.{Sought}
use Rattle.act_model.specs.declared.sought.Sought.TheVariants as sought
use Rattle.act_model.specs.Cures.{cure_of, cures, cures_of}
use Rattle.act_model.specs.Documents.{act_of_doc, docs_by_cure, docs_of, is_consent_by, is_consent_of}
use Rattle.act_model.specs.Sought.{act_sought, is_sought}
use Rattle.act_model.specs.inner.CureDocuments.{consenters_to, is_consenter, AreDocumentsOf}
use Rattle.act_model.specs.inner.FiledConsents.{consents_with}
use Rattle.act_model.specs.inner.Firsts.{first_cure}
use Rattle.act_model.proofs.ApplicantFilings.{nothing}
use Rattle.act_model.proofs.ConsenterLemmas.{is_known}
use Rattle.act_model.proofs.CureOrder.{any_brought, none_above}
use Rattle.act_model.proofs.DocumentRoom.{eqb-itself}

-- ---- documents of one act

-- one document more: it counts where it passes and the filing has its act
one_more : (p : Doc → Bool) (d : Doc) (docs : List Doc) (t b passes rest : Bool) → p d ≡ passes → (passes ≡ true → t ≡ b) → list_any p docs ≡ (b && rest) → list_any p (cond t (d ∷ docs) docs) ≡ (b && (passes || rest))
one_more p d docs true b true rest is same so_far = ap (λ x. x || list_any p docs) is ∙ ap (λ c. c && true) (same refl)
one_more p d docs true b false rest is same so_far = ap (λ x. x || list_any p docs) is ∙ so_far
one_more p d docs false b true rest is same so_far = so_far ∙ ap (λ c. c && rest) (sym (same refl)) ∙ ap (λ c. c && true) (same refl)
one_more p d docs false b false rest is same so_far = so_far

-- documents of one act count where the filing has this act
of_one_act : (p : Doc → Bool) (a acts : ℕ) → ((d : Doc) → p d ≡ true → act_of_doc d ≡ a) → (docs : List Doc)
    → list_any p (filter (λ d. is_between 1 acts (act_of_doc d)) docs) ≡ (is_between 1 acts a && list_any p docs)
of_one_act p a acts same [] = nothing (is_between 1 acts a)
of_one_act p a acts same (d ∷ docs) =
    one_more p d (filter (λ x. is_between 1 acts (act_of_doc x)) docs) (is_between 1 acts (act_of_doc d)) (is_between 1 acts a) (p d) (list_any p docs) refl
    (λ passes. ap (is_between 1 acts) (same d passes)) (of_one_act p a acts same docs)

-- what the cures of filing m bring up to receipt i
abbrev pub brought_up_to : List Receipt → ℕ → ℕ → List Doc
brought_up_to journal m i = flat_map (docs_by_cure journal) (filter (λ n. nat_le n i) (cures_of journal m))

pub counted : (p : Doc → Bool) (a : ℕ) → ((d : Doc) → p d ≡ true → act_of_doc d ≡ a) → (matter : Matter)
    → list_any p (docs_of matter) ≡ (is_between 1 (length matter.filing.now.acts) a && (list_any p matter.filing.now.docs || list_any p (brought_up_to matter.journal.now.receipts matter.number matter.item)))
unfolding docs_of
counted p a same matter =
    of_one_act p a (length matter.filing.now.acts) same (matter.filing.now.docs ++ brought_up_to matter.journal.now.receipts matter.number matter.item)
    ∙ ap (λ b. is_between 1 (length matter.filing.now.acts) a && b) (list_any-append p matter.filing.now.docs (brought_up_to matter.journal.now.receipts matter.number matter.item))

-- ---- the first cure that passes

one_up_to : (p : ℕ → Bool) (i k : ℕ) (ns : List ℕ) (t passes : Bool) → nat_le k i ≡ t → (t ≡ false → list_any (λ n. nat_le n i && p n) ns ≡ false)
    → list_any (λ n. nat_le n i && p n) ns ≡ option_map_or (λ n. nat_le n i) (find p ns) false
    → ((t && passes) || list_any (λ n. nat_le n i && p n) ns) ≡ option_map_or (λ n. nat_le n i) (cond passes (Some k) (find p ns)) false
one_up_to p i k ns true true is none rest = sym is
one_up_to p i k ns false true is none rest = none refl ∙ sym is
one_up_to p i k ns true false is none rest = rest
one_up_to p i k ns false false is none rest = rest

with_cure : (p : ℕ → Bool) (i k : ℕ) (ns : List ℕ) (b : Bool) → (nat_le k i ≡ false → list_any (λ n. nat_le n i && p n) ns ≡ false)
    → list_any (λ n. nat_le n i && p n) ns ≡ option_map_or (λ n. nat_le n i) (find p ns) false
    → list_any (λ n. nat_le n i && p n) (cons_option (cond b (Some k) None) ns) ≡ option_map_or (λ n. nat_le n i) (find p (cons_option (cond b (Some k) None) ns)) false
with_cure p i k ns true none rest = one_up_to p i k ns (nat_le k i) (p k) refl none rest
with_cure p i k ns false none rest = rest

not_up_to : (k i : ℕ) → nat_le k i ≡ false → i < k
not_up_to k i e = grind (arith, nat_tests, e)

-- cures ascend, so one up to a receipt passes just where the first that passes is up to that receipt
first_up_to : (p : ℕ → Bool) (i m k : ℕ) (rs : List Receipt)
    → list_any (λ n. nat_le n i && p n) (filter_map (cure_of m) (enumerate_from k rs)) ≡ option_map_or (λ n. nat_le n i) (find p (filter_map (cure_of m) (enumerate_from k rs))) false
first_up_to p i m k [] = refl
first_up_to p i m k (r ∷ rs) =
    with_cure p i k (filter_map (cure_of m) (enumerate_from (k + 1) rs)) (nat_lt m k && cures m r.item)
    (λ late. let behind = not_up_to k i late in none_above p i m (k + 1) rs (omega arith)) (first_up_to p i m (k + 1) rs)

-- whether cures up to a receipt bring what is looked for
pub brought : (journal : List Receipt) (m i : ℕ) (s : Sought) → list_any (is_sought s) (brought_up_to journal m i) ≡ option_map_or (λ n. nat_le n i) (first_cure journal m s) false
brought journal m i s =
    any_brought (is_sought s) (λ n. nat_le n i) (docs_by_cure journal) (cures_of journal m) ∙ first_up_to (λ n. list_any (is_sought s) (docs_by_cure journal n)) i m 1 journal

both_tests : (a p b q : ℕ) → (eqb b a && eqb q p) ≡ true → b ≡ a
both_tests a p b q h = eqb-true b a (and_parts (eqb b a) (eqb q p) h).0

act_is : (s : Sought) (d : Doc) → is_sought s d ≡ true → act_of_doc d ≡ act_sought s
act_is (sought.Consent a p) (doc.Consent b q given) h = both_tests a p b q h
act_is (sought.Consent a p) (doc.Agreement b) h = absurd (false≢true h)
act_is (sought.Consent a p) (doc.TaxClearance b) h = absurd (false≢true h)
act_is (sought.Consent a p) (doc.ExpiryProof b) h = absurd (false≢true h)
act_is (sought.Certified a p) (doc.Consent b q form.Certified) h = both_tests a p b q h
act_is (sought.Certified a p) (doc.Consent b q form.Plain) h = absurd (false≢true h)
act_is (sought.Certified a p) (doc.Agreement b) h = absurd (false≢true h)
act_is (sought.Certified a p) (doc.TaxClearance b) h = absurd (false≢true h)
act_is (sought.Certified a p) (doc.ExpiryProof b) h = absurd (false≢true h)
act_is (sought.Agreement a) (doc.Consent b q given) h = absurd (false≢true h)
act_is (sought.Agreement a) (doc.Agreement b) h = eqb-true b a h
act_is (sought.Agreement a) (doc.TaxClearance b) h = absurd (false≢true h)
act_is (sought.Agreement a) (doc.ExpiryProof b) h = absurd (false≢true h)
act_is (sought.Clearance a) (doc.Consent b q given) h = absurd (false≢true h)
act_is (sought.Clearance a) (doc.Agreement b) h = absurd (false≢true h)
act_is (sought.Clearance a) (doc.TaxClearance b) h = eqb-true b a h
act_is (sought.Clearance a) (doc.ExpiryProof b) h = absurd (false≢true h)
act_is (sought.Proof a) (doc.Consent b q given) h = absurd (false≢true h)
act_is (sought.Proof a) (doc.Agreement b) h = absurd (false≢true h)
act_is (sought.Proof a) (doc.TaxClearance b) h = absurd (false≢true h)
act_is (sought.Proof a) (doc.ExpiryProof b) h = eqb-true b a h

-- whether a document that is looked for so counts for the filing
pub has_sought : (matter : Matter) (s : Sought) → list_any (is_sought s) (docs_of matter)
    ≡ (is_between 1 (length matter.filing.now.acts) (act_sought s) && (list_any (is_sought s) matter.filing.now.docs || option_map_or (λ n. nat_le n matter.item) (first_cure matter.journal.now.receipts matter.number s) false))
has_sought matter s =
    counted (is_sought s) (act_sought s) (act_is s) matter
    ∙ ap (λ b. is_between 1 (length matter.filing.now.acts) (act_sought s) && (list_any (is_sought s) matter.filing.now.docs || b)) (brought matter.journal.now.receipts matter.number matter.item s)

-- ---- who consents in cures

pub any_weaker : {X : Type 0} (f g : X → Bool) (xs : List X) → ((x : X) → f x ≡ true → g x ≡ true) → list_any f xs ≡ true → list_any g xs ≡ true
any_weaker f g [] weaker h = h
any_weaker f g (x ∷ xs) weaker h =
    ⊎_elim (λ here. or_left (g x) (list_any g xs) (weaker x here)) (λ later. or_right (g x) (list_any g xs) (any_weaker f g xs weaker later)) (or_cases (f x) (list_any f xs) h)

-- where one passes, somebody who is listed passes
listed_passes : (B : Type 0) (f : Consenter → Bool) (cs : List Consenter) → ((c : Consenter) → list_any (is_consenter c.person c.first) cs ≡ true → f c ≡ true → B) → list_any f cs ≡ true → B
listed_passes B f [] then h = absurd (false≢true h)
listed_passes B f (c ∷ cs) then h =
    ⊎_elim
    (λ here. then c (or_left (is_consenter c.person c.first c) _ (and_from (eqb c.person c.person) (eqb c.first c.first) (eqb-itself c.person) (eqb-itself c.first))) here)
    (λ later. listed_passes B f cs (λ e listed passes. then e (or_right (is_consenter e.person e.first c) _ listed) passes) later)
    (or_cases (f c) (list_any f cs) h)

-- where a consent by somebody who passes stands among documents, there is a person who passes and consents there
pub somebody_consents : (B : Type 0) (a : ℕ) (q : ℕ → Bool) (docs : List Doc) → ((p : ℕ) → q p ≡ true → list_any (is_consent_of a p) docs ≡ true → B) → list_any (is_consent_by a q) docs ≡ true → B
somebody_consents B a q [] then h = absurd (false≢true h)
somebody_consents B a q (doc.Consent act p given ∷ docs) then h =
    ⊎_elim
    (λ here. let parts = and_parts (eqb act a) (q p) here in then p parts.1 (or_left (eqb act a && eqb p p) _ (and_from (eqb act a) (eqb p p) parts.0 (eqb-itself p))))
    (λ later. somebody_consents B a q docs (λ r passes has. then r passes (or_right (eqb act a && eqb p r) _ has)) later)
    (or_cases (eqb act a && q p) (list_any (is_consent_by a q) docs) h)
somebody_consents B a q (doc.Agreement act ∷ docs) then h = somebody_consents B a q docs then h
somebody_consents B a q (doc.TaxClearance act ∷ docs) then h = somebody_consents B a q docs then h
somebody_consents B a q (doc.ExpiryProof act ∷ docs) then h = somebody_consents B a q docs then h

pub consent_passes : (a p : ℕ) (q : ℕ → Bool) → q p ≡ true → (d : Doc) → is_consent_of a p d ≡ true → is_consent_by a q d ≡ true
consent_passes a p q passes (doc.Consent act r given) h =
    let parts = and_parts (eqb act a) (eqb r p) h in
    and_from (eqb act a) (q r) parts.0 (ap q (eqb-true r p parts.1) ∙ passes)
consent_passes a p q passes (doc.Agreement act) h = absurd (false≢true h)
consent_passes a p q passes (doc.TaxClearance act) h = absurd (false≢true h)
consent_passes a p q passes (doc.ExpiryProof act) h = absurd (false≢true h)

known_is : (k : ℕ) (o : Option ℕ) → is_known k o ≡ true → o ≡ Some k
known_is k None h = absurd (false≢true h)
known_is k (Some x) h = ap (λ n. Some n) (eqb-true x k h)

up_to_some : (B : Type 0) (i : ℕ) (o : Option ℕ) → ((n : ℕ) → o ≡ Some n → nat_le n i ≡ true → B) → option_map_or (λ n. nat_le n i) o false ≡ true → B
up_to_some B i None then h = absurd (false≢true h)
up_to_some B i (Some n) then h = then n refl h

-- those who are listed up to a receipt are those who consent up to it
pub consent_in_cures : (documents : CureDocuments) (journal : List Receipt) (m i a : ℕ) (q : ℕ → Bool) → AreDocumentsOf documents journal
    → list_any (λ c. nat_le c.first i && q c.person) (consenters_to documents m a) ≡ list_any (is_consent_by a q) (brought_up_to journal m i)
consent_in_cures documents journal m i a q are = both_ways _ _ (listed_passes (list_any (is_consent_by a q) docs ≡ true) up_to cs consents) (somebody_consents (list_any up_to cs ≡ true) a q docs listed)
  where
    docs : List Doc
    docs = brought_up_to journal m i

    cs : List Consenter
    cs = consenters_to documents m a

    up_to : Consenter → Bool
    up_to c = nat_le c.first i && q c.person

    consents : (c : Consenter) → list_any (is_consenter c.person c.first) cs ≡ true → up_to c ≡ true → list_any (is_consent_by a q) docs ≡ true
    consents c here passes =
        let s = sought.Consent a c.person in
        let parts = and_parts (nat_le c.first i) (q c.person) passes in
        let known : first_cure journal m s ≡ Some c.first =
        known_is c.first (first_cure journal m s) (ap (is_known c.first) (sym (are.first m s)) ∙ sym (are.agree.known m a c.person c.first) ∙ here) in
        any_weaker (is_consent_of a c.person) (is_consent_by a q) docs (consent_passes a c.person q parts.1)
        (brought journal m i s ∙ ap (λ o. option_map_or (λ n. nat_le n i) o false) known ∙ parts.0)

    is_up_to : (p n : ℕ) → q p ≡ true → nat_le n i ≡ true → (c : Consenter) → is_consenter p n c ≡ true → up_to c ≡ true
    is_up_to p n passes within c h =
        let parts = and_parts (eqb c.person p) (eqb c.first n) h in
        and_from (nat_le c.first i) (q c.person) (ap (λ k. nat_le k i) (eqb-true c.first n parts.1) ∙ within) (ap q (eqb-true c.person p parts.0) ∙ passes)

    listed : (p : ℕ) → q p ≡ true → list_any (is_consent_of a p) docs ≡ true → list_any up_to cs ≡ true
    listed p passes has =
        let s = sought.Consent a p in
        up_to_some (list_any up_to cs ≡ true) i (first_cure journal m s)
        (λ n is within.
        any_weaker (is_consenter p n) up_to cs (is_up_to p n passes within)
        (are.agree.known m a p n ∙ ap (is_known n) (are.first m s ∙ is) ∙ eqb-itself n))
        (sym (brought journal m i s) ∙ has)

consent_act : (a : ℕ) (q : ℕ → Bool) (d : Doc) → is_consent_by a q d ≡ true → act_of_doc d ≡ a
consent_act a q (doc.Consent b p given) h = eqb-true b a (and_parts (eqb b a) (q p) h).0
consent_act a q (doc.Agreement b) h = absurd (false≢true h)
consent_act a q (doc.TaxClearance b) h = absurd (false≢true h)
consent_act a q (doc.ExpiryProof b) h = absurd (false≢true h)

-- whether somebody who passes consents
pub has_consenter : (matter : Matter) (documents : CureDocuments) (a : ℕ) (q : ℕ → Bool) → AreDocumentsOf documents matter.journal.now.receipts
    → list_any (is_consent_by a q) (docs_of matter)
    ≡ consents_with matter a q (consenters_to documents matter.number a)
has_consenter matter documents a q are =
    counted (is_consent_by a q) a (consent_act a q) matter
    ∙ ap (λ b. is_between 1 (length matter.filing.now.acts) a && (list_any (is_consent_by a q) matter.filing.now.docs || b))
    (sym (consent_in_cures documents matter.journal.now.receipts matter.number matter.item a q are))

-- ---- what the code asks, one question after another

pub found_own : (x b o k r : Bool) → x ≡ (b && (o || k)) → b ≡ true → r ≡ o → r ≡ true → r ≡ x
found_own x b o k r is act own found = found ∙ (λ i. sym act i && ((sym found ∙ own) i || k)) ∙ sym is

pub found_in_cures : (x b o k r : Bool) → x ≡ (b && (o || k)) → b ≡ true → o ≡ false → r ≡ k → r ≡ x
found_in_cures x b o k r is act own found = found ∙ (λ i. sym act i && (sym own i || k)) ∙ sym is

pub found_none : (x b rest r : Bool) → r ≡ b → r ≡ false → x ≡ (b && rest) → r ≡ x
found_none x b rest r act none is = none ∙ ap (λ c. c && rest) (sym none ∙ act) ∙ sym is
