-- Who consents in cures, with one document more.
use Rattle.std.proofs.Common.{◌≡◌, ℕ, zero, suc, ◌+◌, ◌<◌, ◌≤◌, nat_le, drop, get_or, length, Bool, true, false, cond, eqb, ◌&&◌, ◌||◌, List, [], ◌∷◌, ◌++◌, Option, Some, None, is_none, refl, sym, subst, ap, ◌∙◌, arith}
use Rattle.std.specs.BTreeMap.{BTreeMap}
use Rattle.std.specs.Prelude.{Vec}
use Rattle.std.specs.List.{list_any}
use Rattle.std.specs.Option.{option_map_or, option_or}
use Rattle.std.specs.Ordering.{is_eq}
use Rattle.std.proofs.lemmas.Bool.{and_parts, eqb-true}
use Rattle.std.proofs.lemmas.List.{append-nil}
use Rattle.std.proofs.lemmas.List.Folds.{list_any-append}
use Rattle.act_model.specs.declared.cure_documents.Consenter.{Consenter}
use Rattle.act_model.specs.declared.cure_documents.CureDocuments.{CureDocuments}
use Rattle.act_model.specs.declared.documents.Doc.{Doc}
use Rattle.act_model.specs.declared.documents.Doc.TheVariants as doc
use Rattle.act_model.specs.declared.documents.Form.{Form}
use Rattle.act_model.specs.declared.documents.Form.TheVariants as form
use Rattle.act_model.specs.declared.sought.Sought.TheVariants as sought
use Rattle.act_model.specs.inner.CureDocuments.{consenter_of, consenters_to, found_in, is_consent_to, is_consenter, key_of, new_consenters, AgreeTo, Finds, Rises}
use Rattle.act_model.specs.inner.Firsts.{first}
use Rattle.act_model.specs.inner.Index.{pair_cmp}
use Rattle.act_model.specs.inner.Lists.{listed}
use Rattle.act_model.proofs.DocumentKeys.{or_false}
use Rattle.act_model.proofs.JournalLemmas.{is_at-pair}

and_true : (b : Bool) → (b && true) ≡ b
and_true true = refl
and_true false = refl

-- a consent is a consent to its own act
pub consents : (d : Doc) (act p : ℕ) (given : Form) → d ≡ doc.Consent act p given → eqb act act ≡ true → is_consent_to act d ≡ true
consents d act p given is itself = ap (is_consent_to act) is ∙ and_true (eqb act act) ∙ itself

-- who consents is listed after the others, where that is wanted
pub listed_behind : {Z : Type 0} (lists : BTreeMap (ℕ × ℕ) (Vec Consenter Z)) (n filing act p : ℕ) (given : Form) (d : Doc) (wanted : Bool) (before : ℕ → ℕ → List Consenter) → d ≡ doc.Consent act p given → wanted ≡ true
    → ((q : ℕ × ℕ) → listed pair_cmp lists q ≡ cond (is_eq (pair_cmp (filing, act) q)) (before filing act ++ record { person = p; first = n } ∷ []) (before q.0 q.1))
    → (m a : ℕ) → listed pair_cmp lists (m, a) ≡ before m a ++ consenter_of n filing d wanted m a
listed_behind lists n filing act p given d wanted before is comes wrote m a =
    wrote (m, a) ∙ ap (λ b. cond b (before filing act ++ record { person = p; first = n } ∷ []) (before m a)) (is_at-pair filing act m a)
    ∙ either (eqb filing m && eqb act a) refl
    ∙ (λ i. before m a ++ consenter_of n filing (sym is i) (sym comes i) m a)
  where
    either : (b : Bool) → (eqb filing m && eqb act a) ≡ b
        → cond b (before filing act ++ record { person = p; first = n } ∷ []) (before m a) ≡ before m a ++ cond (b && true) (record { person = p; first = n } ∷ []) []
    either true e =
        let same = and_parts (eqb filing m) (eqb act a) e in
        λ i. before (eqb-true filing m same.0 i) (eqb-true act a same.1 i) ++ record { person = p; first = n } ∷ []
    either false e = sym (append-nil _)

-- the one who is listed takes room for one
pub room_taken : (old new : ℕ → ℕ → ℕ) (filing act p : ℕ) (given : Form) (d : Doc) → d ≡ doc.Consent act p given → eqb filing filing ≡ true
    → ((q : ℕ × ℕ) → old q.0 q.1 ≤ new q.0 q.1 + cond (is_eq (pair_cmp (filing, act) q)) 1 0)
    → (a : ℕ) → old filing a ≤ new filing a + cond (is_consent_to a d) 1 0
room_taken old new filing act p given d is itself took a =
    subst (λ b. old filing a ≤ new filing a + cond b 1 0)
    (is_at-pair filing act filing a ∙ ap (λ b. b && eqb act a) itself ∙ sym (and_true (eqb act a)) ∙ ap (is_consent_to a) (sym is)) (took (filing, a))

-- ---- those who are listed agree with what is known

rises_behind : (from n p : ℕ) (cs : List Consenter) → from ≤ n → Rises from n cs → Rises from n (cs ++ record { person = p; first = n } ∷ [])
rises_behind from n p [] le up = (le, (omega arith, tt))
rises_behind from n p (c ∷ cs) le up = (up.0, (up.1.0, rises_behind c.first n p cs up.1.0 up.1.1))

pub rises_later : (from n last : ℕ) (cs : List Consenter) → n ≤ last → Rises from n cs → Rises from last cs
rises_later from n last [] le up = tt
rises_later from n last (c ∷ cs) le up = let within = up.1.0 in (up.0, (omega arith, rises_later c.first n last cs le up.1.1))

-- whether a number is known, and is this one
abbrev pub is_known : ℕ → Option ℕ → Bool
is_known k o = option_map_or (λ f. eqb f k) o false

none_comes : (k : ℕ) (known : Option ℕ) → (is_known k known || false) ≡ is_known k (option_or known None)
none_comes k None = refl
none_comes k (Some x) = or_false (eqb x k)

-- the person who is added where no first cure was known
comes_first : (n k p q : ℕ) (known : Option ℕ) → eqb q p ≡ true
    → (is_known k known || list_any (is_consenter p k) (cond (is_none known) (record { person = q; first = n } ∷ []) [])) ≡ is_known k (option_or known (Some n))
comes_first n k p q None e = ap (λ b. (b && eqb n k) || false) e ∙ or_false (eqb n k)
comes_first n k p q (Some x) e = or_false (eqb x k)

-- another person is not the one who is asked for
other_comes : (n k p q : ℕ) (b : Bool) (known : Option ℕ) → eqb q p ≡ false
    → (is_known k known || list_any (is_consenter p k) (cond b (record { person = q; first = n } ∷ []) [])) ≡ is_known k (option_or known None)
other_comes n k p q true known e = ap (λ b. is_known k known || ((b && eqb n k) || false)) e ∙ none_comes k known
other_comes n k p q false known e = none_comes k known

-- with one document more, what is known of a person agrees with who is listed
one_comes : (n k p q : ℕ) (t u v : Bool) (o known : Option ℕ) → eqb q p ≡ v → ((t && (u && v)) ≡ true → o ≡ known)
    → (is_known k known || list_any (is_consenter p k) (cond ((t && u) && is_none o) (record { person = q; first = n } ∷ []) []))
    ≡ is_known k (option_or known (cond (t && ((u && v) || false)) (Some n) None))
one_comes n k p q false u v o known e same = none_comes k known
one_comes n k p q true false v o known e same = none_comes k known
one_comes n k p q true true true o known e same =
    ap (λ x. is_known k known || list_any (is_consenter p k) (cond (is_none x) (record { person = q; first = n } ∷ []) [])) (same refl) ∙ comes_first n k p q known e
one_comes n k p q true true false o known e same = other_comes n k p q (is_none o) known e

nothing_comes : (n k : ℕ) (t : Bool) (known : Option ℕ) → (is_known k known || false) ≡ is_known k (option_or known (cond (t && (false || false)) (Some n) None))
nothing_comes n k true known = none_comes k known
nothing_comes n k false known = none_comes k known

known_then : (old : CureDocuments) (n filing : ℕ) (d : Doc) (m a p k : ℕ)
    → (is_known k (first old.firsts (key_of m (sought.Consent a p))) || list_any (is_consenter p k) (new_consenters n old filing d m a))
    ≡ is_known k (option_or (first old.firsts (key_of m (sought.Consent a p))) (found_in n filing (d ∷ []) (key_of m (sought.Consent a p))))
known_then old n filing (doc.Consent act q given) m a p k =
    one_comes n k p q (eqb filing m) (eqb act a) (eqb q p) (first old.firsts (key_of filing (sought.Consent act q))) (first old.firsts (key_of m (sought.Consent a p))) refl
    (λ same.
    let outer = and_parts (eqb filing m) (eqb act a && eqb q p) same in
    let inner = and_parts (eqb act a) (eqb q p) outer.1 in
    λ i. first old.firsts (key_of (eqb-true filing m outer.0 i) (sought.Consent (eqb-true act a inner.0 i) (eqb-true q p inner.1 i))))
known_then old n filing (doc.Agreement act) m a p k = nothing_comes n k (eqb filing m) (first old.firsts (key_of m (sought.Consent a p)))
known_then old n filing (doc.TaxClearance act) m a p k = nothing_comes n k (eqb filing m) (first old.firsts (key_of m (sought.Consent a p)))
known_then old n filing (doc.ExpiryProof act) m a p k = nothing_comes n k (eqb filing m) (first old.firsts (key_of m (sought.Consent a p)))

rises_then : (old : CureDocuments) (n filing : ℕ) (d : Doc) (m a : ℕ) (cs : List Consenter) → Rises 0 n cs → Rises 0 n (cs ++ new_consenters n old filing d m a)
rises_then old n filing (doc.Consent act q given) m a cs up =
    elim ((eqb filing m && eqb act a) && is_none (first old.firsts (key_of filing (sought.Consent act q)))) as (λ b. Rises 0 n (cs ++ cond b (record { person = q; first = n } ∷ []) [])) [
      | true ↦ rises_behind 0 n q cs (omega arith) up
      | false ↦ subst (Rises 0 n) (sym (append-nil cs)) up
    ]
rises_then old n filing (doc.Agreement act) m a cs up = subst (Rises 0 n) (sym (append-nil cs)) up
rises_then old n filing (doc.TaxClearance act) m a cs up = subst (Rises 0 n) (sym (append-nil cs)) up
rises_then old n filing (doc.ExpiryProof act) m a cs up = subst (Rises 0 n) (sym (append-nil cs)) up

-- ---- a certified consent is a consent

neither : (o found : Option ℕ) → option_or o found ≡ None → (o ≡ None) × (found ≡ None)
neither None found e = (refl, e)
neither (Some x) found e = absurd (cc e)

none_found : (n : ℕ) (t : Bool) → cond (t && (false || false)) (Some n) None ≡ None
none_found n true = refl
none_found n false = refl

-- a document that is no consent is no certified consent
none_certified : (n filing : ℕ) (d : Doc) (m a p : ℕ) → found_in n filing (d ∷ []) (key_of m (sought.Consent a p)) ≡ None → found_in n filing (d ∷ []) (key_of m (sought.Certified a p)) ≡ None
none_certified n filing (doc.Consent act q form.Certified) m a p none = none
none_certified n filing (doc.Consent act q form.Plain) m a p none = none_found n (eqb filing m)
none_certified n filing (doc.Agreement act) m a p none = none
none_certified n filing (doc.TaxClearance act) m a p none = none
none_certified n filing (doc.ExpiryProof act) m a p none = none

certified_then : (old new : CureDocuments) (n filing : ℕ) (d : Doc) (m a p : ℕ) → Finds old new (found_in n filing (d ∷ []))
    → (first old.firsts (key_of m (sought.Consent a p)) ≡ None → first old.firsts (key_of m (sought.Certified a p)) ≡ None)
    → first new.firsts (key_of m (sought.Consent a p)) ≡ None → first new.firsts (key_of m (sought.Certified a p)) ≡ None
certified_then old new n filing d m a p finds before none =
    let parts = neither (first old.firsts (key_of m (sought.Consent a p))) (found_in n filing (d ∷ []) (key_of m (sought.Consent a p))) (sym (finds (key_of m (sought.Consent a p))) ∙ none) in
    finds (key_of m (sought.Certified a p)) ∙ (λ i. option_or (before parts.0 i) (none_certified n filing d m a p parts.1 i))

-- one document more: who is listed agrees with what is found
pub agree_then : (old new : CureDocuments) (n filing : ℕ) (d : Doc) → AgreeTo n old
    → ((m a : ℕ) → consenters_to new m a ≡ consenters_to old m a ++ new_consenters n old filing d m a)
    → Finds old new (found_in n filing (d ∷ []))
    → AgreeTo n new
agree_then old new n filing d agree listed finds = record {
  known = λ m a p k.
      ap (list_any (is_consenter p k)) (listed m a) ∙ list_any-append (is_consenter p k) (consenters_to old m a) (new_consenters n old filing d m a)
      ∙ ap (λ b. b || list_any (is_consenter p k) (new_consenters n old filing d m a)) (agree.known m a p k)
      ∙ known_then old n filing d m a p k
      ∙ ap (is_known k) (sym (finds (key_of m (sought.Consent a p))));
  rise = λ m a. subst (Rises 0 n) (sym (listed m a)) (rises_then old n filing d m a (consenters_to old m a) (agree.rise m a));
  certified = λ m a p none. certified_then old new n filing d m a p finds (agree.certified m a p) none;
}

-- ---- walked up to a receipt

-- of those whose consents come after a receipt, none is up to it
later_none : (q : Consenter → Bool) (upto from last : ℕ) (cs : List Consenter) → upto < from → Rises from last cs → list_any (λ c. nat_le c.first upto && q c) cs ≡ false
later_none q upto from last [] behind up = refl
later_none q upto from last (c ∷ cs) behind up =
    let first = up.0 in
    let late : nat_le c.first upto ≡ false = search (arith) in
    rw late (later_none q upto c.first last cs (omega arith) up.1.1)

pub none_from : (q : Consenter → Bool) (upto from last : ℕ) (cs : List Consenter) (i : ℕ) (d : Consenter) → Rises from last cs → i < length cs → upto < (get_or cs i d).first
    → list_any (λ c. nat_le c.first upto && q c) (drop i cs) ≡ false
none_from q upto from last [] i d up within late = absurd (omega arith)
none_from q upto from last (c ∷ cs) zero d up within late = later_none q upto c.first last (c ∷ cs) late (omega arith, (up.1.0, up.1.1))
none_from q upto from last (c ∷ cs) (suc i) d up within late = none_from q upto c.first last cs i d up.1.1 (omega arith) late
