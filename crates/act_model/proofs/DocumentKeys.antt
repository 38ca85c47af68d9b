-- The keys of what is looked for: when two of them are equal, and what a document is looked for as.
use Rattle.std.proofs.Common.{◌≡◌, ℕ, Bool, true, false, cond, eqb, ◌&&◌, ◌||◌, [], ◌∷◌, Option, Some, None, refl, sym, ap, ◌∙◌}
use Rattle.std.specs.BTreeMap.{BTreeMap}
use Rattle.std.specs.Option.{option_map_or, option_or}
use Rattle.std.specs.Ordering.{is_eq}
use Rattle.act_model.specs.contracts.firsts.DocumentOfOrd.TheImpl.Laws as order
use Rattle.act_model.specs.contracts.firsts.DocumentOfPartialEq.TheImpl as keys
use Rattle.act_model.specs.contracts.sought.Sought as kind
use Rattle.act_model.specs.contracts.sought.SoughtPartialEq.TheImpl as kinds
use Rattle.act_model.specs.declared.documents.Doc.{Doc}
use Rattle.act_model.specs.declared.documents.Doc.TheVariants as doc
use Rattle.act_model.specs.declared.documents.Form.TheVariants as form
use Rattle.act_model.specs.declared.firsts.DocumentOf.{DocumentOf}
use Rattle.act_model.specs.declared.sought.Sought.{Sought}
use Rattle.act_model.specs.declared.sought.Sought.TheVariants as sought
use Rattle.act_model.specs.Sought.{is_sought}
use Rattle.act_model.specs.inner.CureDocuments.{certified_as, found_in, key_of, sought_as}
use Rattle.act_model.specs.inner.Firsts.{document_cmp, first}
use Rattle.act_model.proofs.DerivedEquality.{Exact, numbers, one, pair, parts, enum_exact}

abbrev pub same_sought : Sought → Sought → Bool
same_sought = kinds.ghosts.eq

sought_exact : Exact same_sought
sought_exact = enum_exact kind.enum _ (pair numbers (one numbers), (pair numbers (one numbers), (one numbers, (one numbers, (one numbers, tt)))))

keys_exact : Exact keys.ghosts.eq
keys_exact = parts (λ k. (k.filing, k.sought)) (λ a b e i. record { filing = (e i).0; sought = (e i).1 }) (pair numbers sought_exact)

-- keys that compare as equal are of one filing, and ask for one thing
pub tied : (m : ℕ) (s : Sought) (q : DocumentOf) → is_eq (document_cmp (key_of m s) q) ≡ (eqb m q.filing && same_sought s q.sought)
unfolding document_cmp
tied m s q = sym (order.matches_eq-law (key_of m s) q)

pub same_key : (k q : DocumentOf) → is_eq (document_cmp k q) ≡ true → k ≡ q
unfolding document_cmp
same_key k q h = keys_exact.same k q (order.matches_eq-law k q ∙ h)

pub or_false : (b : Bool) → (b || false) ≡ b
or_false true = refl
or_false false = refl

-- what a document is looked for as is what finds it
pub met_as : (d : Doc) (s : Sought) → (same_sought (sought_as d) s || option_map_or (λ c. same_sought c s) (certified_as d) false) ≡ is_sought s d
met_as (doc.Consent act q form.Certified) (sought.Consent a p) = or_false _
met_as (doc.Consent act q form.Certified) (sought.Certified a p) = refl
met_as (doc.Consent act q form.Certified) (sought.Agreement a) = refl
met_as (doc.Consent act q form.Certified) (sought.Clearance a) = refl
met_as (doc.Consent act q form.Certified) (sought.Proof a) = refl
met_as (doc.Consent act q form.Plain) (sought.Consent a p) = or_false _
met_as (doc.Consent act q form.Plain) (sought.Certified a p) = refl
met_as (doc.Consent act q form.Plain) (sought.Agreement a) = refl
met_as (doc.Consent act q form.Plain) (sought.Clearance a) = refl
met_as (doc.Consent act q form.Plain) (sought.Proof a) = refl
met_as (doc.Agreement act) (sought.Consent a p) = refl
met_as (doc.Agreement act) (sought.Certified a p) = refl
met_as (doc.Agreement act) (sought.Agreement a) = or_false _
met_as (doc.Agreement act) (sought.Clearance a) = refl
met_as (doc.Agreement act) (sought.Proof a) = refl
met_as (doc.TaxClearance act) (sought.Consent a p) = refl
met_as (doc.TaxClearance act) (sought.Certified a p) = refl
met_as (doc.TaxClearance act) (sought.Agreement a) = refl
met_as (doc.TaxClearance act) (sought.Clearance a) = or_false _
met_as (doc.TaxClearance act) (sought.Proof a) = refl
met_as (doc.ExpiryProof act) (sought.Consent a p) = refl
met_as (doc.ExpiryProof act) (sought.Certified a p) = refl
met_as (doc.ExpiryProof act) (sought.Agreement a) = refl
met_as (doc.ExpiryProof act) (sought.Clearance a) = refl
met_as (doc.ExpiryProof act) (sought.Proof a) = or_false _

-- ---- what is written at a key

or_none : {X : Type 0} (o : Option X) → o ≡ option_or o None
or_none None = refl
or_none (Some x) = refl

pub or_twice : (n : ℕ) (o : Option ℕ) (a b : Bool) → option_or (option_or o (cond a (Some n) None)) (cond b (Some n) None) ≡ option_or o (cond (a || b) (Some n) None)
or_twice n None true b = refl
or_twice n None false b = refl
or_twice n (Some x) a b = refl

-- receipt n, where this is the key
abbrev placed : ℕ → DocumentOf → DocumentOf → Option ℕ
placed n k q = cond (is_eq (document_cmp k q)) (Some n) None

-- what is written at a key stands there only where nothing stood
pub comes : (old new : BTreeMap DocumentOf (Option ℕ)) (k : DocumentOf) (n : ℕ)
    → ((q : DocumentOf) → first new q ≡ cond (is_eq (document_cmp k q)) (option_or (first old k) (Some n)) (first old q))
    → (q : DocumentOf) → first new q ≡ option_or (first old q) (placed n k q)
comes old new k n wrote q = wrote q ∙ either (is_eq (document_cmp k q)) refl
  where
    either : (b : Bool) → is_eq (document_cmp k q) ≡ b → cond b (option_or (first old k) (Some n)) (first old q) ≡ option_or (first old q) (cond b (Some n) None)
    either true e = ap (λ j. option_or (first old j) (Some n)) (same_key k q e)
    either false e = or_none (first old q)

both_of : (t a b : Bool) → ((t && a) || (t && b)) ≡ (t && ((a || b) || false))
both_of true a b = sym (or_false (a || b))
both_of false a b = refl

-- a document that is no certified consent is found by its one key
found_plain : (n m : ℕ) (d : Doc) (k : DocumentOf) (o : Option ℕ) → certified_as d ≡ None → option_or o (placed n (key_of m (sought_as d)) k) ≡ option_or o (found_in n m (d ∷ []) k)
found_plain n m d k o none =
    let met : (same_sought (sought_as d) k.sought || false) ≡ is_sought k.sought d = subst_none in
    ap (λ b. option_or o (cond b (Some n) None)) (tied m (sought_as d) k ∙ sym (both_false (eqb m k.filing) _) ∙ ap (λ b. eqb m k.filing && (b || false)) met)
  where
    subst_none : (same_sought (sought_as d) k.sought || false) ≡ is_sought k.sought d
    subst_none = ap (λ c. same_sought (sought_as d) k.sought || option_map_or (λ x. same_sought x k.sought) c false) (sym none) ∙ met_as d k.sought

    both_false : (t a : Bool) → (t && ((a || false) || false)) ≡ (t && a)
    both_false true a = or_false _ ∙ or_false a
    both_false false a = refl

pub finds_plain : (f0 f1 : BTreeMap DocumentOf (Option ℕ)) (n m : ℕ) (d : Doc) → certified_as d ≡ None
    → ((q : DocumentOf) → first f1 q ≡ cond (is_eq (document_cmp (key_of m (sought_as d)) q)) (option_or (first f0 (key_of m (sought_as d))) (Some n)) (first f0 q))
    → (k : DocumentOf) → first f1 k ≡ option_or (first f0 k) (found_in n m (d ∷ []) k)
finds_plain f0 f1 n m d none wrote k = comes f0 f1 (key_of m (sought_as d)) n wrote k ∙ found_plain n m d k (first f0 k) none

pub finds_certified : (f0 f1 f2 : BTreeMap DocumentOf (Option ℕ)) (n m : ℕ) (d : Doc) (s : Sought) → certified_as d ≡ Some s
    → ((q : DocumentOf) → first f1 q ≡ cond (is_eq (document_cmp (key_of m (sought_as d)) q)) (option_or (first f0 (key_of m (sought_as d))) (Some n)) (first f0 q))
    → ((q : DocumentOf) → first f2 q ≡ cond (is_eq (document_cmp (key_of m s) q)) (option_or (first f1 (key_of m s)) (Some n)) (first f1 q))
    → (k : DocumentOf) → first f2 k ≡ option_or (first f0 k) (found_in n m (d ∷ []) k)
finds_certified f0 f1 f2 n m d s is first_wrote then_wrote k =
    let met : (same_sought (sought_as d) k.sought || same_sought s k.sought) ≡ is_sought k.sought d =
    ap (λ c. same_sought (sought_as d) k.sought || option_map_or (λ x. same_sought x k.sought) c false) (sym is) ∙ met_as d k.sought in
    comes f1 f2 (key_of m s) n then_wrote k
    ∙ ap (λ o. option_or o (placed n (key_of m s) k)) (comes f0 f1 (key_of m (sought_as d)) n first_wrote k)
    ∙ or_twice n (first f0 k) (is_eq (document_cmp (key_of m (sought_as d)) k)) (is_eq (document_cmp (key_of m s) k))
    ∙ ap (λ b. option_or (first f0 k) (cond b (Some n) None))
    (λ i. tied m (sought_as d) k i || tied m s k i)
    ∙ ap (λ b. option_or (first f0 k) (cond b (Some n) None))
    (both_of (eqb m k.filing) (same_sought (sought_as d) k.sought) (same_sought s k.sought) ∙ ap (λ b. eqb m k.filing && (b || false)) met)
