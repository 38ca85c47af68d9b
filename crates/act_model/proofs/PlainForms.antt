-- Who has consented in plain form alone, as one of those who have no certified consent at first (GBO § 29).
use Rattle.std.proofs.Common.{◌≡◌, ℕ, Bool, true, false, cond, ◌&&◌, ◌||◌, nat_le, List, [], ◌∷◌, filter, length, Option, Some, None, refl, sym, ap, ◌∙◌, arith}
use Rattle.std.specs.List.{list_any}
use Rattle.std.specs.Option.{option_map_or}
use Rattle.std.proofs.lemmas.Bool.{and_parts, false≢true}
use Rattle.std.proofs.lemmas.Bool.Decides.{nat_tests}
use Rattle.gb_base.specs.Limits.{is_between}
use Rattle.act_model.specs.declared.cure_documents.Consenter.{Consenter}
use Rattle.act_model.specs.declared.cure_documents.CureDocuments.{CureDocuments}
use Rattle.act_model.specs.declared.documents.Form.TheVariants as form
use Rattle.act_model.specs.declared.matters.Matter.{Matter}
use Rattle.act_model.specs.declared.sought.Sought.TheVariants as sought
use Rattle.act_model.specs.Documents.{docs_of, given, is_certified_consent_of, is_consent_by, is_consent_of, is_plain}
use Rattle.act_model.specs.inner.CureDocuments.{comes_behind, consenters_to, is_plain_first, plain_consenters_to, AreDocumentsOf}
use Rattle.act_model.specs.inner.FiledConsents.{consents_with}
use Rattle.act_model.specs.inner.Firsts.{first_cure}
use Rattle.act_model.proofs.FiledDocuments.{has_consenter, has_sought}

-- where the form is plain, there is a consent and none is certified
pub plain_is : (certified consents : Bool) → is_plain (cond certified (Some form.Certified) (cond consents (Some form.Plain) None)) ≡ true → (certified ≡ false) × (consents ≡ true)
plain_is true consents h = absurd (false≢true h)
plain_is false true h = (refl, refl)
plain_is false false h = absurd (false≢true h)

-- what no cure up to a receipt brings comes after each cure up to that receipt
behind_up_to : (first upto : ℕ) (o : Option ℕ) → nat_le first upto ≡ true → option_map_or (λ n. nat_le n upto) o false ≡ false → comes_behind first o ≡ true
behind_up_to first upto None within none = refl
behind_up_to first upto (Some n) within none = grind (arith, nat_tests, within, none)

not_in_cures : (here own cures : Bool) → here ≡ true → (here && (own || cures)) ≡ false → cures ≡ false
not_in_cures true true cures is none = absurd (false≢true (sym none))
not_in_cures true false cures is none = none
not_in_cures false own cures is none = absurd (false≢true is)

-- who consents up to the item in plain form alone has no certified consent at first
plain_at_first : (matter : Matter) (a : ℕ) (c : Consenter) → nat_le c.first matter.item ≡ true → is_plain (given (docs_of matter) a c.person) ≡ true
    → is_plain_first (first_cure matter.journal.now.receipts) matter.number a c ≡ true
plain_at_first matter a c within plain =
    let journal = matter.journal.now.receipts in
    let parts = plain_is (list_any (is_certified_consent_of a c.person) (docs_of matter)) (list_any (is_consent_of a c.person) (docs_of matter)) plain in
    let here = and_parts (is_between 1 (length matter.filing.now.acts) a) _ (sym (has_sought matter (sought.Consent a c.person)) ∙ parts.1) in
    behind_up_to c.first matter.item (first_cure journal matter.number (sought.Certified a c.person)) within
    (not_in_cures (is_between 1 (length matter.filing.now.acts) a) (list_any (is_certified_consent_of a c.person) matter.filing.now.docs) _ here.0
    (sym (has_sought matter (sought.Certified a c.person)) ∙ parts.0))

-- where all that pass f pass p, it is enough to ask those that pass p
one_among : (f p : Consenter → Bool) (c : Consenter) (cs : List Consenter) (t u : Bool) → f c ≡ t → (t ≡ true → u ≡ true) → list_any f (filter p cs) ≡ list_any f cs
    → list_any f (cond u (c ∷ filter p cs) (filter p cs)) ≡ (t || list_any f cs)
one_among f p c cs true u is then rest = ap (λ b. list_any f (cond b (c ∷ filter p cs) (filter p cs))) (then refl) ∙ (λ i. is i || rest i)
one_among f p c cs false true is then rest = λ i. is i || rest i
one_among f p c cs false false is then rest = rest

any_among : (f p : Consenter → Bool) (cs : List Consenter) → ((c : Consenter) → f c ≡ true → p c ≡ true) → list_any f (filter p cs) ≡ list_any f cs
any_among f p [] then = refl
any_among f p (c ∷ cs) then = one_among f p c cs (f c) (p c) refl (then c) (any_among f p cs then)

-- the person has consented in plain form alone, and passes
abbrev pub passes_plain : Matter → ℕ → (ℕ → Bool) → ℕ → Bool
passes_plain matter a t p = is_plain (given (docs_of matter) a p) && t p

-- whether somebody who passes consents in plain form alone
pub has_plain_consenter : (matter : Matter) (documents : CureDocuments) (a : ℕ) (t : ℕ → Bool) → AreDocumentsOf documents matter.journal.now.receipts
    → list_any (is_consent_by a (passes_plain matter a t)) (docs_of matter) ≡ consents_with matter a (passes_plain matter a t) (plain_consenters_to documents matter.number a)
has_plain_consenter matter documents a t are =
    has_consenter matter documents a (passes_plain matter a t) are
    ∙ ap (λ b. is_between 1 (length matter.filing.now.acts) a && (list_any (is_consent_by a (passes_plain matter a t)) matter.filing.now.docs || b))
    (sym (any_among up_to (is_plain_first (first_cure matter.journal.now.receipts) matter.number a) (consenters_to documents matter.number a) at_first)
    ∙ ap (list_any up_to) (sym (are.plain matter.number a)))
  where
    up_to : Consenter → Bool
    up_to c = nat_le c.first matter.item && passes_plain matter a t c.person

    at_first : (c : Consenter) → up_to c ≡ true → is_plain_first (first_cure matter.journal.now.receipts) matter.number a c ≡ true
    at_first c h =
        let parts = and_parts (nat_le c.first matter.item) (passes_plain matter a t c.person) h in
        plain_at_first matter a c parts.0 (and_parts (is_plain (given (docs_of matter) a c.person)) (t c.person) parts.1).0
