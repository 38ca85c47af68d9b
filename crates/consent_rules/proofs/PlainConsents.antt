-- Whoever lacks the form has consented, so those who consent are asked.
use Rattle.std.proofs.Common.{◌≡◌, ℕ, Bor, Bool, true, eqb, ◌&&◌, List, [], ◌∷◌, sym, ap, ◌∙◌, ⊎_elim}
use Rattle.std.specs.Cmp.{both_ways}
use Rattle.std.specs.List.{list_any}
use Rattle.std.proofs.lemmas.Bool.{and_from, and_parts, eqb-true, false≢true, or_cases, or_left, or_right}
use Rattle.act_model.specs.declared.documents.Doc.{Doc}
use Rattle.act_model.specs.declared.matters.Matter.{Matter}
use Rattle.consent_rules.specs.declared.lacks.Lack.{Lack}
use Rattle.consent_rules.specs.declared.lacks.Lack.TheVariants as lack
use Rattle.consent_rules.specs.inner.Lacks.{is_lacking}
use Rattle.act_model.specs.Documents.{docs_of, given, is_certified_consent_of, is_consent_by, is_consent_of, is_plain}
use Rattle.act_model.proofs.DocumentRoom.{eqb-itself}
use Rattle.act_model.proofs.FiledDocuments.{any_weaker, consent_passes, somebody_consents}
use Rattle.act_model.proofs.PlainForms.{plain_is}

-- where one of these passes, there is a person among these who passes
one_of_these : (B : Type 0) (q : ℕ → Bool) (ps : List ℕ) → ((p : ℕ) → list_any (λ r. eqb r p) ps ≡ true → q p ≡ true → B) → list_any q ps ≡ true → B
one_of_these B q [] then h = absurd (false≢true h)
one_of_these B q (p ∷ ps) then h =
    ⊎_elim
    (λ here. then p (or_left (eqb p p) _ (eqb-itself p)) here)
    (λ later. one_of_these B q ps (λ r listed passes. then r (or_right (eqb p r) _ listed) passes) later)
    (or_cases (q p) (list_any q ps) h)

-- where a person among these passes, one of these passes
these_pass : (q : ℕ → Bool) (p : ℕ) (ps : List ℕ) → q p ≡ true → list_any (λ r. eqb r p) ps ≡ true → list_any q ps ≡ true
these_pass q p ps passes = any_weaker (λ r. eqb r p) q ps (λ r same. ap q (eqb-true r p same) ∙ passes)

-- whether one of these has consented in plain form alone, asked of those who consent
pub asked_by_consents : (docs : List Doc) (a : ℕ) (people : List ℕ)
    → list_any (is_consent_by a (λ p. is_plain (given docs a p) && list_any (λ r. eqb r p) people)) docs ≡ list_any (λ p. is_plain (given docs a p)) people
asked_by_consents docs a people =
    both_ways _ _
    (somebody_consents (list_any plain people ≡ true) a waits docs
    (λ p passes consents. let parts = and_parts (plain p) (list_any (λ r. eqb r p) people) passes in these_pass plain p people parts.0 parts.1))
    (one_of_these (list_any (is_consent_by a waits) docs ≡ true) plain people
    (λ p listed passes.
    any_weaker (is_consent_of a p) (is_consent_by a waits) docs (consent_passes a p waits (and_from (plain p) (list_any (λ r. eqb r p) people) passes listed))
    (plain_is (list_any (is_certified_consent_of a p) docs) (list_any (is_consent_of a p) docs) passes).1))
  where
    plain : ℕ → Bool
    plain p = is_plain (given docs a p)

    waits : ℕ → Bool
    waits p = plain p && list_any (λ r. eqb r p) people

pub lacking_form : (l : Lack) (matter : Bor Matter) (a : ℕ) (people : List ℕ) → l ≡ lack.Form matter a
    → list_any (is_consent_by a (λ p. is_plain (given (docs_of matter.now) a p) && list_any (λ r. eqb r p) people)) (docs_of matter.now) ≡ list_any (is_lacking l) people
lacking_form l matter a people is = asked_by_consents (docs_of matter.now) a people ∙ ap (λ x. list_any (is_lacking x) people) (sym is)
