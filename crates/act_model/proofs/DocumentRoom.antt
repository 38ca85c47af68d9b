-- Room for what documents bring.
use Rattle.std.proofs.Common.{◌≡◌, ℕ, ◌-◌, ◌≤◌, ◌<◌, Bool, true, false, cond, eqb, List, [], ◌∷◌, filter, length, take, drop, get_or, Option, Some, None, is_some, Result, Ok, Err, IsTrue, refl, sym, subst, ap, ◌∙◌, ⊎_elim, arith, le_trans, Vec}
use Rattle.std.specs.BTreeMap.{BTreeMap}
use Rattle.std.specs.declared.cmp.Ordering.{Ordering}
use Rattle.std.specs.List.{list_any}
use Rattle.std.specs.Option.{option_map_or, unwrap_or}
use Rattle.std.specs.Result.{OnOk}
use Rattle.std.specs.Ordering.{is_eq}
use Rattle.std.proofs.lemmas.Bool.{and_from, false≢true, or_cases, or_left}
use Rattle.std.proofs.lemmas.Bool.Decides.{nat_tests}
use Rattle.std.proofs.lemmas.List.{take_all}
use Rattle.act_model.specs.declared.cure_documents.Consenter.{Consenter}
use Rattle.act_model.specs.declared.cure_documents.CureDocuments.{CureDocuments}
use Rattle.act_model.specs.declared.documents.Doc.{Doc}
use Rattle.act_model.specs.declared.firsts.DocumentOf.{DocumentOf}
use Rattle.act_model.specs.declared.sought.Sought.{Sought}
use Rattle.act_model.specs.Sought.{is_sought}
use Rattle.act_model.specs.inner.CureDocuments.{certified_as, is_consent_to, key_of, sought_as, HasRoomForConsents, HasRoomForDocs, KeepsDocuments}
use Rattle.act_model.specs.inner.Firsts.{document_cmp, is_held}
use Rattle.act_model.specs.inner.Index.{pair_cmp}
use Rattle.act_model.specs.inner.Lists.{room, Widens}
use Rattle.act_model.proofs.DocumentKeys.{met_as, same_sought, tied}

-- a list is its first element and the others
pub whole : {X : Type 0} (xs : List X) (d : X) → 0 < length xs → d ≡ get_or xs 0 d → xs ≡ d ∷ take (length xs - 1) (drop 1 xs)
whole [] d some is = absurd (omega arith)
whole (x ∷ xs) d some is =
    let all : take (length (x ∷ xs) - 1) xs ≡ xs = take_all _ xs (omega arith) in
    λ i. sym is i ∷ sym all i

pub eqb-itself : (n : ℕ) → eqb n n ≡ true
eqb-itself n = grind (arith, nat_tests)

-- each way to look for a document has a place, where the document's keys have places
places_made : (held : DocumentOf → Bool) (m : ℕ) (d : Doc) (s : Sought)
    → ((q : DocumentOf) → IsTrue (is_eq (document_cmp (key_of m (sought_as d)) q)) → IsTrue (held q))
    → ((c : Sought) → certified_as d ≡ Some c → (q : DocumentOf) → IsTrue (is_eq (document_cmp (key_of m c) q)) → IsTrue (held q))
    → IsTrue (is_sought s d) → IsTrue (held (key_of m s))
places_made held m d s plain certified met =
    ⊎_elim
    (λ first. plain (key_of m s) (tied m (sought_as d) (key_of m s) ∙ and_from _ _ (eqb-itself m) first))
    (λ other. by_form (certified_as d) refl other)
    (or_cases (same_sought (sought_as d) s) _ (met_as d s ∙ met))
  where
    by_form : (o : Option Sought) → certified_as d ≡ o → option_map_or (λ c. same_sought c s) o false ≡ true → IsTrue (held (key_of m s))
    by_form None is h = absurd (cc h)
    by_form (Some c) is h = certified c is (key_of m s) (tied m c (key_of m s) ∙ and_from _ _ (eqb-itself m) h)

pub places_plain : (held : DocumentOf → Bool) (m : ℕ) (d : Doc) → certified_as d ≡ None
    → ((q : DocumentOf) → IsTrue (is_eq (document_cmp (key_of m (sought_as d)) q)) → IsTrue (held q))
    → (s : Sought) → IsTrue (is_sought s d) → IsTrue (held (key_of m s))
places_plain held m d none plain s met = places_made held m d s plain (λ c is. absurd (false≢true (ap is_some (sym none ∙ is)))) met

pub places_certified : (held : DocumentOf → Bool) (m : ℕ) (d : Doc) (c : Sought) → certified_as d ≡ Some c
    → ((q : DocumentOf) → IsTrue (is_eq (document_cmp (key_of m (sought_as d)) q)) → IsTrue (held q))
    → ((q : DocumentOf) → IsTrue (is_eq (document_cmp (key_of m c) q)) → IsTrue (held q))
    → (s : Sought) → IsTrue (is_sought s d) → IsTrue (held (key_of m s))
places_certified held m d c one plain certified s met =
    places_made held m d s plain
    (λ e is. subst (λ x. (q : DocumentOf) → IsTrue (is_eq (document_cmp (key_of m x) q)) → IsTrue (held q)) (ap (λ o. unwrap_or o c) (sym one ∙ is)) certified) met

few : (a : ℕ) (docs : List Doc) → length (filter (is_consent_to a) docs) ≤ length docs
few a [] = omega arith
few a (d ∷ docs) = elim (is_consent_to a d) as (λ b. length (cond b (d ∷ filter (is_consent_to a) docs) (filter (is_consent_to a) docs)) ≤ length (d ∷ docs)) [
  | true ↦ let rest = few a docs in omega arith
  | false ↦ let rest = few a docs in omega arith
]

-- room in lists for who consents in a document and in those after it
room_for_consents : {Z : Type 0} (before after : BTreeMap (ℕ × ℕ) (Vec Consenter Z)) (m : ℕ) (d : Doc) (docs rest : List Doc) → docs ≡ d ∷ rest → HasRoomForConsents before m rest → Widens pair_cmp before after
    → ((a : ℕ) → IsTrue (is_consent_to a d) → length docs ≤ room pair_cmp after (m, a))
    → HasRoomForConsents after m (d ∷ rest)
room_for_consents before after m d docs rest is behind wider people a = by_test (is_consent_to a d) refl
  where
    by_test : (b : Bool) → is_consent_to a d ≡ b → length (cond b (d ∷ filter (is_consent_to a) rest) (filter (is_consent_to a) rest)) ≤ room pair_cmp after (m, a)
    by_test true e =
        let all : length docs ≤ room pair_cmp after (m, a) = people a e in
        let count : length docs ≡ length (d ∷ rest) = ap length is in
        let less = few a rest in
        omega arith
    by_test false e = le_trans (behind a) (wider.room (m, a))

-- room for a document and those after it
pub room_for_all : (before after : CureDocuments) (m : ℕ) (d : Doc) (docs rest : List Doc) → docs ≡ d ∷ rest → HasRoomForDocs before m rest → KeepsDocuments before after
    → ((s : Sought) → IsTrue (is_sought s d) → IsTrue (is_held after.firsts (key_of m s)))
    → ((a : ℕ) → IsTrue (is_consent_to a d) → length docs ≤ room pair_cmp after.consenters (m, a))
    → ((a : ℕ) → IsTrue (is_consent_to a d) → length docs ≤ room pair_cmp after.plain_consenters (m, a))
    → HasRoomForDocs after m docs
room_for_all before after m d docs rest is behind keeps places people plain = subst (HasRoomForDocs after m) (sym is) (record {
  held = λ s h. ⊎_elim (λ here. places s here) (λ later. keeps.held (key_of m s) (behind.held s later)) (or_cases (is_sought s d) (list_any (is_sought s) rest) h);
  consenters = room_for_consents before.consenters after.consenters m d docs rest is behind.consenters keeps.consenters people;
  plain_consenters = room_for_consents before.plain_consenters after.plain_consenters m d docs rest is behind.plain_consenters keeps.plain_consenters plain;
})

room_for_one : {Z : Type 0} (lists : BTreeMap (ℕ × ℕ) (Vec Consenter Z)) (m : ℕ) (d : Doc) (rest : List Doc) → HasRoomForConsents lists m (d ∷ rest) → HasRoomForConsents lists m (d ∷ [])
room_for_one lists m d rest has a = by_test (is_consent_to a d) (has a)
  where
    by_test : (b : Bool) → length (cond b (d ∷ filter (is_consent_to a) rest) (filter (is_consent_to a) rest)) ≤ room pair_cmp lists (m, a)
        → length (cond b (d ∷ []) []) ≤ room pair_cmp lists (m, a)
    by_test true e = omega arith
    by_test false e = omega arith

-- room for several documents is room for the first of them
pub room_for_first : (documents : CureDocuments) (m : ℕ) (d : Doc) (docs rest : List Doc) → docs ≡ d ∷ rest → HasRoomForDocs documents m docs → HasRoomForDocs documents m (d ∷ [])
room_for_first documents m d docs rest is has =
    let all : HasRoomForDocs documents m (d ∷ rest) = subst (HasRoomForDocs documents m) is has in
    record {
      held = λ s h. ⊎_elim (λ here. all.held s (or_left _ _ here)) (λ none. absurd (cc none)) (or_cases (is_sought s d) false h);
      consenters = room_for_one documents.consenters m d rest all.consenters;
      plain_consenters = room_for_one documents.plain_consenters m d rest all.plain_consenters;
    }

-- what holds where a result is Ok, carried over
pub on_ok : {T E : Type 0} (r : Result T E) (P Q : Type 0) → (P → Q) → OnOk r P → OnOk r Q
on_ok (Ok x) P Q then holds = then holds
on_ok (Err e) P Q then holds = holds

pub both_ok : {T E : Type 0} (r : Result T E) (P Q R : Type 0) → (P → Q → R) → OnOk r P → OnOk r Q → OnOk r R
both_ok (Ok x) P Q R then first second = then first second
both_ok (Err e) P Q R then first second = first

widens_then : {K X Z : Type 0} (cmp : K → K → Ordering) (a b c : BTreeMap K (Vec X Z)) → Widens cmp a b → Widens cmp b c → Widens cmp a c
widens_then cmp a b c first then = record {
  listed = λ k. then.listed k ∙ first.listed k;
  room = λ k. le_trans (first.room k) (then.room k);
}

-- what is kept in two steps is kept in both together
pub keeps_then : (a b c : CureDocuments) → KeepsDocuments a b → KeepsDocuments b c → KeepsDocuments a c
keeps_then a b c first then = record {
  first = λ k. then.first k ∙ first.first k;
  held = λ k h. then.held k (first.held k h);
  consenters = widens_then pair_cmp a.consenters b.consenters c.consenters first.consenters then.consenters;
  plain_consenters = widens_then pair_cmp a.plain_consenters b.plain_consenters c.plain_consenters first.plain_consenters then.plain_consenters;
}
