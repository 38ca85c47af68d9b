-- The states that are kept after some of the entries of a right: with one entry more, and a walk on from one.
use Rattle.std.proofs.Common.{◌≡◌, ℕ, ◌+◌, ◌-◌, ◌*◌, ◌/◌, ◌≤◌, ◌&&◌, Bool, true, false, cond, min, nat_lt, if◌then◌else◌, List, [], ◌∷◌, ◌++◌, None, length, drop, take, refl, sym, ap, subst, ◌∙◌, ⊎_elim, arith}
use Rattle.std.specs.List.{last_or}
use Rattle.std.proofs.lemmas.Bool.{cases_Bool}
use Rattle.std.proofs.lemmas.Bool.Decides.{nat_tests}
use Rattle.std.proofs.lemmas.List.{drop-take, take-append-drop, take-append-le, take-take, take_all}
use Rattle.folio_sections.specs.declared.entries.Entry.{Entry}
use Rattle.folio_sections.specs.declared.right_state.RightState.{RightState}
use Rattle.folio_sections.specs.inner.Marks.{AreMarks, is_at_mark, or_never, state_at}
use Rattle.folio_sections.specs.inner.States.{IsRightState, never_created, state_on}
use Rattle.folio_sections.proofs.Naming.{last_or-push, length_push}
use Rattle.folio_sections.proofs.Rights.{states_on}

never : IsRightState never_created []
never = record { live = refl; created = refl; entered = refl; converted = refl; new_holder = refl; remaining = refl; spent = refl }

-- no entries have no marks
pub no_marks : AreMarks [] []
no_marks = record {
  within = omega arith;
  read = λ k few.
      subst (λ s. IsRightState s (take (16 * k) [])) (sym (ap (λ t. or_never (last_or None t)) (take_all k [] (omega arith))))
      (subst (IsRightState never_created) (sym (take_all (16 * k) [] (omega arith))) never);
}

-- ---- one entry more

-- one that is not marked
kept_push : (states : List RightState) (xs : List Entry) (e : Entry) → AreMarks states xs → AreMarks states (xs ++ e ∷ [])
kept_push states xs e marks =
    let within : 16 * length states ≤ length xs = marks.within in
    record {
      within = omega (arith, within, length_push xs e);
      read = λ k few.
          subst (IsRightState (state_at k states)) (sym (take-append-le (16 * k) xs (e ∷ []) (omega (arith, few, within)))) (marks.read k few);
    }

-- one that is marked
noted_push : (states : List RightState) (xs : List Entry) (e : Entry) (state : RightState) → AreMarks states xs → IsRightState state (xs ++ e ∷ [])
    → length xs + 1 ≡ 16 * (length states + 1) → AreMarks (states ++ state ∷ []) (xs ++ e ∷ [])
noted_push states xs e state marks is due =
    let ys = xs ++ e ∷ [] in
    let count = length_push states state in
    let len = length_push xs e in
    record {
      within = omega (arith, count, len, due);
      read = λ k few.
          ⊎_elim
          (λ ahead.
          let among : k ≤ length states = grind (arith, nat_tests, ahead) in
          subst (λ s. IsRightState s (take (16 * k) ys)) (sym (ap (λ t. or_never (last_or None t)) (take-append-le k states (state ∷ []) among)))
          ((kept_push states xs e marks).read k among))
          (λ behind.
          let last : k ≡ length states + 1 = grind (arith, nat_tests, behind, few, count) in
          let states_all : take k (states ++ state ∷ []) ≡ states ++ state ∷ [] = take_all k (states ++ state ∷ []) (omega (arith, last, count)) in
          let entries_all : take (16 * k) ys ≡ ys = take_all (16 * k) ys (omega (arith, last, len, due)) in
          subst (λ s. IsRightState s (take (16 * k) ys)) (sym (ap (λ t. or_never (last_or None t)) states_all ∙ ap or_never (last_or-push None states state)))
          (subst (IsRightState state) (sym entries_all) is))
          (cases_Bool (nat_lt k (length states + 1)));
    }

at_mark : (n k : ℕ) → is_at_mark n k ≡ true → n ≡ 16 * k
at_mark n k is = grind (arith, nat_tests, is)

push_of : (states : List RightState) (xs : List Entry) (e : Entry) (state : RightState) (is_due has_room : Bool) → AreMarks states xs → IsRightState state (xs ++ e ∷ [])
    → (is_due ≡ true → length xs + 1 ≡ 16 * (length states + 1)) → AreMarks (cond (is_due && has_room) (states ++ state ∷ []) states) (xs ++ e ∷ [])
push_of states xs e state false has_room marks is due = kept_push states xs e marks
push_of states xs e state true false marks is due = kept_push states xs e marks
push_of states xs e state true true marks is due = noted_push states xs e state marks is (due refl)

pub marks_push : (states after : List RightState) (xs ys : List Entry) (e : Entry) (state : RightState) (ahead count room : ℕ) → AreMarks states xs → IsRightState state ys
    → ys ≡ xs ++ e ∷ [] → ahead ≡ length xs → count ≡ length states
    → after ≡ (if is_at_mark (ahead + 1) (count + 1) && nat_lt count room then states ++ state ∷ [] else states) → AreMarks after ys
marks_push states after xs ys e state ahead count room marks is more len number noted =
    subst (λ ms. AreMarks ms ys) (sym noted)
    (subst (λ zs. AreMarks (cond (is_at_mark (ahead + 1) (count + 1) && nat_lt count room) (states ++ state ∷ []) states) zs) (sym more)
    (push_of states xs e state (is_at_mark (ahead + 1) (count + 1)) (nat_lt count room) marks (subst (IsRightState state) more is)
    (λ due. let at = at_mark (ahead + 1) (count + 1) due in omega (arith, at, len, number))))

-- ---- a walk on from a mark

parts : (n m : ℕ) (xs : List Entry) → take n xs ++ take m (drop n xs) ≡ take (n + m) xs
parts n m xs =
    ap (λ front. front ++ take m (drop n xs)) (sym (take-take n (n + m) xs (omega arith)))
    ∙ ap (λ rest. take n (take (n + m) xs) ++ rest) (sym (drop-take n m xs))
    ∙ take-append-drop n (take (n + m) xs)

pub walked_from : (states : List RightState) (xs : List Entry) (ahead mark : ℕ) (start is : RightState) → AreMarks states xs → mark ≡ min (ahead / 16) (length states)
    → start ≡ state_at mark states → is ≡ state_on start (take (ahead - 16 * mark) (drop (16 * mark) xs)) → IsRightState is (take ahead xs)
walked_from states xs ahead mark start is marks last begun walk =
    let few : mark ≤ length states = grind (arith, nat_tests, last) in
    let low : 16 * mark ≤ ahead = grind (arith, nat_tests, last) in
    let all : 16 * mark + (ahead - 16 * mark) ≡ ahead = omega (arith, low) in
    subst (λ s. IsRightState s (take ahead xs)) (sym (walk ∙ ap (λ s. state_on s (take (ahead - 16 * mark) (drop (16 * mark) xs))) begun))
    (subst (IsRightState (state_on (state_at mark states) (take (ahead - 16 * mark) (drop (16 * mark) xs)))) (parts (16 * mark) (ahead - 16 * mark) xs ∙ ap (λ n. take n xs) all)
    (states_on (state_at mark states) (take (16 * mark) xs) (take (ahead - 16 * mark) (drop (16 * mark) xs)) (marks.read mark few)))
