-- What a right keeps, with one entry more.
use Rattle.std.proofs.Common.{◌≡◌, ℕ, ◌+◌, Bool, true, false, cond, if◌then◌else◌, ◌||◌, List, [], ◌∷◌, ◌++◌, Option, Some, None, fold, length, option_map, refl, sym, ap, subst, ◌∙◌}
use Rattle.std.specs.Option.{option_or}
use Rattle.std.proofs.lemmas.Bool.{false≢true}
use Rattle.std.proofs.lemmas.List.{append-nil, append_assoc}
use Rattle.std.proofs.lemmas.List.Sums.{fold-append}
use Rattle.folio_sections.specs.Rights.{created, created_by, entered_by, holder, is_conversion, is_exchange, is_exercise, live_by, new_holder_by, remaining_by}
use Rattle.folio_sections.specs.declared.entries.Created.{Created}
use Rattle.folio_sections.specs.declared.entries.Entry.{Entry}
use Rattle.folio_sections.specs.declared.entries.What.{What}
use Rattle.folio_sections.specs.declared.entries.What.TheVariants as what
use Rattle.folio_sections.specs.declared.right_state.RightState.{RightState}
use Rattle.folio_sections.specs.inner.Naming.{AreNamedAt}
use Rattle.folio_sections.specs.inner.States.{IsRight, IsRightState, holder_named, names_holder, state_by, state_on}
use Rattle.folio_sections.proofs.Cases.{count_push}
use Rattle.folio_sections.proofs.Naming.{named_push, unnamed_push}
use Rattle.folio_sections.proofs.Titles.{any_push}

-- the holder, where these are the last new holder and the right as it was created
abbrev holder_of : Option ℕ → Option Created → Option ℕ
holder_of new made = option_or new (option_map (λ c. c.spec.holder) made)

named_then : (new : Option ℕ) (made : Option Created) (w : What) → names_holder new w ≡ true → holder_of (new_holder_by new w) (created_by made w) ≡ holder_named w
named_then None made (what.Created c) is = refl
named_then (Some person) made (what.Created c) is = absurd (false≢true is)
named_then new made (what.Holder person) is = refl
named_then new made other is = absurd (false≢true is)

unnamed_then : (new : Option ℕ) (made : Option Created) (w : What) → names_holder new w ≡ false → holder_of (new_holder_by new w) (created_by made w) ≡ holder_of new made
unnamed_then None made (what.Created c) is = absurd (false≢true (sym is))
unnamed_then (Some person) made (what.Created c) is = refl
unnamed_then new made (what.Holder person) is = absurd (false≢true (sym is))
unnamed_then new made other is = refl

abbrev new_holder : List Entry → Option ℕ
new_holder xs = fold (λ o f. new_holder_by o f.what) None xs

holder_push : (xs : List Entry) (e : Entry) → holder (xs ++ e ∷ []) ≡ holder_of (new_holder_by (new_holder xs) e.what) (created_by (created xs) e.what)
holder_push xs e =
    ap (λ o. holder_of o (created (xs ++ e ∷ []))) (fold-append (λ o f. new_holder_by o f.what) None xs (e ∷ []))
    ∙ ap (holder_of (new_holder_by (new_holder xs) e.what)) (fold-append (λ o f. created_by o f.what) None xs (e ∷ []))

holders_push : (ns : List ℕ) (xs : List Entry) (e : Entry) → AreNamedAt holder holder_named ns xs
    → AreNamedAt holder holder_named (if names_holder (new_holder xs) e.what then ns ++ length xs ∷ [] else ns) (xs ++ e ∷ [])
holders_push ns xs e are =
    elim (names_holder (new_holder xs) e.what) as (λ b. names_holder (new_holder xs) e.what ≡ b → AreNamedAt holder holder_named (cond b (ns ++ length xs ∷ []) ns) (xs ++ e ∷ [])) [
      | true ↦ λ names. named_push holder holder_named ns xs e are (holder_push xs e ∙ named_then (new_holder xs) (created xs) e.what names)
      | false ↦ λ names. unnamed_push holder holder_named ns xs e are (holder_push xs e ∙ unnamed_then (new_holder xs) (created xs) e.what names)
    ] refl

walked : {B : Type 0} (f : B → Entry → B) (start before : B) (xs : List Entry) (e : Entry) → before ≡ fold f start xs → f before e ≡ fold f start (xs ++ e ∷ [])
walked f start before xs e is = ap (λ b. f b e) is ∙ sym (fold-append f start xs (e ∷ []))

state_push : (is : RightState) (xs : List Entry) (e : Entry) → IsRightState is xs → IsRightState (state_by is e) (xs ++ e ∷ [])
state_push is xs e state = record {
  live = walked (λ b d. live_by b d.what) false is.live xs e state.live;
  created = walked (λ b d. created_by b d.what) None is.created xs e state.created;
  entered = walked (λ b d. entered_by d.day b d.what) None is.entered xs e state.entered;
  converted = ap (λ b. b || is_conversion e.what) state.converted ∙ sym (any_push (λ f. is_conversion f.what) xs e);
  new_holder = walked (λ b d. new_holder_by b d.what) None is.new_holder xs e state.new_holder;
  remaining = walked (λ b d. remaining_by b d.what) None is.remaining xs e state.remaining;
  spent = ap (λ b. b || is_exercise e.what) state.spent ∙ sym (any_push (λ f. is_exercise f.what) xs e);
}

-- a walk on over further entries
pub states_on : (is : RightState) (xs ys : List Entry) → IsRightState is xs → IsRightState (state_on is ys) (xs ++ ys)
states_on is xs [] state = subst (IsRightState is) (sym (append-nil xs)) state
states_on is xs (y ∷ ys) state =
    subst (IsRightState (state_on is (y ∷ ys))) (append_assoc xs (y ∷ []) ys)
    (states_on (state_by is y) (xs ++ y ∷ []) ys (state_push is xs y state))

right_push_of : (is : RightState) (count : ℕ) (xs : List Entry) (ns : List ℕ) (e : Entry) → IsRight is count xs ns
    → IsRight (state_by is e) (count + cond (is_exchange e.what) 1 0) (xs ++ e ∷ []) (if names_holder is.new_holder e.what then ns ++ length xs ∷ [] else ns)
right_push_of is count xs ns e right = record {
  state = state_push is xs e right.state;
  counted = ap (λ n. n + cond (is_exchange e.what) 1 0) right.counted ∙ sym (count_push (λ f. is_exchange f.what) xs e);
  holder = subst (λ o. AreNamedAt holder holder_named (if names_holder o e.what then ns ++ length xs ∷ [] else ns) (xs ++ e ∷ [])) (sym right.state.new_holder) (holders_push ns xs e right.holder);
}

pub right_push : (is after : RightState) (count count' : ℕ) (xs ys : List Entry) (ns ms : List ℕ) (e : Entry) (names : Bool) → IsRight is count xs ns
    → after ≡ state_by is e → count' ≡ count + cond (is_exchange e.what) 1 0 → ys ≡ xs ++ e ∷ []
    → names ≡ names_holder is.new_holder e.what → ms ≡ (if names then ns ++ length xs ∷ [] else ns) → IsRight after count' ys ms
right_push is after count count' xs ys ns ms e names right state counts more named naming =
    subst (λ s. IsRight s count' ys ms) (sym state)
    (subst (λ n. IsRight (state_by is e) n ys ms) (sym counts)
    (subst (λ zs. IsRight (state_by is e) (count + cond (is_exchange e.what) 1 0) zs ms) (sym more)
    (subst (IsRight (state_by is e) (count + cond (is_exchange e.what) 1 0) (xs ++ e ∷ [])) (sym (naming ∙ ap (λ b. if b then ns ++ length xs ∷ [] else ns) named)) (right_push_of is count xs ns e right))))
