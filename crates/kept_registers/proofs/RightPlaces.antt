-- Rights stand at the places of their filings, and places that are added at the end change nothing of those before them.
use Rattle.std.proofs.Common.{◌≡◌, ℕ, true, false, cond, eqb, Bool, List, [], ◌∷◌, ◌++◌, IfSome, IsSomeAnd, Option, Some, None, fold, is_some, option_and_then, refl, sym, ap, subst, ◌∙◌}
use Rattle.std.proofs.lemmas.Bool.{false≢true}
use Rattle.std.proofs.lemmas.List.Elements.{recursion_from_All}
use Rattle.gb_base.specs.RightNo.{RightNo}
use Rattle.gb_base.specs.declared.keys.Key.{Key}
use Rattle.gb_base.specs.declared.keys.Key.TheVariants.{Right}
use Rattle.act_model.specs.Acts.{is_in_division_three}
use Rattle.act_model.specs.declared.receipts.Receipt.{Receipt}
use Rattle.folio_sections.proofs.Unchanged.{all_weaker}
use Rattle.folio_sections.specs.Places.{behind, behind_by, own_place, places}
use Rattle.folio_sections.specs.Rights.{created}
use Rattle.folio_sections.specs.declared.entries.Created.{Created}
use Rattle.folio_sections.specs.declared.entries.Entry.{Entry}
use Rattle.folio_sections.specs.declared.entries.What.{What}
use Rattle.folio_sections.specs.declared.entries.What.TheVariants as what
use Rattle.folio_sections.specs.declared.title_places.TitlePlace.{TitlePlace}
use Rattle.kept_registers.specs.Kept.{Kept}
use Rattle.kept_registers.specs.KeptRights.{EntersInPlace, StandsAtItsPlace}
use Rattle.kept_registers.proofs.KeptOrder.{OfCreation, created_has}
use Rattle.kept_registers.proofs.PlaceOrder.{ahead, ahead_is}

-- ---- a right as it was created stands at its place

as_creation : (journal : List Receipt) (standing : List TitlePlace) (right : RightNo) (w : What) → EntersInPlace journal standing right w → OfCreation (StandsAtItsPlace journal standing right) w
as_creation journal standing right (what.Created made) enters = enters
as_creation journal standing right other enters = tt

pub right_in_place : (journal : List Receipt) (at : Key → List Entry) (folio : ℕ) (right : RightNo) (made : Created) → Kept journal at → created (at (Right folio right)) ≡ Some made
    → StandsAtItsPlace journal (places journal at folio) right made
right_in_place journal at folio right made kept is =
    let entries = at (Right folio right) in
    let standing = places journal at folio in
    let Enters : Entry → Type 0 = λ e. EntersInPlace journal standing right e.what in
    let P = StandsAtItsPlace journal standing right in
    let all = recursion_from_All Enters entries (kept.entered_in_place.in_place folio right) in
    subst (λ o. IfSome o P) is
    (created_has P entries (all_weaker Enters (λ e. OfCreation P e.what) entries (λ e enters. as_creation journal standing right e.what enters) all))

-- ---- places after those that stand

-- a filing that has its place keeps it
own_stays : (m : ℕ) (ps qs : List TitlePlace) → is_some (own_place m ps) ≡ true → own_place m (ps ++ qs) ≡ own_place m ps
own_stays m [] qs has = absurd (false≢true has)
own_stays m (o ∷ ps) qs has =
    elim (eqb o.filing m) as (λ b. is_some (cond b (Some o) (own_place m ps)) ≡ true → cond b (Some o) (own_place m (ps ++ qs)) ≡ cond b (Some o) (own_place m ps)) [
      | true ↦ λ here. refl
      | false ↦ λ later. own_stays m ps qs later
    ] has

-- a filing that has its place keeps the places ahead of it
ahead_stays : (m : ℕ) (ps qs : List TitlePlace) → is_some (own_place m ps) ≡ true → ahead m (ps ++ qs) ≡ ahead m ps
ahead_stays m [] qs has = absurd (false≢true has)
ahead_stays m (o ∷ ps) qs has =
    elim (eqb o.filing m) as (λ b. is_some (cond b (Some o) (own_place m ps)) ≡ true → cond b [] (o ∷ ahead m (ps ++ qs)) ≡ cond b [] (o ∷ ahead m ps)) [
      | true ↦ λ here. refl
      | false ↦ λ later. ap (λ rs. o ∷ rs) (ahead_stays m ps qs later)
    ] has

-- what filing m's right stands behind, by the places ahead
behind_ahead : (third : Bool) (m : ℕ) (ps : List TitlePlace) → behind third m ps ≡ option_and_then (λ own. fold (behind_by third own.day) None (ahead m ps)) (own_place m ps)
behind_ahead third m ps = ap (λ rs. option_and_then (λ own. fold (behind_by third own.day) None rs) (own_place m ps)) (ahead_is m ps)

behind_stays : (third : Bool) (m : ℕ) (ps qs : List TitlePlace) → is_some (own_place m ps) ≡ true → behind third m (ps ++ qs) ≡ behind third m ps
behind_stays third m ps qs has =
    behind_ahead third m (ps ++ qs)
    ∙ (λ i. option_and_then (λ own. fold (behind_by third own.day) None (ahead_stays m ps qs has i)) (own_stays m ps qs has i))
    ∙ sym (behind_ahead third m ps)

one_is : {X : Type 0} (P : X → Type 0) (o : Option X) → IsSomeAnd o P → is_some o ≡ true
one_is P None has = absurd has
one_is P (Some x) has = refl

-- so a right at its place stays there
pub still_in_place : (journal : List Receipt) (ps qs : List TitlePlace) (right : RightNo) (made : Created) → StandsAtItsPlace journal ps right made → StandsAtItsPlace journal (ps ++ qs) right made
still_in_place journal ps qs right made stands =
    let has = one_is (λ (p : TitlePlace). p.day ≡ made.placed) (own_place right.receipt ps) stands.on_day in
    record {
      on_day = subst (λ o. IsSomeAnd o (λ p. p.day ≡ made.placed)) (sym (own_stays right.receipt ps qs has)) stands.on_day;
      stands_behind = behind_stays (is_in_division_three made.spec.kind) right.receipt ps qs has ∙ stands.stands_behind;
      shares_group = stands.shares_group;
    }
