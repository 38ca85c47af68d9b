-- Each right that was created has a place, which names its division; so rights stand in the order of their filings and groups.
use Rattle.std.proofs.Common.{◌≡◌, ℕ, zero, suc, ◌-◌, ◌<◌, Bool, true, false, cond, eqb, ◌&&◌, ◌==◌, List, [], ◌∷◌, length, get_or, slice_get, Any, IfSome, IsSomeAnd, Option, Some, None, fold, is_some, option_and_then, refl, sym, ap, subst, ◌∙◌, arith}
use Rattle.std.specs.List.{AllByRecursion, cons_option, list_any}
use Rattle.std.specs.Option.{option_map_or}
use Rattle.std.proofs.lemmas.Bool.{eq-eqb, false≢true, or_left, or_right}
use Rattle.std.proofs.lemmas.List.Elements.{recursion_from_All}
use Rattle.gb_base.specs.RightNo.{RightNo}
use Rattle.gb_base.specs.declared.keys.Key.{Key}
use Rattle.gb_base.specs.declared.keys.Key.TheVariants.{Right, Title}
use Rattle.act_model.specs.declared.filing_acts.Act.{Act}
use Rattle.act_model.specs.declared.items.Filing.{Filing}
use Rattle.act_model.specs.declared.receipts.Receipt.{Receipt}
use Rattle.act_model.specs.declared.rights.RightSpec.{RightSpec}
use Rattle.act_model.specs.Acts.{folio_of, is_in_division_three, right_created}
use Rattle.act_model.specs.Receiving.{IsJournal}
use Rattle.act_model.specs.Touches.{act_at, acts_of, filing_at, act_of_right}
use Rattle.kept_registers.specs.Kept.{Kept}
use Rattle.kept_registers.specs.KeptRights.{EntersAsFiled, IsAsFiled, SetsPlace}
use Rattle.act_model.specs.Divisions.{create_in_division, creates_in_division, is_of_division}
use Rattle.folio_sections.specs.Places.{own_place, place_by, places, places_among}
use Rattle.kept_registers.specs.Ranks.{is_ahead, is_filed_ahead, ranked}
use Rattle.folio_sections.specs.Rights.{created, created_by}
use Rattle.folio_sections.specs.declared.entries.Created.{Created}
use Rattle.folio_sections.specs.declared.entries.Entry.{Entry}
use Rattle.folio_sections.specs.declared.entries.What.{What}
use Rattle.folio_sections.specs.declared.entries.What.TheVariants as what
use Rattle.folio_sections.specs.declared.title_places.TitlePlace.{TitlePlace}
use Rattle.folio_sections.proofs.Indexes.{is_some-find}
use Rattle.kept_registers.proofs.PlaceDays.{NamesDivisions, places_ascend, places_name}
use Rattle.kept_registers.proofs.PlaceOrder.{own_has}
use Rattle.kept_registers.proofs.RankOrder.{is_of_own, rank_is_order}

-- ---- the filing of a right creates in its division

pub own_division : (third : Bool) (spec : RightSpec) → is_in_division_three spec.kind ≡ third → is_of_division third spec ≡ true
own_division true spec division = division
own_division false spec division = rw division refl

-- a right's division
abbrev division_of : Created → Bool
division_of made = is_in_division_three made.spec.kind

act_creates : (folio : ℕ) (made : Created) (act : Act) → IsAsFiled folio made act → creates_in_division (division_of made) folio act ≡ true
act_creates folio made act filed =
    let there : eqb (folio_of act) folio ≡ true = eq-eqb (folio_of act) folio filed.there in
    let here : option_map_or (is_of_division (division_of made)) (right_created act) false ≡ true =
    ap (λ o. option_map_or (is_of_division (division_of made)) o false) filed.spec ∙ own_division (division_of made) made.spec refl in
    λ i. there i && here i

-- so one of the acts of its filing creates in the right's division
among_acts : (folio : ℕ) (made : Created) (acts : List Act) (k : ℕ) → IsSomeAnd (slice_get acts k) (IsAsFiled folio made) → create_in_division (division_of made) folio acts ≡ true
among_acts folio made [] k filed = absurd filed
among_acts folio made (act ∷ acts) zero filed =
    or_left (creates_in_division (division_of made) folio act) (create_in_division (division_of made) folio acts) (act_creates folio made act filed)
among_acts folio made (act ∷ acts) (suc k) filed =
    or_right (creates_in_division (division_of made) folio act) (create_in_division (division_of made) folio acts) (among_acts folio made acts k filed)

filing_has : (folio : ℕ) (made : Created) (a : ℕ) (o : Option Filing) → IsSomeAnd (option_and_then (λ f. act_at f a) o) (IsAsFiled folio made)
    → create_in_division (division_of made) folio (option_map_or (λ f. f.acts) o []) ≡ true
filing_has folio made a None filed = absurd filed
filing_has folio made a (Some f) filed =
    elim (eqb a 0) as (λ b. IsSomeAnd (cond b None (slice_get f.acts (a - 1))) (IsAsFiled folio made) → create_in_division (division_of made) folio f.acts ≡ true) [
      | true ↦ λ none. absurd none
      | false ↦ λ some. among_acts folio made f.acts (a - 1) some
    ] filed

creates_for_right : (journal : List Receipt) (folio : ℕ) (right : RightNo) (made : Created) → IsSomeAnd (act_of_right journal right) (IsAsFiled folio made)
    → create_in_division (division_of made) folio (acts_of journal right.receipt) ≡ true
creates_for_right journal folio right made filed = filing_has folio made right.act (filing_at journal right.receipt) filed

-- ---- the filing has a place

-- an entry that sets filing m a place is enough
in_front : (m : ℕ) (o : Option TitlePlace) (ps : List TitlePlace) → IsSomeAnd o (λ p. p.filing ≡ m) → list_any (λ p. p.filing == m) (cons_option o ps) ≡ true
in_front m None ps is = absurd is
in_front m (Some p) ps is = or_left (eqb p.filing m) (list_any (λ (q : TitlePlace). q.filing == m) ps) (eq-eqb p.filing m is)

further : (m : ℕ) (o : Option TitlePlace) (ps : List TitlePlace) → list_any (λ p. p.filing == m) ps ≡ true → list_any (λ p. p.filing == m) (cons_option o ps) ≡ true
further m None ps has = has
further m (Some p) ps has = or_right (eqb p.filing m) (list_any (λ (q : TitlePlace). q.filing == m) ps) has

place_found : (journal : List Receipt) (folio m receipt : ℕ) (es : List Entry) (k : ℕ) (e : Entry) → k < length es → get_or es k e ≡ e → SetsPlace journal folio m receipt e
    → list_any (λ p. p.filing == m) (places_among journal folio es) ≡ true
place_found journal folio m receipt [] k e within is sets = absurd (omega arith)
place_found journal folio m receipt (d ∷ es) zero e within is sets =
    in_front m (place_by journal folio d.day d.what) (places_among journal folio es) (subst (SetsPlace journal folio m receipt) (sym is) sets).0
place_found journal folio m receipt (d ∷ es) (suc k) e within is sets =
    further m (place_by journal folio d.day d.what) (places_among journal folio es) (place_found journal folio m receipt es k e (omega arith) is sets)

-- a title has a place of filing m where one of its entries sets that place
pub has_its_place : (journal : List Receipt) (folio m receipt : ℕ) (es : List Entry) → Any (SetsPlace journal folio m receipt) es → is_some (own_place m (places_among journal folio es)) ≡ true
has_its_place journal folio m receipt es placed =
    is_some-find (λ (p : TitlePlace). p.filing == m) (places_among journal folio es)
    ∙ place_found journal folio m receipt es placed.0 placed.1 placed.2 placed.3 placed.4

-- ---- the place names the right's division

-- a place of filing m, which names this division
record StandsAt (m : ℕ) (third : Bool) (ps : List TitlePlace) : Type 0 where
  place : TitlePlace
  own : own_place m ps ≡ Some place
  names : is_of_own third place ≡ true

names_own : (journal : List Receipt) (folio m : ℕ) (third : Bool) (p : TitlePlace) → NamesDivisions journal folio p → p.filing ≡ m → create_in_division third folio (acts_of journal m) ≡ true → is_of_own third p ≡ true
names_own journal folio m true p names own creates = names.1 ∙ ap (λ n. create_in_division true folio (acts_of journal n)) own ∙ creates
names_own journal folio m false p names own creates = names.0 ∙ ap (λ n. create_in_division false folio (acts_of journal n)) own ∙ creates

stands_at : (journal : List Receipt) (folio m : ℕ) (third : Bool) (ps : List TitlePlace) (o : Option TitlePlace) → own_place m ps ≡ o → is_some o ≡ true → AllByRecursion (NamesDivisions journal folio) ps
    → create_in_division third folio (acts_of journal m) ≡ true → StandsAt m third ps
stands_at journal folio m third ps None own has names creates = absurd (false≢true has)
stands_at journal folio m third ps (Some p) own has names creates =
    let h = own_has (NamesDivisions journal folio) m ps p names own in
    record { place = p; own = own; names = names_own journal folio m third p h.0 h.1 creates }

-- ---- the right as it was created

-- the right that a content creates has the property P
abbrev pub OfCreation : (Created → Type 0) → What → Type 0
OfCreation P (what.Created made) = P made
OfCreation P other = Unit {0}

-- a property that each creation has, the right has as it was created
next_has : (P : Created → Type 0) (before : Option Created) (w : What) → IfSome before P → OfCreation P w → IfSome (created_by before w) P
next_has P before (what.Created made) old new = new
next_has P before other old new = old

last_has : (P : Created → Type 0) (before : Option Created) (es : List Entry) → IfSome before P → AllByRecursion (λ e. OfCreation P e.what) es → IfSome (fold (λ b e. created_by b e.what) before es) P
last_has P before [] old all = old
last_has P before (e ∷ es) old all = last_has P (created_by before e.what) es (next_has P before e.what old all.0) all.1

pub created_has : (P : Created → Type 0) (es : List Entry) → AllByRecursion (λ e. OfCreation P e.what) es → IfSome (created es) P
created_has P es all = last_has P None es tt all

-- the right stands at a place of its filing, and the place names the right's division
abbrev StandsPlaced : List Receipt → (Key → List Entry) → ℕ → RightNo → Created → Type 0
StandsPlaced journal at folio right made = StandsAt right.receipt (division_of made) (places journal at folio)

content_stands : (journal : List Receipt) (at : Key → List Entry) (folio : ℕ) (right : RightNo) (receipt : ℕ) (w : What) → Kept journal at → EntersAsFiled journal at folio right receipt w
    → OfCreation (StandsPlaced journal at folio right) w
content_stands journal at folio right receipt (what.Created made) kept enters =
    let ps = places journal at folio in
    stands_at journal folio right.receipt (division_of made) ps (own_place right.receipt ps) refl
    (has_its_place journal folio right.receipt receipt (at (Title folio)) enters.placed)
    (places_name journal at folio kept) (creates_for_right journal folio right made enters.filed)
content_stands journal at folio right receipt other kept enters = tt

contents_stand : (journal : List Receipt) (at : Key → List Entry) (folio : ℕ) (right : RightNo) (es : List Entry) → Kept journal at → AllByRecursion (λ e. EntersAsFiled journal at folio right e.receipt e.what) es
    → AllByRecursion (λ e. OfCreation (StandsPlaced journal at folio right) e.what) es
contents_stand journal at folio right [] kept all = tt
contents_stand journal at folio right (e ∷ es) kept all = (content_stands journal at folio right e.receipt e.what kept all.0, contents_stand journal at folio right es kept all.1)

right_stands : (journal : List Receipt) (at : Key → List Entry) (folio : ℕ) (right : RightNo) (made : Created) → Kept journal at → created (at (Right folio right)) ≡ Some made → StandsPlaced journal at folio right made
right_stands journal at folio right made kept is =
    let entries = at (Right folio right) in
    let P = StandsPlaced journal at folio right in
    let all = recursion_from_All (λ (e : Entry). EntersAsFiled journal at folio right e.receipt e.what) entries (kept.created_as_filed.filed folio right) in
    subst (λ o. IfSome o P) is (created_has P entries (contents_stand journal at folio right entries kept all))

-- ---- the order of two rights

pub kept_is_order : (journal : List Receipt) (at : Key → List Entry) (folio : ℕ) (x y : RightNo) (a b : Created) → IsJournal journal → Kept journal at
    → created (at (Right folio x)) ≡ Some a → created (at (Right folio y)) ≡ Some b
    → is_ahead (places journal at folio) (ranked x a) (ranked y b) ≡ is_filed_ahead (ranked x a) (ranked y b)
kept_is_order journal at folio x y a b stands kept first second =
    let here = right_stands journal at folio x a kept first in
    let there = right_stands journal at folio y b kept second in
    rank_is_order (places journal at folio) (ranked x a) (ranked y b) here.place there.place (places_ascend journal at folio stands kept) here.own there.own here.names
