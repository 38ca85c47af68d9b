-- Each right stays entered at the place of its filing.
use Rattle.std.proofs.Common.{◌≡◌, ℕ, false, true, List, ◌++◌, IsSomeAnd, Option, Some, None, is_some, refl, sym, ap, subst, ◌∙◌}
use Rattle.std.specs.List.{AllByRecursion, enumerate_from}
use Rattle.std.specs.Option.{option_map_or}
use Rattle.std.proofs.lemmas.Bool.{false≢true}
use Rattle.std.proofs.lemmas.List.Elements.{All-append, All-from_recursion, All-weaker}
use Rattle.gb_base.specs.RightNo.{RightNo}
use Rattle.gb_base.specs.declared.keys.Key.{Key}
use Rattle.gb_base.specs.declared.keys.Key.TheVariants.{Title, Right, Case}
use Rattle.act_model.specs.Acts.{folio_of, right_created}
use Rattle.act_model.specs.Documents.{documents}
use Rattle.act_model.specs.Groups.{has_equal, shares_its_group}
use Rattle.act_model.specs.Receiving.{day_of}
use Rattle.act_model.specs.Touches.{act_at, filing_at, new_right}
use Rattle.act_model.specs.declared.documents.Doc.{Doc}
use Rattle.act_model.specs.declared.filing_acts.Act.{Act}
use Rattle.act_model.specs.declared.filing_acts.Act.TheVariants.{Open, Transfer, Create, NoticeFor, Convert, Assign, Cancel, Exchange, Exercise}
use Rattle.act_model.specs.declared.items.Filing.{Filing}
use Rattle.act_model.specs.declared.receipts.Receipt.{Receipt}
use Rattle.act_model.specs.declared.rights.RightSpec.{RightSpec}
use Rattle.entry_rules.specs.Entering.{as_entered, content, contents_brought}
use Rattle.folio_sections.specs.Entries.{at, with_entries}
use Rattle.folio_sections.specs.Places.{own_place, places, places_among}
use Rattle.folio_sections.specs.declared.entries.Entry.{Entry}
use Rattle.folio_sections.specs.declared.entries.What.{What}
use Rattle.folio_sections.specs.declared.entries.What.TheVariants as what
use Rattle.folio_sections.specs.declared.title_places.TitlePlace.{TitlePlace}
use Rattle.folio_sections.proofs.Unchanged.{all_at, all_weaker}
use Rattle.interim_orders.specs.Orders.{end_brought}
use Rattle.kept_registers.specs.KeptRights.{EnteredInPlace, EntersInPlace, StandsAtItsPlace}
use Rattle.kept_registers.proofs.KeptOrder.{has_its_place}
use Rattle.kept_registers.proofs.RightPlaces.{still_in_place}
use Rattle.registrar.specs.Enters.{enters}
use Rattle.registrar.proofs.Added.{all_here}
use Rattle.registrar.proofs.ContainedParts.{each_so}
use Rattle.registrar.proofs.CreatedKept.{place_standing}
use Rattle.registrar.proofs.Dealing.{Deals}
use Rattle.registrar.proofs.LeavingRights.{LeavesRights, end_leaves_rights}
use Rattle.registrar.proofs.NewContents.{IsActOf, act_is, all_brought, all_contents, contents_last, standing, with_both}
use Rattle.registrar.proofs.PlaceReads.{places_both}

-- ---- what stood at its place still does

still_enters : (journal : List Receipt) (ps qs : List TitlePlace) (right : RightNo) (w : What) → EntersInPlace journal ps right w → EntersInPlace journal (ps ++ qs) right w
still_enters journal ps qs right (what.Created made) stands = still_in_place journal ps qs right made stands
still_enters journal ps qs right other stands = tt

-- a right enters in place, too, with more entries at the title
enters_on : (journal : List Receipt) (at0 : Key → List Entry) (es : List Entry) (folio : ℕ) (right : RightNo) (w : What) → EntersInPlace journal (places journal at0 folio) right w
    → EntersInPlace journal (places journal (with_entries at0 es) folio) right w
enters_on journal at0 es folio right w stands =
    subst (λ ps. EntersInPlace journal ps right w) (sym (places_both journal folio (at0 (Title folio)) (at es (Title folio))))
    (still_enters journal (places journal at0 folio) (places_among journal folio (at es (Title folio))) right w stands)

-- ---- new entries

-- at its key, an entry creates a right only at the right's place
abbrev EntersThere : List Receipt → (Key → List Entry) → Key → Entry → Type 0
EntersThere journal at0 (Right folio right) e = EntersInPlace journal (places journal at0 folio) right e.what
EntersThere journal at0 (Title folio) e = Unit {0}
EntersThere journal at0 (Case folio) e = Unit {0}

leaves_place : (journal : List Receipt) (ps : List TitlePlace) (right : RightNo) (w : What) → LeavesRights w → EntersInPlace journal ps right w
leaves_place journal ps right (what.Created made) leaves = absurd leaves
leaves_place journal ps right other leaves = tt

leaves_there : (journal : List Receipt) (at0 : Key → List Entry) (k : Key) (e : Entry) → LeavesRights e.what → EntersThere journal at0 k e
leaves_there journal at0 (Right folio right) e leaves = leaves_place journal (places journal at0 folio) right e.what leaves
leaves_there journal at0 (Title folio) e leaves = tt
leaves_there journal at0 (Case folio) e leaves = tt

-- where each new entry creates rights only at their places, at its key, all rights stand at their places
in_place_by_new : (journal : List Receipt) (at0 : Key → List Entry) (es : List Entry) → ((folio : ℕ) (right : RightNo) → AllByRecursion (EntersThere journal (with_entries at0 es) (Right folio right)) (at es (Right folio right)))
    → EnteredInPlace journal at0 → EnteredInPlace journal (with_entries at0 es)
in_place_by_new journal at0 es new kept = record {
  in_place = λ folio right.
      let Now : Entry → Type 0 = λ e. EntersInPlace journal (places journal (with_entries at0 es) folio) right e.what in
      All-append Now (at0 (Right folio right)) (at es (Right folio right))
      (All-weaker (λ e. EntersInPlace journal (places journal at0 folio) right e.what) Now (λ e is. enters_on journal at0 es folio right e.what is) (at0 (Right folio right)) (kept.in_place folio right))
      (All-from_recursion Now (at es (Right folio right)) (new folio right));
}

pub in_place_stays : (journal : List Receipt) (at : Key → List Entry) (es : List Entry) → AllByRecursion (λ e. LeavesRights e.what) es → EnteredInPlace journal at → EnteredInPlace journal (with_entries at es)
in_place_stays journal at0 es leaves kept =
    let at1 = with_entries at0 es in
    in_place_by_new journal at0 es
    (λ folio right. all_weaker (λ (e : Entry). LeavesRights e.what) (EntersThere journal at1 (Right folio right)) (at es (Right folio right))
    (λ e leaves_it. leaves_there journal at1 (Right folio right) e leaves_it) (all_at (λ e. LeavesRights e.what) es (Right folio right) leaves))
    kept

-- ---- the rights that a filing's entry creates

-- the day of its place is the right's
own_day : (day : ℕ) (o : Option TitlePlace) → is_some o ≡ true → IsSomeAnd o (λ p. p.day ≡ option_map_or (λ q. q.day) o day)
own_day day None has = absurd (false≢true has)
own_day day (Some p) has = refl

is_equal : (journal : List Receipt) (m : ℕ) (f : Filing) (a : ℕ) (act : Act) → filing_at journal m ≡ Some f → IsActOf f a act → has_equal f.acts a act ≡ shares_its_group journal (new_right m a)
is_equal journal m f a act filing own =
    sym (ap (λ o. option_map_or (λ (g : Filing). option_map_or (has_equal g.acts a) (act_at g a) false) o false) filing
    ∙ ap (λ o. option_map_or (has_equal f.acts a) o false) (act_is f a act own))

-- once the places are entered, the right that an act creates stands at its place
stands_in_place : (journal : List Receipt) (m : ℕ) (f : Filing) (i : ℕ) (at0 : Key → List Entry) (a : ℕ) (act : Act) (spec : RightSpec) → Deals journal m f i at0 → IsActOf f a act → right_created act ≡ Some spec
    → StandsAtItsPlace journal (places journal (standing journal m i at0) (folio_of act)) (new_right m a) (as_entered journal m f.acts i (places journal (standing journal m i at0) (folio_of act)) a act spec)
stands_in_place journal m f i at0 a act spec deals own is =
    let folio = folio_of act in
    let ps = places journal (standing journal m i at0) folio in
    let has = has_its_place journal folio m i (standing journal m i at0 (Title folio)) (place_standing journal m f i at0 a act spec deals own is) in
    record { on_day = own_day (day_of journal i) (own_place m ps) has; stands_behind = refl; shares_group = is_equal journal m f a act deals.filing own }

-- the right that the act creates, as it is entered with the places of at0, stands at its place among those of at1
abbrev NewInPlace : List Receipt → (Key → List Entry) → (Key → List Entry) → ℕ → ℕ → List Act → ℕ → Act → RightSpec → Type 0
NewInPlace journal at0 at1 m i acts a act spec =
    StandsAtItsPlace journal (places journal at1 (folio_of act)) (new_right m a) (as_entered journal m acts i (places journal at0 (folio_of act)) a act spec)

content_in_place : (journal : List Receipt) (m i : ℕ) (acts : List Act) (docs : List Doc) (at0 at1 : Key → List Entry) (a : ℕ) (act : Act) → ((spec : RightSpec) → right_created act ≡ Some spec → NewInPlace journal at0 at1 m i acts a act spec)
    → AllByRecursion (λ e. EntersThere journal at1 e.key e) (content journal m acts docs i at0 a act)
content_in_place journal m i acts docs at0 at1 a (Open folio inventory owners) new = (tt, tt)
content_in_place journal m i acts docs at0 at1 a (Transfer folio owners) new = (tt, tt)
content_in_place journal m i acts docs at0 at1 a (Create folio spec reserve) new = (new spec refl, tt)
content_in_place journal m i acts docs at0 at1 a (NoticeFor folio spec) new = (new spec refl, tt)
content_in_place journal m i acts docs at0 at1 a (Convert folio right) new = (tt, tt)
content_in_place journal m i acts docs at0 at1 a (Assign folio right holder) new = (tt, tt)
content_in_place journal m i acts docs at0 at1 a (Cancel folio right) new = (tt, tt)
content_in_place journal m i acts docs at0 at1 a (Exchange folio recede rise) new = (tt, (tt, tt))
content_in_place journal m i acts docs at0 at1 a (Exercise folio behind_right spec) new = (new spec refl, (tt, tt))

-- it stands there in the register after the whole entry, too, since contents are entered after the places
new_in_place : (journal : List Receipt) (m : ℕ) (f : Filing) (i : ℕ) (at0 : Key → List Entry) (a : ℕ) (act : Act) (spec : RightSpec) → Deals journal m f i at0 → IsActOf f a act → right_created act ≡ Some spec
    → NewInPlace journal (standing journal m i at0) (with_entries at0 (enters journal m i at0)) m i f.acts a act spec
new_in_place journal m f i at0 a act spec deals own is =
    let before = standing journal m i at0 in
    let made = as_entered journal m f.acts i (places journal before (folio_of act)) a act spec in
    subst (λ (now : Key → List Entry). StandsAtItsPlace journal (places journal now (folio_of act)) (new_right m a) made) (sym (contents_last journal m f i at0 deals.filing))
    (enters_on journal before (contents_brought journal m i before f) (folio_of act) (new_right m a) (what.Created made) (stands_in_place journal m f i at0 a act spec deals own is))

pub in_place_entered : (journal : List Receipt) (m : ℕ) (f : Filing) (i : ℕ) (at : Key → List Entry) → Deals journal m f i at → EnteredInPlace journal (with_entries at (enters journal m i at))
in_place_entered journal m f i at0 deals =
    let brought = enters journal m i at0 in
    let at1 = with_entries at0 brought in
    let There : Entry → Type 0 = λ e. EntersThere journal at1 e.key e in
    let contents = all_contents There (λ a act. Unit {0}) journal m i (standing journal m i at0) f
    (λ a act own nothing among. content_in_place journal m i f.acts (documents journal m f i) (standing journal m i at0) at1 a act
    (λ spec is. new_in_place journal m f i at0 a act spec deals own is))
    (each_so (λ numbered. Unit {0}) (enumerate_from 1 f.acts) (λ numbered. tt)) in
    let all = all_brought There journal m f i at0 deals.filing (λ e leaves. leaves_there journal at1 e.key e leaves) contents in
    in_place_by_new journal at0 brought (λ folio right. all_here (EntersThere journal at1) brought (Right folio right) all) deals.kept.entered_in_place

pub in_place_cured : (journal : List Receipt) (m : ℕ) (f : Filing) (i : ℕ) (at : Key → List Entry) → Deals journal m f i at → EnteredInPlace journal (with_entries at (enters journal m i at ++ end_brought journal m i))
in_place_cured journal m f i at0 deals =
    let brought = enters journal m i at0 in
    let end = end_brought journal m i in
    subst (EnteredInPlace journal) (sym (with_both at0 brought end))
    (in_place_stays journal (with_entries at0 brought) end (end_leaves_rights journal m i) (in_place_entered journal m f i at0 deals))
