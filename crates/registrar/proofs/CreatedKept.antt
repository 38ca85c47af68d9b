-- Each right stays entered as the journal has it filed.
use Rattle.std.proofs.Common.{◌≡◌, ℕ, ◌≤◌, true, cond, List, ◌++◌, Any, Contains, IfSome, IsSomeAnd, Option, Some, None, is_some, refl, sym, ap, subst, ◌∙◌, arith}
use Rattle.std.specs.List.{AllByRecursion}
use Rattle.std.specs.Option.{option_and_then}
use Rattle.std.proofs.lemmas.Bool.{false≢true}
use Rattle.std.proofs.lemmas.List.Elements.{All-append, All-from_recursion, All-weaker}
use Rattle.gb_base.specs.RightNo.{RightNo}
use Rattle.gb_base.specs.declared.keys.Key.{Key}
use Rattle.gb_base.specs.declared.keys.Key.TheVariants.{Title, Right, Case}
use Rattle.act_model.proofs.CreationRanks.{has_rank}
use Rattle.act_model.specs.Acts.{folio_of, right_created}
use Rattle.act_model.specs.Creations.{creating_rank, folio_of_creation}
use Rattle.act_model.specs.Touches.{keys_of_act, new_right, act_of_right}
use Rattle.act_model.specs.declared.documents.Doc.{Doc}
use Rattle.act_model.specs.declared.filing_acts.Act.{Act}
use Rattle.act_model.specs.declared.filing_acts.Act.TheVariants.{Open, Transfer, Create, NoticeFor, Convert, Assign, Cancel, Exchange, Exercise}
use Rattle.act_model.specs.declared.items.Filing.{Filing}
use Rattle.act_model.specs.declared.receipts.Receipt.{Receipt}
use Rattle.act_model.specs.declared.rights.RightSpec.{RightSpec}
use Rattle.folio_sections.specs.Entries.{at, with_entries}
use Rattle.act_model.specs.Documents.{documents}
use Rattle.entry_rules.specs.Entering.{as_entered, content, contents_brought}
use Rattle.registrar.specs.Enters.{enters}
use Rattle.kept_registers.specs.KeptRights.{CreatedAsFiled, EntersAsFiled, IsAsFiled, IsCreatedAsFiled, SetsPlace}
use Rattle.act_model.specs.Limits.{most_creations}
use Rattle.folio_sections.specs.declared.entries.Entry.{Entry}
use Rattle.folio_sections.specs.declared.entries.What.{What}
use Rattle.folio_sections.specs.declared.entries.What.TheVariants as what
use Rattle.folio_sections.specs.declared.title_places.TitlePlace.{TitlePlace}
use Rattle.folio_sections.proofs.Unchanged.{all_at, all_weaker}
use Rattle.registrar.proofs.Added.{all_here}
use Rattle.interim_orders.specs.Orders.{end_brought}
use Rattle.registrar.proofs.ContainedParts.{any_in_first}
use Rattle.registrar.proofs.Dealing.{Deals, IsFit}
use Rattle.registrar.proofs.LeavingRights.{LeavesRights, end_leaves_rights}
use Rattle.registrar.proofs.NewContents.{IsActOf, act_of_new_right, all_brought, all_contents, contents_last, key_touched, standing, with_both}
use Rattle.registrar.proofs.PlaceStands.{filing_creates, place_stands}

-- an entry that entered a right as it was filed still does, since the place of its filing stays
pub still_as_filed : (journal : List Receipt) (at0 : Key → List Entry) (es : List Entry) (folio : ℕ) (right : RightNo) (receipt : ℕ) (w : What) → EntersAsFiled journal at0 folio right receipt w → EntersAsFiled journal (with_entries at0 es) folio right receipt w
still_as_filed journal at0 es folio right receipt (what.Created made) is = record {
  filed = is.filed;
  rank = is.rank;
  placed = any_in_first (SetsPlace journal folio right.receipt receipt) (at0 (Title folio)) (at es (Title folio)) is.placed;
}
still_as_filed journal at0 es folio right receipt other is = tt

leaves_as_filed : (journal : List Receipt) (at0 : Key → List Entry) (folio : ℕ) (right : RightNo) (receipt : ℕ) (w : What) → LeavesRights w → EntersAsFiled journal at0 folio right receipt w
leaves_as_filed journal at0 folio right receipt (what.Created made) leaves = absurd leaves
leaves_as_filed journal at0 folio right receipt other leaves = tt

-- at its key, an entry creates a right only as it was filed
abbrev pub EntersAt : List Receipt → (Key → List Entry) → Key → Entry → Type 0
EntersAt journal at0 (Right folio right) e = EntersAsFiled journal at0 folio right e.receipt e.what
EntersAt journal at0 (Title folio) e = Unit {0}
EntersAt journal at0 (Case folio) e = Unit {0}

pub leaves_at : (journal : List Receipt) (at0 : Key → List Entry) (k : Key) (e : Entry) → LeavesRights e.what → EntersAt journal at0 k e
leaves_at journal at0 (Right folio right) e leaves = leaves_as_filed journal at0 folio right e.receipt e.what leaves
leaves_at journal at0 (Title folio) e leaves = tt
leaves_at journal at0 (Case folio) e leaves = tt

-- where each new entry creates rights only as they were filed, at its key, all rights stand as they were filed
pub created_by_new : (journal : List Receipt) (at0 : Key → List Entry) (es : List Entry) → ((folio : ℕ) (right : RightNo) → AllByRecursion (EntersAt journal (with_entries at0 es) (Right folio right)) (at es (Right folio right))) → CreatedAsFiled journal at0 → CreatedAsFiled journal (with_entries at0 es)
created_by_new journal at0 es new kept = record {
  filed = λ folio right.
      All-append (λ e. EntersAsFiled journal (with_entries at0 es) folio right e.receipt e.what) (at0 (Right folio right)) (at es (Right folio right))
      (All-weaker (λ e. EntersAsFiled journal at0 folio right e.receipt e.what) (λ e. EntersAsFiled journal (with_entries at0 es) folio right e.receipt e.what)
      (λ e is. still_as_filed journal at0 es folio right e.receipt e.what is) (at0 (Right folio right)) (kept.filed folio right))
      (All-from_recursion (λ e. EntersAsFiled journal (with_entries at0 es) folio right e.receipt e.what) (at es (Right folio right)) (new folio right));
}

pub created_stays : (journal : List Receipt) (at : Key → List Entry) (es : List Entry) → AllByRecursion (λ e. LeavesRights e.what) es → CreatedAsFiled journal at → CreatedAsFiled journal (with_entries at es)
created_stays journal at0 es leaves kept =
    created_by_new journal at0 es
    (λ folio right. all_weaker (λ (e : Entry). LeavesRights e.what) (EntersAt journal (with_entries at0 es) (Right folio right)) (at es (Right folio right))
    (λ e leaves_it. leaves_at journal (with_entries at0 es) (Right folio right) e leaves_it)
    (all_at (λ e. LeavesRights e.what) es (Right folio right) leaves))
    kept

-- ---- the rights that a filing's entry creates

ranked : (P : ℕ → Type 0) (o : Option ℕ) → is_some o ≡ true → IfSome o P → IsSomeAnd o P
ranked P None some has = absurd (false≢true some)
ranked P (Some n) some has = has

-- the journal has a rank for the right that an act of the filing creates
has_its_rank : (journal : List Receipt) (m a : ℕ) (act : Act) (spec : RightSpec) → act_of_right journal (new_right m a) ≡ Some act → right_created act ≡ Some spec → is_some (creating_rank journal (new_right m a)) ≡ true
has_its_rank journal m a act spec filed is =
    has_rank journal (new_right m a) ∙ ap (λ o. is_some (option_and_then folio_of_creation o)) filed ∙ ap (λ o. is_some (cond (is_some o) (Some (folio_of act)) None)) is

-- the rank of the right is among the first creations of its folio
abbrev FewCreations : List Receipt → ℕ → ℕ → Type 0
FewCreations journal m a = IfSome (creating_rank journal (new_right m a)) (λ n. n ≤ most_creations)

-- the place of filing m stands in the act's folio
abbrev pub PlaceStands : List Receipt → (Key → List Entry) → ℕ → ℕ → Act → Type 0
PlaceStands journal at1 m i act = Any (SetsPlace journal (folio_of act) m i) (at1 (Title (folio_of act)))

is_created : (journal : List Receipt) (at1 : Key → List Entry) (m a i : ℕ) (acts : List Act) (places : List TitlePlace) (act : Act) (spec : RightSpec) → act_of_right journal (new_right m a) ≡ Some act → right_created act ≡ Some spec → FewCreations journal m a → PlaceStands journal at1 m i act
    → IsCreatedAsFiled journal at1 (folio_of act) (new_right m a) i (as_entered journal m acts i places a act spec)
is_created journal at1 m a i acts places act spec filed is few place = record {
  filed = subst (λ o. IsSomeAnd o (IsAsFiled (folio_of act) (as_entered journal m acts i places a act spec))) (sym filed)
      (record { there = refl; spec = is; reserve = refl; ahead_of = refl });
  rank = ranked (λ n. n ≤ most_creations) (creating_rank journal (new_right m a)) (has_its_rank journal m a act spec filed is) few;
  placed = place;
}

content_enters : (journal : List Receipt) (m i : ℕ) (acts : List Act) (docs : List Doc) (at0 at1 : Key → List Entry) (a : ℕ) (act : Act) → act_of_right journal (new_right m a) ≡ Some act → FewCreations journal m a → ((spec : RightSpec) → right_created act ≡ Some spec → PlaceStands journal at1 m i act)
    → AllByRecursion (λ e. EntersAt journal at1 e.key e) (content journal m acts docs i at0 a act)
content_enters journal m i acts docs at0 at1 a (Open folio inventory owners) filed few place = (tt, tt)
content_enters journal m i acts docs at0 at1 a (Transfer folio owners) filed few place = (tt, tt)
content_enters journal m i acts docs at0 at1 a (Create folio spec reserve) filed few place =
    (is_created journal at1 m a i acts _ (Create folio spec reserve) spec filed refl few (place spec refl), tt)
content_enters journal m i acts docs at0 at1 a (NoticeFor folio spec) filed few place =
    (is_created journal at1 m a i acts _ (NoticeFor folio spec) spec filed refl few (place spec refl), tt)
content_enters journal m i acts docs at0 at1 a (Convert folio right) filed few place = (tt, tt)
content_enters journal m i acts docs at0 at1 a (Assign folio right holder) filed few place = (tt, tt)
content_enters journal m i acts docs at0 at1 a (Cancel folio right) filed few place = (tt, tt)
content_enters journal m i acts docs at0 at1 a (Exchange folio recede rise) filed few place = (tt, (tt, tt))
content_enters journal m i acts docs at0 at1 a (Exercise folio behind_right spec) filed few place =
    (is_created journal at1 m a i acts _ (Exercise folio behind_right spec) spec filed refl few (place spec refl), (tt, tt))

-- a creating act touches the title of its folio
title_touched : (journal : List Receipt) (m a : ℕ) (act : Act) (spec : RightSpec) → right_created act ≡ Some spec → Contains (keys_of_act journal m a act) (Title (folio_of act))
title_touched journal m a (Open folio inventory owners) spec is = absurd (cc is)
title_touched journal m a (Transfer folio owners) spec is = absurd (cc is)
title_touched journal m a (Create folio described reserve) spec is = (0, omega arith, refl)
title_touched journal m a (NoticeFor folio described) spec is = (0, omega arith, refl)
title_touched journal m a (Convert folio right) spec is = absurd (cc is)
title_touched journal m a (Assign folio right holder) spec is = absurd (cc is)
title_touched journal m a (Cancel folio right) spec is = absurd (cc is)
title_touched journal m a (Exchange folio recede rise) spec is = absurd (cc is)
title_touched journal m a (Exercise folio behind_right described) spec is = (0, omega arith, refl)

-- the place of filing m stands once the notices and the places are entered
pub place_standing : (journal : List Receipt) (m : ℕ) (f : Filing) (i : ℕ) (at0 : Key → List Entry) (a : ℕ) (act : Act) (spec : RightSpec) → Deals journal m f i at0 → IsActOf f a act → right_created act ≡ Some spec → PlaceStands journal (standing journal m i at0) m i act
place_standing journal m f i at0 a act spec deals own is =
    let title = Title (folio_of act) in
    let touched = key_touched journal m f a act title deals.filing own (title_touched journal m a act spec is) in
    let creates = filing_creates journal m f a act spec deals.filing own is in
    place_stands journal m i (folio_of act) at0 touched creates (deals.earlier title touched)

-- it stands, too, in the register after the whole entry
place_behind : (journal : List Receipt) (m : ℕ) (f : Filing) (i : ℕ) (at0 : Key → List Entry) (a : ℕ) (act : Act) (spec : RightSpec) → Deals journal m f i at0 → IsActOf f a act → right_created act ≡ Some spec → PlaceStands journal (with_entries at0 (enters journal m i at0)) m i act
place_behind journal m f i at0 a act spec deals own is =
    let title = Title (folio_of act) in
    subst (λ (now : Key → List Entry). PlaceStands journal now m i act) (sym (contents_last journal m f i at0 deals.filing))
    (any_in_first (SetsPlace journal (folio_of act) m i) (standing journal m i at0 title) (at (contents_brought journal m i (standing journal m i at0) f) title)
    (place_standing journal m f i at0 a act spec deals own is))

pub created_entered : (journal : List Receipt) (m : ℕ) (f : Filing) (i : ℕ) (at : Key → List Entry) → Deals journal m f i at → IsFit journal m f at → CreatedAsFiled journal (with_entries at (enters journal m i at))
created_entered journal m f i at0 deals fit =
    let at1 = with_entries at0 (enters journal m i at0) in
    let contents = all_contents (λ e. EntersAt journal at1 e.key e) (λ a act. FewCreations journal m a) journal m i (standing journal m i at0) f
    (λ a act own few among. content_enters journal m i f.acts (documents journal m f i) (standing journal m i at0) at1 a act (act_of_new_right journal m f a act deals.filing own) few
    (λ spec is. place_behind journal m f i at0 a act spec deals own is))
    fit.few in
    let all = all_brought (λ e. EntersAt journal at1 e.key e) journal m f i at0 deals.filing (λ e leaves. leaves_at journal at1 e.key e leaves) contents in
    created_by_new journal at0 (enters journal m i at0)
    (λ folio right. all_here (EntersAt journal at1) (enters journal m i at0) (Right folio right) all) deals.kept.created_as_filed

pub created_cured : (journal : List Receipt) (m : ℕ) (f : Filing) (i : ℕ) (at : Key → List Entry) → Deals journal m f i at → IsFit journal m f at → CreatedAsFiled journal (with_entries at (enters journal m i at ++ end_brought journal m i))
created_cured journal m f i at0 deals fit =
    let brought = enters journal m i at0 in
    let end = end_brought journal m i in
    subst (CreatedAsFiled journal) (sym (with_both at0 brought end))
    (created_stays journal (with_entries at0 brought) end (end_leaves_rights journal m i) (created_entered journal m f i at0 deals fit))
