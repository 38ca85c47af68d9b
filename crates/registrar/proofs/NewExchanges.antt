-- What a filing's entry exchanges and exercises is of its kind.
use Rattle.std.proofs.Common.{◌≡◌, ℕ, ◌<◌, ◌≤◌, Bool, true, false, cond, not, ◌||◌, List, [], ◌++◌, Contains, IfSome, IsSome, IsTrue, IsSomeAnd, Option, Some, None, is_some, refl, sym, subst, arith}
use Rattle.std.specs.List.{AllByRecursion, enumerate_from}
use Rattle.std.specs.Option.{option_map_or}
use Rattle.std.proofs.lemmas.Bool.{false≢true, or_parts, not-false}
use Rattle.std.proofs.lemmas.List.Elements.{All-head, Contains-append_right, recursion_from_All}
use Rattle.gb_base.specs.Keys.{same_key}
use Rattle.gb_base.specs.Limits.{most_acts}
use Rattle.gb_base.specs.RightNo.{RightNo}
use Rattle.gb_base.specs.declared.keys.Key.{Key}
use Rattle.gb_base.specs.declared.keys.Key.TheVariants.{Right}
use Rattle.act_model.proofs.KeyOrder.{itself}
use Rattle.act_model.specs.Touches.{filing_at, new_right, act_of_right}
use Rattle.act_model.specs.WellFormed.{is_filing}
use Rattle.act_model.specs.declared.documents.Doc.{Doc}
use Rattle.act_model.specs.declared.filing_acts.Act.{Act}
use Rattle.act_model.specs.declared.filing_acts.Act.TheVariants.{Open, Transfer, Create, NoticeFor, Convert, Assign, Cancel, Exchange, Exercise}
use Rattle.act_model.specs.declared.items.Filing.{Filing}
use Rattle.act_model.specs.declared.receipts.Receipt.{Receipt}
use Rattle.act_model.specs.declared.rights.RightSpec.{RightSpec}
use Rattle.act_model.specs.Documents.{documents}
use Rattle.entry_rules.specs.Entering.{as_entered, content, contents_brought, places_brought}
use Rattle.registrar.specs.Enters.{enters}
use Rattle.interim_orders.specs.Notices.{notices_brought, with_notices}
use Rattle.folio_sections.specs.Entries.{entry_by, at, with_entries}
use Rattle.act_model.specs.Acts.{right_behind}
use Rattle.act_model.specs.Groups.{shares_its_group}
use Rattle.consent_rules.specs.Judging.{exchanges_unfit_right, is_barred_from_exchange, lacks_reservation, lacks_right, lives, reserves_less}
use Rattle.kept_registers.specs.KeptPlaces.{NamesEarlier}
use Rattle.kept_registers.specs.KeptRights.{ActsOnItsKind, CreatedAsFiled, EntersAsFiled, IsAsFiled, IsUntied, StandsAhead, StandsUntied}
use Rattle.folio_sections.specs.Places.{places}
use Rattle.folio_sections.specs.Rights.{created, is_full, is_live, is_spent, live_right}
use Rattle.folio_sections.specs.declared.entries.Created.{Created}
use Rattle.folio_sections.specs.declared.entries.Entry.{Entry}
use Rattle.folio_sections.specs.declared.entries.What.{What}
use Rattle.folio_sections.specs.declared.entries.What.TheVariants as what
use Rattle.folio_sections.proofs.Indexes.{is_none_of}
use Rattle.folio_sections.proofs.Unchanged.{all_weaker}
use Rattle.kept_registers.proofs.KeptOrder.{OfCreation, created_has}
use Rattle.registrar.proofs.ContainedParts.{all_numbered, all_paired, contains_kept, contains_part}
use Rattle.registrar.proofs.Dealing.{Deals, IsFit}
use Rattle.registrar.proofs.ExchangesStand.{ActsAt, ReadOn, leaves_acts, untied_stays, reserved_by}
use Rattle.registrar.proofs.NewContents.{IsActOf, act_number, act_of_new_right, all_brought, all_contents, brought_is, standing}
use Rattle.registrar.proofs.RightReads.{AsItsAct, created_where, live_is_created, live_right_is, same_reads}

-- ---- rights that are as filed

as_its_act : (journal : List Receipt) (at0 : Key → List Entry) (folio : ℕ) (right : RightNo) (receipt : ℕ) (w : What) → EntersAsFiled journal at0 folio right receipt w → OfCreation (AsItsAct journal folio right) w
as_its_act journal at0 folio right receipt (what.Created made) is = is.filed
as_its_act journal at0 folio right receipt other is = tt

as_acts : (journal : List Receipt) (at0 : Key → List Entry) (folio : ℕ) (right : RightNo) → CreatedAsFiled journal at0 → AllByRecursion (λ e. OfCreation (AsItsAct journal folio right) e.what) (at0 (Right folio right))
as_acts journal at0 folio right filed =
    all_weaker (λ (e : Entry). EntersAsFiled journal at0 folio right e.receipt e.what) (λ (e : Entry). OfCreation (AsItsAct journal folio right) e.what) (at0 (Right folio right))
    (λ e is. as_its_act journal at0 folio right e.receipt e.what is)
    (recursion_from_All (λ (e : Entry). EntersAsFiled journal at0 folio right e.receipt e.what) (at0 (Right folio right)) (filed.filed folio right))

-- where all rights are as filed with the new entries too, the old ones read as before
pub read_on : (journal : List Receipt) (at0 : Key → List Entry) (es : List Entry) → CreatedAsFiled journal (with_entries at0 es) → ReadOn at0 (with_entries at0 es)
read_on journal at0 es filed = λ folio right.
    same_reads journal folio right (at0 (Right folio right)) (at es (Right folio right)) (as_acts journal (with_entries at0 es) folio right filed)

-- ---- rights that are exchanged

untied_of : (journal : List Receipt) (right : RightNo) (o : Option Created) → is_some o ≡ true → shares_its_group journal right ≡ false → option_map_or (λ made. is_some made.reserve || is_some made.ahead_of) o false ≡ false → IsSomeAnd o (IsUntied journal right)
untied_of journal right None some alone h = absurd (false≢true some)
untied_of journal right (Some made) some alone h =
    let neither = or_parts (is_some made.reserve) (is_some made.ahead_of) h in
    record { alone = alone; no_reserve = is_none_of made.reserve neither.0; no_exercise = is_none_of made.ahead_of neither.1 }

untied_here : (journal : List Receipt) (at0 : Key → List Entry) (folio : ℕ) (right : RightNo) → not (lives at0 folio right) ≡ false → is_barred_from_exchange journal at0 folio right ≡ false → StandsUntied journal at0 folio right
untied_here journal at0 folio right lives_here fit =
    let es = at0 (Right folio right) in
    let live = not-false (is_live es) lives_here in
    let barred : Option Created → Bool = λ o. option_map_or (λ made. is_some made.reserve || is_some made.ahead_of) o false in
    let parts = or_parts (not (is_full es) || shares_its_group journal right) (barred (live_right es)) fit in
    untied_of journal right (created es) (live_is_created es live) (or_parts (not (is_full es)) (shares_its_group journal right) parts.0).1
    (subst (λ o. barred o ≡ false) (live_right_is es live) parts.1)

-- ---- reservations that are exercised

some_reserved : (reserve : Option ℕ) (capital : ℕ) → reserves_less reserve capital ≡ false → is_some reserve ≡ true
some_reserved None capital h = absurd (false≢true (sym h))
some_reserved (Some reserved) capital h = refl

reserved_of : (live : Bool) (o : Option Created) (capital : ℕ) → option_map_or (λ made. reserves_less made.reserve capital) (cond live o None) true ≡ false → IsSomeAnd o (λ made. IsSome made.reserve)
reserved_of false o capital h = absurd (false≢true (sym h))
reserved_of true None capital h = absurd (false≢true (sym h))
reserved_of true (Some made) capital h = some_reserved made.reserve capital h

ahead_of : (folio : ℕ) (act : Option Act) (filed : Act) (o : Option Created) → act ≡ Some filed → is_some o ≡ true → IfSome o (λ made. IsSomeAnd act (IsAsFiled folio made)) → IsSomeAnd o (λ made. made.ahead_of ≡ right_behind filed)
ahead_of folio act filed None is some has = absurd (false≢true some)
ahead_of folio act filed (Some made) is some has =
    let own : IsAsFiled folio made filed = subst (λ a. IsSomeAnd a (IsAsFiled folio made)) is has in own.ahead_of

-- what the acts bring is among all that is brought
content_brought : (journal : List Receipt) (m : ℕ) (f : Filing) (i : ℕ) (at0 : Key → List Entry) (a : ℕ) (act : Act) (e : Entry) → filing_at journal m ≡ Some f → Contains (enumerate_from 1 f.acts) (a, act)
    → Contains (content journal m f.acts (documents journal m f i) i (standing journal m i at0) a act) e → Contains (enters journal m i at0) e
content_brought journal m f i at0 a act e filing among here =
    let places = places_brought journal m i (with_notices journal m i at0) in
    let contents = contents_brought journal m i (standing journal m i at0) f in
    subst (λ es. Contains es e) (sym (brought_is journal m f i at0 filing))
    (Contains-append_right (notices_brought journal m i at0) (places ++ contents) e
    (Contains-append_right places contents e
    (contains_part (λ numbered. content journal m f.acts (documents journal m f i) i (standing journal m i at0) numbered.0 numbered.1) (enumerate_from 1 f.acts) (a, act) e among here)))

-- the right that is entered in the reservation's rank
abbrev new_entry : List Receipt → ℕ → Filing → ℕ → (Key → List Entry) → ℕ → ℕ → RightNo → RightSpec → Entry
new_entry journal m f i at0 a folio behind_right spec =
    entry_by journal i (Right folio (new_right m a)) (what.Created (as_entered journal m f.acts i (places journal (standing journal m i at0) folio) a (Exercise folio behind_right spec) spec))

new_stands : (journal : List Receipt) (m : ℕ) (f : Filing) (i : ℕ) (at0 : Key → List Entry) (a folio : ℕ) (behind_right : RightNo) (spec : RightSpec) → filing_at journal m ≡ Some f → Contains (enumerate_from 1 f.acts) (a, Exercise folio behind_right spec)
    → is_some (created (with_entries at0 (enters journal m i at0) (Right folio (new_right m a)))) ≡ true
new_stands journal m f i at0 a folio behind_right spec filing among =
    let e = new_entry journal m f i at0 a folio behind_right spec in
    let k = Right folio (new_right m a) in
    let brought = enters journal m i at0 in
    created_where (at0 k ++ at brought k) e refl
    (Contains-append_right (at0 k) (at brought k) e
    (contains_kept (λ d. same_key d.key k) brought e (itself k)
    (content_brought journal m f i at0 a (Exercise folio behind_right spec) e filing among (0, omega arith, refl))))

-- ---- each act

-- what the act exchanges or exercises may be
abbrev ActFits : List Receipt → (Key → List Entry) → ℕ → ℕ → Act → Type 0
ActFits journal at1 m a (Exchange folio recede rise) =
    StandsUntied journal at1 folio recede × StandsUntied journal at1 folio rise × (1 ≤ a) × (a ≤ most_acts)
ActFits journal at1 m a (Exercise folio behind_right spec) = ActsOnItsKind journal at1 folio behind_right (what.Exercised (new_right m a))
ActFits journal at1 m a other = Unit {0}

content_acts : (journal : List Receipt) (m i : ℕ) (acts : List Act) (docs : List Doc) (at0 at1 : Key → List Entry) (a : ℕ) (act : Act) → ActFits journal at1 m a act → AllByRecursion (λ e. ActsAt journal at1 e.key e) (content journal m acts docs i at0 a act)
content_acts journal m i acts docs at0 at1 a (Open folio inventory owners) fits = (tt, tt)
content_acts journal m i acts docs at0 at1 a (Transfer folio owners) fits = (tt, tt)
content_acts journal m i acts docs at0 at1 a (Create folio spec reserve) fits = (tt, tt)
content_acts journal m i acts docs at0 at1 a (NoticeFor folio spec) fits = (tt, tt)
content_acts journal m i acts docs at0 at1 a (Convert folio right) fits = (tt, tt)
content_acts journal m i acts docs at0 at1 a (Assign folio right holder) fits = (tt, tt)
content_acts journal m i acts docs at0 at1 a (Cancel folio right) fits = (tt, tt)
content_acts journal m i acts docs at0 at1 a (Exchange folio recede rise) fits = (fits, (fits, tt))
content_acts journal m i acts docs at0 at1 a (Exercise folio behind_right spec) fits = (tt, (fits, tt))

-- what is known of an act of a filing that is not rejected
abbrev KnownOf : List Receipt → ℕ → (Key → List Entry) → Act → Type 0
KnownOf journal m at0 act =
    ((lacks_right at0 act ≡ false) × (exchanges_unfit_right journal at0 act ≡ false)) × ((lacks_reservation at0 act ≡ false) × NamesEarlier m act)

all_known : (journal : List Receipt) (m : ℕ) (f : Filing) (at0 : Key → List Entry) → IsFit journal m f at0 → AllByRecursion (KnownOf journal m at0) f.acts
all_known journal m f at0 fit =
    all_paired (λ act. (lacks_right at0 act ≡ false) × (exchanges_unfit_right journal at0 act ≡ false)) (λ act. (lacks_reservation at0 act ≡ false) × NamesEarlier m act) f.acts
    (all_paired (λ act. lacks_right at0 act ≡ false) (λ act. exchanges_unfit_right journal at0 act ≡ false) f.acts fit.live fit.plain)
    (all_paired (λ act. lacks_reservation at0 act ≡ false) (NamesEarlier m) f.acts fit.reserved fit.earlier)

act_fits : (journal : List Receipt) (m : ℕ) (f : Filing) (i : ℕ) (at0 : Key → List Entry) (a : ℕ) (act : Act) → filing_at journal m ≡ Some f → IsTrue (is_filing f) → CreatedAsFiled journal (with_entries at0 (enters journal m i at0)) → IsActOf f a act → KnownOf journal m at0 act → Contains (enumerate_from 1 f.acts) (a, act)
    → ActFits journal (with_entries at0 (enters journal m i at0)) m a act
act_fits journal m f i at0 a (Exchange folio recede rise) filing well filed own known among =
    let at1 = with_entries at0 (enters journal m i at0) in
    let same = read_on journal at0 (enters journal m i at0) filed in
    let live = or_parts (not (lives at0 folio recede)) (not (lives at0 folio rise)) known.0.0 in
    let fit = or_parts (is_barred_from_exchange journal at0 folio recede) (is_barred_from_exchange journal at0 folio rise) known.0.1 in
    let number = act_number f a (Exchange folio recede rise) well own in (
      untied_stays journal at0 at1 folio recede same (untied_here journal at0 folio recede live.0 fit.0),
      untied_stays journal at0 at1 folio rise same (untied_here journal at0 folio rise live.1 fit.1),
      number.0,
      number.1,
    )
act_fits journal m f i at0 a (Exercise folio behind_right spec) filing well filed own known among =
    let at1 = with_entries at0 (enters journal m i at0) in
    let same = read_on journal at0 (enters journal m i at0) filed in
    let es = at0 (Right folio behind_right) in
    let new = new_right m a in
    let left = (or_parts (is_spent es) (option_map_or (λ made. reserves_less made.reserve spec.capital) (live_right es) true) known.1.0).1 in
    let reserved = reserved_by (created es) (created (at1 (Right folio behind_right))) (same folio behind_right) (reserved_of (is_live es) (created es) spec.capital left) in
    let act = Exercise folio behind_right spec in
    let ahead : StandsAhead at1 folio behind_right new = (
      ahead_of folio (act_of_right journal new) act (created (at1 (Right folio new))) (act_of_new_right journal m f a act filing own)
          (new_stands journal m f i at0 a folio behind_right spec filing among)
          (created_has (AsItsAct journal folio new) (at1 (Right folio new)) (as_acts journal at1 folio new filed)),
      All-head (λ right. right.receipt < m) behind_right [] known.1.1,
    ) in
    (reserved, ahead)
act_fits journal m f i at0 a other filing well filed own known among = tt

-- all that a filing's entry brings acts on its kind
pub all_act : (journal : List Receipt) (m : ℕ) (f : Filing) (i : ℕ) (at0 : Key → List Entry) → Deals journal m f i at0 → IsFit journal m f at0 → CreatedAsFiled journal (with_entries at0 (enters journal m i at0))
    → AllByRecursion (λ e. ActsAt journal (with_entries at0 (enters journal m i at0)) e.key e) (enters journal m i at0)
all_act journal m f i at0 deals fit filed =
    let at1 = with_entries at0 (enters journal m i at0) in
    all_brought (λ e. ActsAt journal at1 e.key e) journal m f i at0 deals.filing (λ e leaves. leaves_acts journal at1 e.key e leaves)
    (all_contents (λ e. ActsAt journal at1 e.key e) (λ a act. KnownOf journal m at0 act) journal m i (standing journal m i at0) f
    (λ a act own known among. content_acts journal m i f.acts (documents journal m f i) (standing journal m i at0) at1 a act
    (act_fits journal m f i at0 a act deals.filing deals.well filed own known among))
    (all_numbered (KnownOf journal m at0) 1 f.acts (all_known journal m f at0 fit)))
