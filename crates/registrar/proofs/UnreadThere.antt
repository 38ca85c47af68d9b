-- What an item brings at a right that is not live says nothing of the right, where the title of its folio is no key of the item.
use Rattle.std.proofs.Common.{◌≡◌, inl, inr, ℕ, ◌+◌, nat_lt, Bool, true, false, cond, not, ◌||◌, List, [], ◌∷◌, map, IsSome, Option, Some, None, option_map, refl, sym, ap, subst, ◌∙◌, ⊎_elim, arith}
use Rattle.std.specs.List.{AllByRecursion}
use Rattle.std.specs.Option.{option_map_or}
use Rattle.std.proofs.lemmas.Bool.{false≢true}
use Rattle.std.proofs.lemmas.Bool.Decides.{nat_tests}
use Rattle.gb_base.specs.RightNo.{RightNo}
use Rattle.gb_base.specs.declared.keys.Key.{Key}
use Rattle.gb_base.specs.declared.keys.Key.TheVariants.{Case, Right, Title}
use Rattle.gb_base.proofs.Members.{In, in_append_left, in_append_right, of_append, of_map}
use Rattle.act_model.specs.Receiving.{IsJournal, item_at, receipt_at}
use Rattle.act_model.specs.SaleKeys.{earlier_rights}
use Rattle.act_model.specs.Subjects.{subject_of}
use Rattle.act_model.specs.Touches.{filing_at, keys_in_order, keys_of_act, keys_of_acts, keys_of_filing, new_right, was_in_division_three}
use Rattle.act_model.specs.declared.filing_acts.Act.{Act}
use Rattle.act_model.specs.declared.filing_acts.Act.TheVariants.{Open, Transfer, Create, NoticeFor, Convert, Assign, Cancel, Exchange, Exercise}
use Rattle.act_model.specs.declared.items.Filing.{Filing}
use Rattle.act_model.specs.declared.items.Item.{Item}
use Rattle.act_model.specs.declared.items.Item.TheVariants as item
use Rattle.act_model.specs.declared.items.Subject.{Subject}
use Rattle.act_model.specs.declared.items.Subject.TheVariants as about
use Rattle.act_model.specs.declared.receipts.Receipt.{Receipt}
use Rattle.auction_classes.proofs.UnreadEntries.{AllUnread, IsUnread}
use Rattle.conflict_queue.specs.ItemKeys.{keys_by_item, keys_by_subject, keys_of_named}
use Rattle.consent_rules.specs.Judging.{judged, judged_filing, lacks_right}
use Rattle.consent_rules.specs.declared.judgements.Judgement.{Judgement}
use Rattle.consent_rules.specs.declared.judgements.Judgement.TheVariants.{Enter, Interim, Reject}
use Rattle.folio_sections.specs.Entries.{at as at_key, entry_by}
use Rattle.folio_sections.specs.Rights.{is_live}
use Rattle.folio_sections.specs.declared.entries.Entry.{Entry}
use Rattle.folio_sections.specs.declared.entries.What.TheVariants as what
use Rattle.folio_sections.proofs.Unchanged.{all_at}
use Rattle.interim_orders.specs.Extensions.{brought_by_extension, extended, extension_brought}
use Rattle.interim_orders.specs.Lapses.{brought_by_lapse, lapse_at, lapse_brought, lapsed}
use Rattle.interim_orders.specs.Orders.{end_brought, state_of, waiting_brought}
use Rattle.interim_orders.specs.declared.answers.Extension.{Extension}
use Rattle.interim_orders.specs.declared.answers.Extension.TheVariants as extension
use Rattle.interim_orders.specs.declared.answers.Lapse.{Lapse}
use Rattle.interim_orders.specs.declared.answers.Lapse.TheVariants as answer
use Rattle.interim_orders.specs.declared.states.FilingState.{FilingState}
use Rattle.interim_orders.specs.declared.states.FilingState.TheVariants.{NotPending, Pending}
use Rattle.kept_registers.specs.Kept.{Kept}
use Rattle.registrar.proofs.ContainedParts.{each_mapped}
use Rattle.registrar.proofs.CuresKeep.{AreEarlier, filing_deals, found, there_is}
use Rattle.registrar.proofs.Dealing.{Deals, IsFit}
use Rattle.registrar.proofs.FiledItems.{IsSold}
use Rattle.registrar.proofs.ItemsKeep.{fit_as_judged}
use Rattle.registrar.specs.Brings.{brought_by_cure, brought_by_filing, brought_by_item, brought_in_state, nothing_pending}

-- The right is among these keys, the title of its folio is not, and nothing says that it is live.
pub record IsDeadAmong (keys : List Key) (at : Key → List Entry) (folio : ℕ) (right : RightNo) : Type 0 where
  pub there : In (Right folio right) keys
  pub untitled : In (Title folio) keys → ⊥
  pub dead : is_live (at (Right folio right)) ≡ false

-- ---- keys

abbrev folio_in : Key → ℕ
folio_in (Title folio) = folio
folio_in (Right folio right) = folio
folio_in (Case folio) = folio

abbrev is_right_key : Key → Bool
is_right_key (Title folio) = false
is_right_key (Right folio right) = true
is_right_key (Case folio) = false

no_right : (k : Key) (folio : ℕ) (right : RightNo) → is_right_key k ≡ false → k ≡ Right folio right → ⊥
no_right k folio right none same = false≢true (sym none ∙ ap is_right_key same)

-- a right whose key is among those of a folio has the folio's title among the keys, too
beside_title : (folio f : ℕ) (right : RightNo) (rights : List RightNo) → In (Right f right) (Title folio ∷ map (Right folio) rights) → (In (Title f) (Title folio ∷ map (Right folio) rights) → ⊥) → ⊥
beside_title folio f right rights there untitled =
    ⊎_elim (λ same. no_right (Title folio) f right refl same)
    (λ among. let from = of_map (Right folio) rights (Right f right) among in untitled (inl (ap (λ k. Title (folio_in k)) from.2))) there

beside_case : (folio f : ℕ) (right : RightNo) (rights : List RightNo) → In (Right f right) (Case folio ∷ Title folio ∷ map (Right folio) rights)
    → (In (Title f) (Case folio ∷ Title folio ∷ map (Right folio) rights) → ⊥) → ⊥
beside_case folio f right rights there untitled =
    ⊎_elim (λ same. no_right (Case folio) f right refl same) (λ later. beside_title folio f right rights later (λ title. untitled (inr title))) there

-- no such right is among the keys of an item of a sale
none_dead_sold : (journal : List Receipt) (i : ℕ) (at : Key → List Entry) (s : Subject) (f : ℕ) (right : RightNo) → IsSold s → IsDeadAmong (keys_by_subject journal i s) at f right → ⊥
none_dead_sold journal i at (about.Sale folio) f right sold named = beside_case folio f right (earlier_rights journal i folio) named.there named.untitled
none_dead_sold journal i at (about.Claims folio) f right sold named = ⊎_elim (λ same. no_right (Case folio) f right refl same) (λ none. none) named.there
none_dead_sold journal i at other f right sold named = absurd sold

-- ---- a filing that is not rejected names live rights alone

not_false : (b : Bool) → not b ≡ false → b ≡ true
not_false true is = refl
not_false false is = absurd (false≢true (sym is))

or_fails : (a b : Bool) → (a || b) ≡ false → (a ≡ false) × (b ≡ false)
or_fails true b fails = absurd (false≢true (sym fails))
or_fails false b fails = (refl, fails)

named_live : (at : Key → List Entry) (folio f : ℕ) (named right : RightNo) → not (is_live (at (Right folio named))) ≡ false → Right folio named ≡ Right f right → is_live (at (Right f right)) ≡ true
named_live at folio f named right fits same = subst (λ k. is_live (at k) ≡ true) same (not_false (is_live (at (Right folio named))) fits)

act_names : (journal : List Receipt) (m a : ℕ) (at : Key → List Entry) (act : Act) (f : ℕ) (right : RightNo) → lacks_right at act ≡ false → In (Right f right) (keys_of_act journal m a act)
    → (In (Title f) (keys_of_act journal m a act) → ⊥) → is_live (at (Right f right)) ≡ true
act_names journal m a at (Open folio inventory owners) f right fits there untitled = absurd (beside_title folio f right [] there untitled)
act_names journal m a at (Transfer folio owners) f right fits there untitled = absurd (beside_title folio f right [] there untitled)
act_names journal m a at (Create folio spec reserve) f right fits there untitled = absurd (beside_title folio f right (new_right m a ∷ []) there untitled)
act_names journal m a at (NoticeFor folio spec) f right fits there untitled = absurd (beside_title folio f right (new_right m a ∷ []) there untitled)
act_names journal m a at (Convert folio named) f right fits there untitled = absurd (beside_title folio f right (named ∷ []) there untitled)
act_names journal m a at (Cancel folio named) f right fits there untitled = absurd (beside_title folio f right (named ∷ []) there untitled)
act_names journal m a at (Exercise folio behind spec) f right fits there untitled = absurd (beside_title folio f right (behind ∷ new_right m a ∷ []) there untitled)
act_names journal m a at (Assign folio named holder) f right fits there untitled = ⊎_elim (λ same. named_live at folio f named right fits same) (λ none. absurd none) there
act_names journal m a at (Exchange folio recede rise) f right fits there untitled =
    let both = or_fails (not (is_live (at (Right folio recede)))) (not (is_live (at (Right folio rise)))) fits in
    ⊎_elim (λ same. named_live at folio f recede right both.0 same)
    (λ later. ⊎_elim (λ same. named_live at folio f rise right both.1 same) (λ title. absurd (no_more (was_in_division_three journal m folio recede) title)) later) there
  where
    no_more : (b : Bool) → In (Right f right) (cond b (Title folio ∷ []) []) → ⊥
    no_more true more = ⊎_elim (λ same. no_right (Title folio) f right refl same) (λ none. none) more
    no_more false more = more

acts_name : (journal : List Receipt) (m a : ℕ) (at : Key → List Entry) (acts : List Act) (f : ℕ) (right : RightNo) → AllByRecursion (λ act. lacks_right at act ≡ false) acts
    → In (Right f right) (keys_of_acts journal m a acts) → (In (Title f) (keys_of_acts journal m a acts) → ⊥) → is_live (at (Right f right)) ≡ true
acts_name journal m a at [] f right fits there untitled = absurd there
acts_name journal m a at (act ∷ acts) f right fits there untitled =
    let own = keys_of_act journal m a act in
    let rest = keys_of_acts journal m (a + 1) acts in
    ⊎_elim (λ here. act_names journal m a at act f right fits.0 here (λ title. untitled (in_append_left own rest (Title f) title)))
    (λ later. acts_name journal m (a + 1) at acts f right fits.1 later (λ title. untitled (in_append_right own rest (Title f) title))) (of_append own rest (Right f right) there)

-- so a right that is not live is named by no filing that is fit
never_fit : (journal : List Receipt) (m : ℕ) (filing : Filing) (at : Key → List Entry) (f : ℕ) (right : RightNo) → filing_at journal m ≡ Some filing → IsDeadAmong (keys_of_filing journal m) at f right
    → IsFit journal m filing at → ⊥
never_fit journal m filing at f right is named fit =
    let keys : Option Filing → List Key = λ o. option_map_or (λ g. keys_of_acts journal m 1 g.acts) o [] in
    false≢true (sym named.dead ∙ acts_name journal m 1 at filing.acts f right fit.live
    (subst (λ o. In (Right f right) (keys o)) is named.there) (λ title. named.untitled (subst (λ o. In (Title f) (keys o)) (sym is) title)))

-- ---- each kind of item about a filing

ends_unread : (journal : List Receipt) (m i : ℕ) → AllUnread (end_brought journal m i)
ends_unread journal m i = each_mapped (λ (e : Entry). IsUnread e.what) (λ k. entry_by journal i k (what.Settled m)) (keys_in_order journal m) (λ k. tt)

filing_unread : (journal : List Receipt) (i : ℕ) (filing : Filing) (at : Key → List Entry) (judgement : Judgement) → Deals journal i filing i at → (IsFit journal i filing at → ⊥)
    → judged_filing journal i filing i at ≡ judgement → AllUnread (brought_by_filing journal i at judgement).entries
filing_unread journal i filing at Enter deals never is = absurd (never (fit_as_judged journal i filing i at Enter deals is refl))
filing_unread journal i filing at (Reject section) deals never is = tt
filing_unread journal i filing at (Interim defects) deals never is = absurd (never (fit_as_judged journal i filing i at (Interim defects) deals is refl))

cure_unread : (journal : List Receipt) (m : ℕ) (filing : Filing) (i : ℕ) (at : Key → List Entry) (judgement : Judgement) → Deals journal m filing i at → (IsFit journal m filing at → ⊥)
    → judged_filing journal m filing i at ≡ judgement → AllUnread (brought_by_cure journal m i at judgement).entries
cure_unread journal m filing i at Enter deals never is = absurd (never (fit_as_judged journal m filing i at Enter deals is refl))
cure_unread journal m filing i at (Reject section) deals never is = ends_unread journal m i
cure_unread journal m filing i at (Interim defects) deals never is = tt

cure_unread_in_state : (journal : List Receipt) (m i : ℕ) (at : Key → List Entry) (state : FilingState) (f : ℕ) (right : RightNo) → IsSome (receipt_at journal i) → IsJournal journal → Kept journal at
    → AreEarlier i at (keys_of_named journal i m) → IsDeadAmong (keys_of_named journal i m) at f right → state_of journal m i at ≡ state → AllUnread (brought_in_state journal m i at state).entries
cure_unread_in_state journal m i at (Pending until) f right received stands kept before named is =
    let it = found journal m i at until received stands kept before is in
    let earlier = it.earlier in
    let less : nat_lt m i ≡ true = grind (arith, nat_tests, earlier) in
    let among : IsDeadAmong (keys_of_filing journal m) at f right = subst (λ b. IsDeadAmong (cond b (keys_of_filing journal m) []) at f right) less named in
    let judgement : judged journal m i at ≡ Some (judged_filing journal m it.filing i at) = ap (option_map (λ g. judged_filing journal m g i at)) it.deals.filing in
    subst (λ o. AllUnread (option_map_or (brought_by_cure journal m i at) o nothing_pending).entries) (sym judgement)
    (cure_unread journal m it.filing i at (judged_filing journal m it.filing i at) it.deals (never_fit journal m it.filing at f right it.deals.filing among) refl)
cure_unread_in_state journal m i at NotPending f right received stands kept before named is = tt

lapse_unread : (journal : List Receipt) (i : ℕ) (at : Key → List Entry) → AllUnread (lapse_brought journal i at)
lapse_unread journal i at =
    elim (lapse_at journal i) as (λ o. AllUnread (option_map_or (λ m. brought_by_lapse (end_brought journal m i) (lapsed journal i at)) o [])) [
      | None ↦ tt
      | Some m ↦ by (end_brought journal m i) (lapsed journal i at) (ends_unread journal m i)
    ]
  where
    by : (es : List Entry) (a : Lapse) → AllUnread es → AllUnread (brought_by_lapse es a)
    by es answer.Rejected all = all
    by es (answer.TooEarly until) all = tt
    by es answer.NotPending all = tt

waiting_unread : (journal : List Receipt) (m i until : ℕ) → AllUnread (waiting_brought journal m i until)
waiting_unread journal m i until = each_mapped (λ (e : Entry). IsUnread e.what) (λ k. entry_by journal i k (what.Pending m until)) (keys_in_order journal m) (λ k. tt)

extension_unread : (journal : List Receipt) (m i : ℕ) (said : Extension) → AllUnread (brought_by_extension journal m i said)
extension_unread journal m i (extension.Extended until) = waiting_unread journal m i until
extension_unread journal m i (extension.TooLate until) = tt
extension_unread journal m i (extension.NotLater until) = tt
extension_unread journal m i extension.NotPending = tt

-- ---- each item

pub item_unread : (journal : List Receipt) (i : ℕ) (at : Key → List Entry) (w : Item) (f : ℕ) (right : RightNo) → IsJournal journal → Kept journal at → item_at journal i ≡ Some w
    → AreEarlier i at (keys_by_item journal i w) → IsDeadAmong (keys_by_item journal i w) at f right → AllUnread (at_key (brought_by_item journal i at w).entries (Right f right))
item_unread journal i at (item.Filing filing) f right stands kept is before named =
    let deals = filing_deals journal i filing at stands kept before is in
    all_at (λ (e : Entry). IsUnread e.what) (brought_by_filing journal i at (judged_filing journal i filing i at)).entries (Right f right)
    (filing_unread journal i filing at (judged_filing journal i filing i at) deals (never_fit journal i filing at f right deals.filing named) refl)
item_unread journal i at (item.Cure m docs) f right stands kept is before named =
    all_at (λ (e : Entry). IsUnread e.what) (brought_in_state journal m i at (state_of journal m i at)).entries (Right f right)
    (cure_unread_in_state journal m i at (state_of journal m i at) f right (there_is (receipt_at journal i) (item.Cure m docs) is) stands kept before named refl)
item_unread journal i at (item.Lapse m) f right stands kept is before named =
    all_at (λ (e : Entry). IsUnread e.what) (lapse_brought journal i at) (Right f right) (lapse_unread journal i at)
item_unread journal i at (item.Extend m days) f right stands kept is before named =
    all_at (λ (e : Entry). IsUnread e.what) (extension_brought journal m days i at) (Right f right) (extension_unread journal m i (extended journal m days i at))
item_unread journal i at other f right stands kept is before named = absurd (none_dead_sold journal i at (subject_of other) f right tt named)
