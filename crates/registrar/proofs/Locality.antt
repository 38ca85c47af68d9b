-- What an item brings follows from what stands at its keys.
use Rattle.std.proofs.Common.{◌≡◌, ℕ, ◌<◌, true, false, cond, nat_lt, List, [], ◌∷◌, ◌++◌, Contains, Some, None, is_some, option_and_then, option_map, refl, ap, subst, ◌∙◌, arith}
use Rattle.std.specs.List.{slice_get}
use Rattle.std.specs.Option.{option_map_or}
use Rattle.gb_base.specs.declared.keys.Key.{Key}
use Rattle.act_model.proofs.KeyOrder.{in_key_order_members}
use Rattle.act_model.specs.Receiving.{IsJournal, day_of, item_at, receipt_at}
use Rattle.act_model.specs.Touches.{filing_at, filing_in, keys_in_order, keys_of_filing}
use Rattle.act_model.specs.declared.items.Item.{Item}
use Rattle.act_model.specs.declared.items.Item.TheVariants as item
use Rattle.act_model.specs.declared.receipts.Receipt.{Receipt}
use Rattle.consent_rules.specs.Judging.{judged, judged_filing, KnowsExchanges}
use Rattle.kept_registers.specs.Kept.{Kept}
use Rattle.folio_sections.specs.Waiting.{pending}
use Rattle.folio_sections.specs.declared.entries.Entry.{Entry}
use Rattle.consent_rules.specs.declared.judgements.Judgement.{Judgement}
use Rattle.consent_rules.specs.declared.judgements.Judgement.TheVariants.{Enter, Interim, Reject}
use Rattle.gb_base.specs.Deadlines.{deadline_after}
use Rattle.interim_orders.specs.Extensions.{brought_by_extension, extension_by}
use Rattle.interim_orders.specs.Lapses.{brought_by_lapse, lapse_at, lapse_by, lapsed}
use Rattle.interim_orders.specs.Orders.{end_brought, state_by, state_of, waits_until}
use Rattle.interim_orders.specs.declared.answers.Extension.{Extension}
use Rattle.interim_orders.specs.declared.answers.Lapse.TheVariants as answer
use Rattle.interim_orders.specs.declared.states.FilingState.{FilingState}
use Rattle.interim_orders.specs.declared.states.FilingState.TheVariants.{NotPending, Pending}
use Rattle.registrar.proofs.Agreeing.{AgreesAt}
use Rattle.registrar.proofs.CuresKeep.{AreEarlier}
use Rattle.registrar.proofs.EntersLocally.{enters_locally}
use Rattle.registrar.proofs.FiledItems.{IsFiled}
use Rattle.registrar.proofs.ItemRooms.{lapse_names, named, read_of_item}
use Rattle.registrar.proofs.JudgedLocally.{judged_locally}
use Rattle.registrar.proofs.KnownExchanges.{known_when_filed, known_while_waiting}
use Rattle.registrar.proofs.SalesLocally.{award_locally, call_locally, distribution_locally, registration_locally, seizure_locally}
use Rattle.registrar.proofs.WaitingStates.{found_waiting}
use Rattle.registrar.specs.Brings.{Brought, brings, brought_by_cure, brought_by_filing, brought_by_item, brought_in_state, nothing_pending, verdict_on_extension, verdict_on_lapse}
use Rattle.registrar.specs.declared.verdicts.Verdict.TheVariants as verdict
use Rattle.conflict_queue.specs.ItemKeys.{keys_by_item, keys_of_item, keys_of_named}

-- ---- the state of a filing

first_locally : (journal : List Receipt) (m : ℕ) (at0 at1 : Key → List Entry) (keys : List Key) → keys ≡ keys_in_order journal m → AgreesAt (keys_of_filing journal m) at0 at1
    → option_and_then (λ k. pending m (at1 k)) (slice_get keys 0) ≡ option_and_then (λ k. pending m (at0 k)) (slice_get keys 0)
first_locally journal m at0 at1 [] all agrees = refl
first_locally journal m at0 at1 (k ∷ ks) all agrees =
    ap (λ es. pending m es) (agrees k ((in_key_order_members (keys_of_filing journal m) k).0 (subst (λ ks. Contains ks k) all (0, omega arith, refl))))

pub state_locally : (journal : List Receipt) (m i : ℕ) (at0 at1 : Key → List Entry) → AgreesAt (keys_of_named journal i m) at0 at1 → state_of journal m i at1 ≡ state_of journal m i at0
state_locally journal m i at0 at1 =
    elim (nat_lt m i) as (λ b. AgreesAt (cond b (keys_of_filing journal m) []) at0 at1 → state_by (cond b (waits_until journal m at1) None) ≡ state_by (cond b (waits_until journal m at0) None)) [
      | true ↦ λ agrees. ap state_by (first_locally journal m at0 at1 (keys_in_order journal m) refl agrees)
      | false ↦ λ agrees. refl
    ]

-- ---- filings

filing_locally : (journal : List Receipt) (i : ℕ) (at0 at1 : Key → List Entry) (judgement : Judgement) → AgreesAt (keys_of_filing journal i) at0 at1 → brought_by_filing journal i at1 judgement ≡ brought_by_filing journal i at0 judgement
filing_locally journal i at0 at1 Enter agrees = ap {B = Brought} (λ es. record { entries = es; verdict = verdict.Entered }) (enters_locally journal i i at0 at1 agrees)
filing_locally journal i at0 at1 (Reject section) agrees = refl
filing_locally journal i at0 at1 (Interim defects) agrees = refl

-- ---- cures

cure_judged : (journal : List Receipt) (m i : ℕ) (at0 at1 : Key → List Entry) (judgement : Judgement) → AgreesAt (keys_of_filing journal m) at0 at1 → brought_by_cure journal m i at1 judgement ≡ brought_by_cure journal m i at0 judgement
cure_judged journal m i at0 at1 Enter agrees = ap {B = Brought} (λ es. record { entries = es ++ end_brought journal m i; verdict = verdict.Cured }) (enters_locally journal m i at0 at1 agrees)
cure_judged journal m i at0 at1 (Reject section) agrees = refl
cure_judged journal m i at0 at1 (Interim defects) agrees = refl

-- a cure of a filing whose exchanges are known
cure_known : (journal : List Receipt) (m i : ℕ) (at0 at1 : Key → List Entry) → KnowsExchanges journal m at0 → AgreesAt (keys_of_filing journal m) at0 at1
    → option_map_or (brought_by_cure journal m i at1) (judged journal m i at1) nothing_pending ≡ option_map_or (brought_by_cure journal m i at0) (judged journal m i at0) nothing_pending
cure_known journal m i at0 at1 known agrees =
    elim (filing_at journal m) as (λ o. filing_at journal m ≡ o → option_map_or (brought_by_cure journal m i at1) (option_map (λ f. judged_filing journal m f i at1) o) nothing_pending
    ≡ option_map_or (brought_by_cure journal m i at0) (option_map (λ f. judged_filing journal m f i at0) o) nothing_pending) [
      | Some f ↦ λ is.
          ap (λ judgement. brought_by_cure journal m i at1 judgement) (judged_locally journal m f i at0 at1 is known agrees)
          ∙ cure_judged journal m i at0 at1 (judged_filing journal m f i at0) agrees
      | None ↦ λ is. refl
    ] refl

named_agree : (journal : List Receipt) (i m : ℕ) (at0 at1 : Key → List Entry) → m < i → AgreesAt (keys_of_named journal i m) at0 at1 → AgreesAt (keys_of_filing journal m) at0 at1
named_agree journal i m at0 at1 earlier agrees k there = agrees k (named journal i m k earlier there)

cure_in_state : (journal : List Receipt) (m i : ℕ) (at0 at1 : Key → List Entry) (state : FilingState) → Kept journal at0 → state_of journal m i at0 ≡ state → AgreesAt (keys_of_named journal i m) at0 at1
    → brought_in_state journal m i at1 state ≡ brought_in_state journal m i at0 state
cure_in_state journal m i at0 at1 (Pending until) kept is agrees =
    let waiting = found_waiting journal m i at0 until is in
    let waits = waiting.waits in
    cure_known journal m i at0 at1 (known_while_waiting journal at0 m waits.key kept waits.there (ap is_some waits.waits)) (named_agree journal i m at0 at1 waiting.earlier agrees)
cure_in_state journal m i at0 at1 NotPending kept is agrees = refl

-- ---- lapses

lapse_locally : (journal : List Receipt) (i m : ℕ) (at0 at1 : Key → List Entry) → option_map (λ r. r.item) (receipt_at journal i) ≡ Some (item.Lapse m) → AgreesAt (keys_of_named journal i m) at0 at1 → lapsed journal i at1 ≡ lapsed journal i at0
lapse_locally journal i m at0 at1 is agrees =
    elim (lapse_at journal i) as (λ o. lapse_at journal i ≡ o → option_map_or (λ n. lapse_by (day_of journal i) (state_of journal n i at1)) o answer.NotPending ≡ option_map_or (λ n. lapse_by (day_of journal i) (state_of journal n i at0)) o answer.NotPending) [
      | Some n ↦ λ names.
          ap (λ state. lapse_by (day_of journal i) state)
          (state_locally journal n i at0 at1 (subst (λ x. AgreesAt (keys_of_named journal i x) at0 at1) (lapse_names journal i m n is names) agrees))
      | None ↦ λ none. refl
    ] refl

-- ---- an item

-- an item about a filing brings the same to anything that agrees with a kept register at the item's keys
pub filed_locally : (journal : List Receipt) (i : ℕ) (at0 at1 : Key → List Entry) (w : Item) → IsFiled w → Kept journal at0 → item_at journal i ≡ Some w → AreEarlier i at0 (keys_by_item journal i w)
    → AgreesAt (keys_by_item journal i w) at0 at1 → brought_by_item journal i at1 w ≡ brought_by_item journal i at0 w
filed_locally journal i at0 at1 (item.Filing f) about kept is before agrees =
    let filed : filing_at journal i ≡ Some f = read_of_item filing_in (receipt_at journal i) (item.Filing f) is in
    ap (λ judgement. brought_by_filing journal i at1 judgement) (judged_locally journal i f i at0 at1 filed (known_when_filed journal at0 i kept before) agrees)
    ∙ filing_locally journal i at0 at1 (judged_filing journal i f i at0) agrees
filed_locally journal i at0 at1 (item.Cure m docs) about kept is before agrees =
    ap (λ state. brought_in_state journal m i at1 state) (state_locally journal m i at0 at1 agrees)
    ∙ cure_in_state journal m i at0 at1 (state_of journal m i at0) kept refl agrees
filed_locally journal i at0 at1 (item.Lapse m) about kept is before agrees =
    ap {B = Brought} (λ lapse. record { entries = option_map_or (λ n. brought_by_lapse (end_brought journal n i) lapse) (lapse_at journal i) []; verdict = verdict_on_lapse lapse })
    (lapse_locally journal i m at0 at1 is agrees)
filed_locally journal i at0 at1 (item.Extend m days) about kept is before agrees =
    let said : FilingState → Extension = extension_by (day_of journal i) (deadline_after days (day_of journal i)) in
    ap {B = Brought} (λ state. record { entries = brought_by_extension journal m i (said state); verdict = verdict_on_extension (said state) })
    (state_locally journal m i at0 at1 agrees)
filed_locally journal i at0 at1 other about kept is before agrees = absurd about

-- any item brings the same to another kept register
item_locally : (journal : List Receipt) (i : ℕ) (at0 at1 : Key → List Entry) (w : Item) → IsJournal journal → Kept journal at0 → Kept journal at1 → item_at journal i ≡ Some w → AreEarlier i at0 (keys_by_item journal i w)
    → AgreesAt (keys_by_item journal i w) at0 at1 → brought_by_item journal i at1 w ≡ brought_by_item journal i at0 w
item_locally journal i at0 at1 (item.Seize folio basis served) stands kept0 kept1 is before agrees = seizure_locally journal at0 at1 folio i kept0 kept1 stands agrees basis
item_locally journal i at0 at1 (item.Register folio registered) stands kept0 kept1 is before agrees = registration_locally journal at0 at1 folio i registered agrees
item_locally journal i at0 at1 (item.OpenBids folio costs) stands kept0 kept1 is before agrees = call_locally journal at0 at1 folio i kept0 kept1 stands agrees costs
item_locally journal i at0 at1 (item.Award folio buyer bid) stands kept0 kept1 is before agrees = award_locally journal at0 at1 folio i kept0 kept1 stands agrees buyer bid
item_locally journal i at0 at1 (item.Distribute folio) stands kept0 kept1 is before agrees = distribution_locally journal at0 at1 folio i kept0 kept1 stands agrees
item_locally journal i at0 at1 other stands kept0 kept1 is before agrees = filed_locally journal i at0 at1 other tt kept0 is before agrees

pub locality : (journal : List Receipt) (i : ℕ) (at0 at1 : Key → List Entry) → IsJournal journal → Kept journal at0 → Kept journal at1 → AreEarlier i at0 (keys_of_item journal i)
    → AgreesAt (keys_of_item journal i) at0 at1 → brings journal i at1 ≡ brings journal i at0
locality journal i at0 at1 stands kept0 kept1 =
    elim (receipt_at journal i) as (λ o. receipt_at journal i ≡ o → AreEarlier i at0 (option_map_or (λ r. keys_by_item journal i r.item) o []) → AgreesAt (option_map_or (λ r. keys_by_item journal i r.item) o []) at0 at1
    → option_map_or (λ r. brought_by_item journal i at1 r.item) o nothing_pending ≡ option_map_or (λ r. brought_by_item journal i at0 r.item) o nothing_pending) [
      | Some r ↦ λ is before agrees. item_locally journal i at0 at1 r.item stands kept0 kept1 (ap (option_map (λ x. x.item)) is) before agrees
      | None ↦ λ is before agrees. refl
    ] refl
