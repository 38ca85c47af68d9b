-- What a cure or a lapse brings leaves a kept register.
use Rattle.std.proofs.Common.{◌≡◌, ℕ, ◌<◌, true, false, cond, nat_lt, List, [], All, Contains, IsSome, Option, Some, None, is_some, option_map, refl, sym, ap, subst, ◌∙◌}
use Rattle.std.specs.Option.{option_map_or}
use Rattle.std.proofs.lemmas.Bool.{false≢true}
use Rattle.gb_base.specs.declared.keys.Key.{Key}
use Rattle.act_model.specs.Receiving.{IsJournal, day_of, receipt_at}
use Rattle.act_model.specs.Touches.{acts_of, filing_at, filing_in, keys_of_filing}
use Rattle.act_model.specs.declared.items.Filing.{Filing}
use Rattle.act_model.specs.declared.items.Item.{Item}
use Rattle.act_model.specs.declared.items.Item.TheVariants as item
use Rattle.act_model.specs.declared.receipts.Receipt.{Receipt}
use Rattle.consent_rules.specs.Judging.{judged, judged_filing}
use Rattle.kept_registers.specs.Kept.{Kept}
use Rattle.kept_registers.specs.KeptPlaces.{NamesEarlier}
use Rattle.folio_sections.specs.declared.entries.Entry.{Entry}
use Rattle.consent_rules.specs.declared.judgements.Judgement.{Judgement}
use Rattle.consent_rules.specs.declared.judgements.Judgement.TheVariants.{Enter, Interim, Reject}
use Rattle.interim_orders.specs.Lapses.{brought_by_lapse, lapse_at, lapse_brought, lapse_by}
use Rattle.interim_orders.specs.Orders.{end_brought, state_of}
use Rattle.interim_orders.specs.declared.answers.Lapse.TheVariants as answer
use Rattle.interim_orders.specs.declared.states.FilingState.{FilingState}
use Rattle.interim_orders.specs.declared.states.FilingState.TheVariants.{NotPending, Pending}
use Rattle.registrar.proofs.Dealing.{Deals}
use Rattle.registrar.proofs.Dealing.Turn.{finds, is_it}
use Rattle.registrar.proofs.ItemRooms.{lapse_names, named, read_of_item}
use Rattle.kept_registers.proofs.WellFiled.{well_filed}
use Rattle.registrar.proofs.ItemsKeep.{fit_as_judged}
use Rattle.registrar.proofs.Keeping.{Leaves, cure_leaves, end_leaves, none_leave}
use Rattle.registrar.proofs.WaitingStates.{found_waiting, waiting_is_a_filing}
use Rattle.registrar.specs.Brings.{brought_by_cure, brought_in_state, nothing_pending}
use Rattle.conflict_queue.specs.ItemKeys.{keys_of_named}

-- there is a receipt where its item is known
pub there_is : (o : Option Receipt) (w : Item) → option_map (λ r. r.item) o ≡ Some w → IsSome o
there_is (Some r) w is = refl
there_is None w is = absurd (false≢true (ap is_some is))

-- all entries at these keys are of earlier items than i
abbrev pub AreEarlier : ℕ → (Key → List Entry) → List Key → Type 0
AreEarlier i at keys = (k : Key) → Contains keys k → All (λ e. e.receipt < i) (at k)

-- ---- the filing that an item finds waiting

pub record Found (journal : List Receipt) (m i : ℕ) (at : Key → List Entry) : Type 0 where
  pub filing : Filing
  pub deals : Deals journal m filing i at
  pub earlier : m < i
  pub names_earlier : All (NamesEarlier m) (acts_of journal m)

abbrev some_filing : (o : Option Filing) → IsSome o → Filing
some_filing (Some f) there = f
some_filing None there = absurd (false≢true there)

some_is : (o : Option Filing) (there : IsSome o) → o ≡ Some (some_filing o there)
some_is (Some f) there = refl
some_is None there = absurd (false≢true there)

-- the filing waits at each of its keys, since it waits at one
pub found : (journal : List Receipt) (m i : ℕ) (at : Key → List Entry) (until : ℕ) → IsSome (receipt_at journal i) → IsJournal journal → Kept journal at → AreEarlier i at (keys_of_named journal i m)
    → state_of journal m i at ≡ Pending until → Found journal m i at
found journal m i at until received stands kept before is =
    let finds_it = found_waiting journal m i at until is in
    let there = waiting_is_a_filing journal m i at until is in
    let f = some_filing (filing_at journal m) there in
    let filing : filing_at journal m ≡ Some f = some_is (filing_at journal m) there in
    record {
      filing = f;
      deals = record {
        received = received;
        kept = kept;
        filing = filing;
        well = well_filed journal m f stands filing;
        earlier = λ k touched. before k (named journal i m k finds_it.earlier touched);
        turn = finds finds_it.earlier (λ k touched.
            ap is_some (kept.pending_everywhere.everywhere m k finds_it.waits.key touched finds_it.waits.there ∙ finds_it.waits.waits));
      };
      earlier = finds_it.earlier;
      names_earlier = kept.pending_everywhere.names_earlier m finds_it.waits.key finds_it.waits.there (ap is_some finds_it.waits.waits);
    }

-- ---- cures

cure_as_judged : (journal : List Receipt) (m : ℕ) (f : Filing) (i : ℕ) (at : Key → List Entry) (judgement : Judgement) → Deals journal m f i at → m < i → judged_filing journal m f i at ≡ judgement → Leaves journal i at (brought_by_cure journal m i at judgement).entries
cure_as_judged journal m f i at Enter deals earlier is = cure_leaves journal m f i at deals earlier (fit_as_judged journal m f i at Enter deals is refl)
cure_as_judged journal m f i at (Reject section) deals earlier is = end_leaves journal m f i at deals
cure_as_judged journal m f i at (Interim defects) deals earlier is = none_leave journal i at deals.kept

pub cure_in_state : (journal : List Receipt) (m i : ℕ) (at : Key → List Entry) (state : FilingState) → IsSome (receipt_at journal i) → IsJournal journal → Kept journal at → AreEarlier i at (keys_of_named journal i m) → state_of journal m i at ≡ state → Leaves journal i at (brought_in_state journal m i at state).entries
cure_in_state journal m i at (Pending until) received stands kept before is =
    let it = found journal m i at until received stands kept before is in
    let judgement : judged journal m i at ≡ Some (judged_filing journal m it.filing i at) = ap (option_map (λ f. judged_filing journal m f i at)) it.deals.filing in
    subst (λ o. Leaves journal i at (option_map_or (brought_by_cure journal m i at) o nothing_pending).entries) (sym judgement)
    (cure_as_judged journal m it.filing i at (judged_filing journal m it.filing i at) it.deals it.earlier refl)
cure_in_state journal m i at NotPending received stands kept before is = none_leave journal i at kept

-- ---- lapses

lapse_in_state : (journal : List Receipt) (m i : ℕ) (at : Key → List Entry) (state : FilingState) → IsSome (receipt_at journal i) → IsJournal journal → Kept journal at → AreEarlier i at (keys_of_named journal i m) → state_of journal m i at ≡ state
    → Leaves journal i at (brought_by_lapse (end_brought journal m i) (lapse_by (day_of journal i) state))
lapse_in_state journal m i at (Pending until) received stands kept before is =
    elim (nat_lt until (day_of journal i)) as (λ b. Leaves journal i at (brought_by_lapse (end_brought journal m i) (cond b answer.Rejected (answer.TooEarly until)))) [
      | true ↦ let it = found journal m i at until received stands kept before is in end_leaves journal m it.filing i at it.deals
      | false ↦ none_leave journal i at kept
    ]
lapse_in_state journal m i at NotPending received stands kept before is = none_leave journal i at kept

pub lapse_leaves : (journal : List Receipt) (i m : ℕ) (at : Key → List Entry) → IsJournal journal → Kept journal at → AreEarlier i at (keys_of_named journal i m) → option_map (λ r. r.item) (receipt_at journal i) ≡ Some (item.Lapse m)
    → Leaves journal i at (lapse_brought journal i at)
lapse_leaves journal i m at stands kept before is =
    let received = there_is (receipt_at journal i) (item.Lapse m) is in
    elim (lapse_at journal i) as (λ o. lapse_at journal i ≡ o → Leaves journal i at (option_map_or (λ n. brought_by_lapse (end_brought journal n i) (option_map_or (λ x. lapse_by (day_of journal i) (state_of journal x i at)) o answer.NotPending)) o [])) [
      | Some n ↦ λ names.
          let same = lapse_names journal i m n is names in
          lapse_in_state journal n i at (state_of journal n i at) received stands kept (subst (λ x. AreEarlier i at (keys_of_named journal i x)) same before) refl
      | None ↦ λ none. none_leave journal i at kept
    ] refl

-- ---- a filing

pub filing_deals : (journal : List Receipt) (i : ℕ) (f : Filing) (at : Key → List Entry) → IsJournal journal → Kept journal at → AreEarlier i at (keys_of_filing journal i) → option_map (λ r. r.item) (receipt_at journal i) ≡ Some (item.Filing f) → Deals journal i f i at
filing_deals journal i f at stands kept before is =
    let filing : filing_at journal i ≡ Some f = read_of_item filing_in (receipt_at journal i) (item.Filing f) is in
    record { received = there_is (receipt_at journal i) (item.Filing f) is; kept = kept; filing = filing; well = well_filed journal i f stands filing; earlier = before; turn = is_it refl }
