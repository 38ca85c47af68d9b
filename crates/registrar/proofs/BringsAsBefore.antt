-- What an item brings stays when more receipts come.
use Rattle.std.proofs.Common.{◌≡◌, ℕ, ◌≤◌, true, false, cond, nat_lt, List, [], ◌++◌, length, map, Some, None, option_and_then, option_map, slice_get, refl, ap, ◌∙◌, arith}
use Rattle.std.specs.Option.{option_map_or}
use Rattle.std.proofs.lemmas.Bool.Decides.{nat_tests}
use Rattle.gb_base.specs.Deadlines.{deadline, deadline_after}
use Rattle.gb_base.specs.declared.keys.Key.{Key}
use Rattle.act_model.proofs.KeysStay.{receipt_stays}
use Rattle.act_model.specs.Receiving.{day_of}
use Rattle.act_model.specs.declared.items.Item.{Item}
use Rattle.act_model.specs.declared.items.Item.TheVariants as item
use Rattle.act_model.specs.declared.receipts.Receipt.{Receipt}
use Rattle.consent_rules.specs.Judging.{judged, judged_filing}
use Rattle.consent_rules.specs.declared.judgements.Judgement.{Judgement}
use Rattle.consent_rules.specs.declared.judgements.Judgement.TheVariants.{Enter, Interim, Reject}
use Rattle.folio_sections.specs.Waiting.{pending}
use Rattle.folio_sections.specs.declared.entries.Entry.{Entry}
use Rattle.folio_sections.specs.declared.entries.What.TheVariants as what
use Rattle.interim_orders.specs.Extensions.{brought_by_extension, extended, extension_brought, extension_by}
use Rattle.interim_orders.specs.Lapses.{brought_by_lapse, lapse_at, lapse_brought, lapse_by, lapse_in, lapsed}
use Rattle.interim_orders.specs.Orders.{deadline_of, end_brought, order_brought, state_by, state_of, waiting_brought, waits_until}
use Rattle.interim_orders.specs.declared.answers.Extension.{Extension}
use Rattle.interim_orders.specs.declared.answers.Extension.TheVariants as extension
use Rattle.interim_orders.specs.declared.answers.Lapse.TheVariants as answer
use Rattle.interim_orders.specs.declared.states.FilingState.{FilingState}
use Rattle.interim_orders.specs.declared.states.FilingState.TheVariants.{NotPending, Pending}
use Rattle.registrar.proofs.EntersAsBefore.{enters_as_before}
use Rattle.registrar.proofs.JudgedAsBefore.{judged_as_before}
use Rattle.registrar.proofs.LaterReceipts.{day_stays, entry_stays, filing_stays, keys_stay}
use Rattle.registrar.proofs.SalesAsBefore.{award_as_before, call_as_before, distribution_as_before, registration_as_before, seizure_as_before}
use Rattle.registrar.specs.Brings.{Brought, brings, brought_by_cure, brought_by_filing, brought_by_item, brought_in_state, nothing_pending, verdict_on_extension, verdict_on_lapse}
use Rattle.registrar.specs.NamesUpTo.{AllNameUpTo}
use Rattle.registrar.specs.declared.verdicts.Verdict.TheVariants as verdict

module _ (journal more : List Receipt) (stands : Key → List Entry) (named : AllNameUpTo (length journal) stands) where
  -- ---- orders and their ends

  deadline_stays : (m : ℕ) → m ≤ length journal → deadline_of (journal ++ more) m ≡ deadline_of journal m
  deadline_stays m filed = ap deadline (day_stays journal more m filed)

  waiting_stays : (m i until : ℕ) → m ≤ length journal → i ≤ length journal → waiting_brought (journal ++ more) m i until ≡ waiting_brought journal m i until
  waiting_stays m i until filed within =
      let keys = keys_stay journal more m filed in
      let entry = entry_stays journal more i within in
      λ j. map (λ k. entry j k (what.Pending m until)) (keys j)

  order_stays : (m : ℕ) → m ≤ length journal → order_brought (journal ++ more) m ≡ order_brought journal m
  order_stays m filed =
      waiting_stays m m (deadline_of (journal ++ more) m) filed filed
      ∙ ap (λ until. waiting_brought journal m m until) (deadline_stays m filed)

  end_stays : (m i : ℕ) → m ≤ length journal → i ≤ length journal → end_brought (journal ++ more) m i ≡ end_brought journal m i
  end_stays m i filed within =
      let keys = keys_stay journal more m filed in
      let entry = entry_stays journal more i within in
      λ j. map (λ k. entry j k (what.Settled m)) (keys j)

  waits_stays : (m : ℕ) → m ≤ length journal → waits_until (journal ++ more) m stands ≡ waits_until journal m stands
  waits_stays m filed = ap (λ keys. option_and_then (λ k. pending m (stands k)) (slice_get keys 0)) (keys_stay journal more m filed)

  state_stays : (m i : ℕ) → i ≤ length journal → state_of (journal ++ more) m i stands ≡ state_of journal m i stands
  state_stays m i within =
      elim (nat_lt m i) as (λ b. nat_lt m i ≡ b → state_by (cond b (waits_until (journal ++ more) m stands) None) ≡ state_by (cond b (waits_until journal m stands) None)) [
        | true ↦ λ earlier. ap state_by (waits_stays m (grind (arith, nat_tests, earlier, within)))
        | false ↦ λ later. refl
      ] refl

  -- ---- filings

  filing_as_before : (i : ℕ) (judgement : Judgement) → i ≤ length journal → brought_by_filing (journal ++ more) i stands judgement ≡ brought_by_filing journal i stands judgement
  filing_as_before i Enter within = ap {B = Brought} (λ es. record { entries = es; verdict = verdict.Entered }) (enters_as_before journal more i i stands within within named)
  filing_as_before i (Reject section) within = refl
  filing_as_before i (Interim defects) within =
      let order = order_stays i within in
      let until = deadline_stays i within in
      λ j. record { entries = order j; verdict = verdict.Interim (until j) defects }

  -- ---- cures

  cured_as_before : (m i : ℕ) (judgement : Judgement) → m ≤ length journal → i ≤ length journal → brought_by_cure (journal ++ more) m i stands judgement ≡ brought_by_cure journal m i stands judgement
  cured_as_before m i Enter filed within =
      let entries = enters_as_before journal more m i stands filed within named in
      let end = end_stays m i filed within in
      λ j. record { entries = entries j ++ end j; verdict = verdict.Cured }
  cured_as_before m i (Reject section) filed within = ap {B = Brought} (λ es. record { entries = es; verdict = verdict.CureRejected section }) (end_stays m i filed within)
  cured_as_before m i (Interim defects) filed within = refl

  judged_stays : (m i : ℕ) → m ≤ length journal → i ≤ length journal → judged (journal ++ more) m i stands ≡ judged journal m i stands
  judged_stays m i filed within =
      let filing = filing_stays journal more m filed in
      λ j. option_map (λ f. judged_as_before journal more stands named m f i filed within j) (filing j)

  in_state_as_before : (m i : ℕ) (state : FilingState) → m ≤ length journal → i ≤ length journal → brought_in_state (journal ++ more) m i stands state ≡ brought_in_state journal m i stands state
  in_state_as_before m i (Pending until) filed within =
      let judgement = judged_stays m i filed within in
      λ j. option_map_or (λ found. cured_as_before m i found filed within j) (judgement j) nothing_pending
  in_state_as_before m i NotPending filed within = refl

  -- a cure of a filing that is no earlier one finds none that waits
  cure_as_before : (m i : ℕ) → i ≤ length journal → brought_in_state (journal ++ more) m i stands (state_of (journal ++ more) m i stands) ≡ brought_in_state journal m i stands (state_of journal m i stands)
  cure_as_before m i within =
      elim (nat_lt m i) as (λ b. nat_lt m i ≡ b → brought_in_state (journal ++ more) m i stands (state_by (cond b (waits_until (journal ++ more) m stands) None)) ≡ brought_in_state journal m i stands (state_by (cond b (waits_until journal m stands) None))) [
        | true ↦ λ earlier.
            let filed : m ≤ length journal = grind (arith, nat_tests, earlier, within) in
            ap (λ until. brought_in_state (journal ++ more) m i stands (state_by until)) (waits_stays m filed)
            ∙ in_state_as_before m i (state_by (waits_until journal m stands)) filed within
        | false ↦ λ later. refl
      ] refl

  -- ---- lapses

  lapse_stays : (i : ℕ) → i ≤ length journal → lapse_at (journal ++ more) i ≡ lapse_at journal i
  lapse_stays i within = ap (option_and_then (λ r. lapse_in r.item)) (receipt_stays journal more i within)

  lapsed_as_before : (i : ℕ) → i ≤ length journal → lapsed (journal ++ more) i stands ≡ lapsed journal i stands
  lapsed_as_before i within =
      let day = day_stays journal more i within in
      let lapse = lapse_stays i within in
      λ j. option_map_or (λ m. lapse_by (day j) (state_stays m i within j)) (lapse j) answer.NotPending

  -- a lapse of a filing that is no earlier one ends nothing
  ended_as_before : (m i : ℕ) → i ≤ length journal → brought_by_lapse (end_brought (journal ++ more) m i) (lapse_by (day_of journal i) (state_of journal m i stands)) ≡ brought_by_lapse (end_brought journal m i) (lapse_by (day_of journal i) (state_of journal m i stands))
  ended_as_before m i within =
      elim (nat_lt m i) as (λ b. nat_lt m i ≡ b → brought_by_lapse (end_brought (journal ++ more) m i) (lapse_by (day_of journal i) (state_by (cond b (waits_until journal m stands) None)))
      ≡ brought_by_lapse (end_brought journal m i) (lapse_by (day_of journal i) (state_by (cond b (waits_until journal m stands) None)))) [
        | true ↦ λ earlier.
            ap (λ es. brought_by_lapse es (lapse_by (day_of journal i) (state_by (waits_until journal m stands)))) (end_stays m i (grind (arith, nat_tests, earlier, within)) within)
        | false ↦ λ later. refl
      ] refl

  lapse_as_before : (i : ℕ) → i ≤ length journal → lapse_brought (journal ++ more) i stands ≡ lapse_brought journal i stands
  lapse_as_before i within =
      ap (λ answered. option_map_or (λ m. brought_by_lapse (end_brought (journal ++ more) m i) answered) (lapse_at (journal ++ more) i) []) (lapsed_as_before i within)
      ∙ ap (λ o. option_map_or (λ m. brought_by_lapse (end_brought (journal ++ more) m i) (lapsed journal i stands)) o []) (lapse_stays i within)
      ∙ elim (lapse_at journal i) as (λ o. option_map_or (λ m. brought_by_lapse (end_brought (journal ++ more) m i) (option_map_or (λ m. lapse_by (day_of journal i) (state_of journal m i stands)) o answer.NotPending)) o []
      ≡ option_map_or (λ m. brought_by_lapse (end_brought journal m i) (option_map_or (λ m. lapse_by (day_of journal i) (state_of journal m i stands)) o answer.NotPending)) o []) [
        | Some m ↦ ended_as_before m i within
        | None ↦ refl
      ]

  -- ---- extensions

  extended_as_before : (m days i : ℕ) → i ≤ length journal → extended (journal ++ more) m days i stands ≡ extended journal m days i stands
  extended_as_before m days i within =
      let day = day_stays journal more i within in
      let state = state_stays m i within in
      λ j. extension_by (day j) (deadline_after days (day j)) (state j)

  waits_on_as_before : (m i : ℕ) (said : Extension) → m ≤ length journal → i ≤ length journal → brought_by_extension (journal ++ more) m i said ≡ brought_by_extension journal m i said
  waits_on_as_before m i (extension.Extended until) filed within = waiting_stays m i until filed within
  waits_on_as_before m i (extension.TooLate until) filed within = refl
  waits_on_as_before m i (extension.NotLater until) filed within = refl
  waits_on_as_before m i extension.NotPending filed within = refl

  -- an extension of a filing that is no earlier one brings nothing
  answered_as_before : (m i day later : ℕ) → i ≤ length journal → brought_by_extension (journal ++ more) m i (extension_by day later (state_of journal m i stands)) ≡ brought_by_extension journal m i (extension_by day later (state_of journal m i stands))
  answered_as_before m i day later within =
      elim (nat_lt m i) as (λ b. nat_lt m i ≡ b → brought_by_extension (journal ++ more) m i (extension_by day later (state_by (cond b (waits_until journal m stands) None)))
      ≡ brought_by_extension journal m i (extension_by day later (state_by (cond b (waits_until journal m stands) None)))) [
        | true ↦ λ earlier.
            waits_on_as_before m i (extension_by day later (state_by (waits_until journal m stands))) (grind (arith, nat_tests, earlier, within)) within
        | false ↦ λ late. refl
      ] refl

  extension_as_before : (m days i : ℕ) → i ≤ length journal → extension_brought (journal ++ more) m days i stands ≡ extension_brought journal m days i stands
  extension_as_before m days i within =
      ap (λ said. brought_by_extension (journal ++ more) m i said) (extended_as_before m days i within)
      ∙ answered_as_before m i (day_of journal i) (deadline_after days (day_of journal i)) within

  -- ---- an item

  item_as_before : (i : ℕ) (w : Item) → i ≤ length journal → brought_by_item (journal ++ more) i stands w ≡ brought_by_item journal i stands w
  item_as_before i (item.Filing f) within =
      ap (λ judgement. brought_by_filing (journal ++ more) i stands judgement) (judged_as_before journal more stands named i f i within within)
      ∙ filing_as_before i (judged_filing journal i f i stands) within
  item_as_before i (item.Cure m docs) within = cure_as_before m i within
  item_as_before i (item.Lapse m) within =
      let entries = lapse_as_before i within in
      let answered = lapsed_as_before i within in
      λ j. record { entries = entries j; verdict = verdict_on_lapse (answered j) }
  item_as_before i (item.Extend m days) within =
      let entries = extension_as_before m days i within in
      let answered = extended_as_before m days i within in
      λ j. record { entries = entries j; verdict = verdict_on_extension (answered j) }
  item_as_before i (item.Seize folio basis served) within = seizure_as_before journal more stands folio i within basis
  item_as_before i (item.Register folio registered) within = registration_as_before journal more stands folio i within registered
  item_as_before i (item.OpenBids folio costs) within = call_as_before journal more stands folio i within costs
  item_as_before i (item.Award folio buyer bid) within = award_as_before journal more stands folio i within buyer bid
  item_as_before i (item.Distribute folio) within = distribution_as_before journal more stands folio i within

pub brings_as_before : (journal more : List Receipt) (i : ℕ) (stands : Key → List Entry) → i ≤ length journal → AllNameUpTo (length journal) stands → brings (journal ++ more) i stands ≡ brings journal i stands
brings_as_before journal more i stands within named =
    let received = receipt_stays journal more i within in
    λ j. option_map_or (λ r. item_as_before journal more stands named i r.item within j) (received j) nothing_pending
