-- A verdict that so much is distributed is of a distribution that stands, with that money.
use Rattle.std.proofs.Common.{◌≡◌, ◌⊎◌, inl, inr, ⊎_elim, ℕ, zero, suc, ◌+◌, ◌<◌, Bool, true, false, cond, ◌==◌, List, [], ◌∷◌, ◌++◌, All, find, IsTrue, Option, Some, None, is_some, option_map, refl, sym, ap, subst, ◌∙◌, arith}
use Rattle.std.specs.List.{AllByRecursion}
use Rattle.std.specs.Option.{option_map_or, option_or}
use Rattle.std.proofs.lemmas.Bool.{eqb-true, false≢true}
use Rattle.std.proofs.lemmas.List.Elements.{All-contains}
use Rattle.std.proofs.lemmas.List.Folds.{find-append}
use Rattle.gb_base.specs.declared.keys.Key.{Key}
use Rattle.gb_base.specs.declared.keys.Key.TheVariants.{Case}
use Rattle.gb_base.specs.declared.sections.Section.{Section}
use Rattle.act_model.specs.Receiving.{IsJournal, item_at, receipt_at}
use Rattle.act_model.specs.declared.items.Item.{Item}
use Rattle.act_model.specs.declared.items.Item.TheVariants as item
use Rattle.act_model.specs.declared.receipts.Receipt.{Receipt}
use Rattle.auction_classes.specs.Sales.{sale_at}
use Rattle.auction_classes.specs.declared.lowest_bids.Lowest.{Lowest}
use Rattle.consent_rules.specs.Judging.{judged, judged_filing}
use Rattle.consent_rules.specs.declared.judgements.Judgement.{Judgement}
use Rattle.consent_rules.specs.declared.judgements.Judgement.TheVariants.{Enter, Interim, Reject}
use Rattle.folio_sections.specs.Cases.{is_distribution}
use Rattle.folio_sections.specs.Entries.{at, entry_by, with_entries}
use Rattle.folio_sections.specs.declared.entries.Entry.{Entry}
use Rattle.folio_sections.specs.declared.entries.What.TheVariants as what
use Rattle.folio_sections.proofs.Additions.{at-append}
use Rattle.interim_orders.specs.Extensions.{extended}
use Rattle.interim_orders.specs.Lapses.{lapsed}
use Rattle.interim_orders.specs.Orders.{state_of}
use Rattle.interim_orders.specs.declared.answers.Extension.{Extension}
use Rattle.interim_orders.specs.declared.answers.Extension.TheVariants as extension
use Rattle.interim_orders.specs.declared.answers.Lapse.{Lapse}
use Rattle.interim_orders.specs.declared.answers.Lapse.TheVariants as lapse
use Rattle.interim_orders.specs.declared.states.FilingState.{FilingState}
use Rattle.interim_orders.specs.declared.states.FilingState.TheVariants.{NotPending, Pending}
use Rattle.kept_registers.specs.Kept.{Kept}
use Rattle.registrar.specs.Brings.{Brought, brings, brought_by_cure, brought_by_filing, brought_by_item, brought_in_state, lowest_said, nothing_pending, verdict_on_award, verdict_on_extension, verdict_on_lapse, verdict_unless}
use Rattle.registrar.specs.HasSettled.{settled_first}
use Rattle.registrar.specs.KeptDistributions.{IsDistributed}
use Rattle.registrar.specs.RegisterState.{verdict_among}
use Rattle.registrar.specs.Settling.{Settlement, settled_by}
use Rattle.registrar.specs.declared.verdicts.Verdict.{Verdict}
use Rattle.registrar.specs.declared.verdicts.Verdict.TheVariants as verdict
use Rattle.registrar.proofs.AwardsGiven.{stands_by}
use Rattle.registrar.proofs.ContainedParts.{any_in_first}
use Rattle.registrar.proofs.DistributionsKeep.{sale_stays}
use Rattle.registrar.proofs.Registering.{left_by, settled_more}
use Rattle.registrar.proofs.StepLemmas.{brings_leaves}
use Rattle.sale_rules.specs.SaleEntries.{unless_refused}
use Rattle.sale_rules.specs.SaleGrounds.{lowest, refusal_of_award, refusal_of_call, refusal_of_distribution, refusal_of_registration, refusal_of_seizure}
use Rattle.sale_rules.specs.SaleMoney.{money}
use Rattle.sale_rules.specs.declared.awards.AwardRefusal.{AwardRefusal}
use Rattle.sale_rules.specs.declared.awards.AwardRefusal.TheVariants as refusal

-- ---- verdicts that say so

abbrev says_money : Verdict → Bool
says_money (verdict.Distributed cents) = true
says_money other = false

abbrev money_said : Verdict → ℕ
money_said (verdict.Distributed cents) = cents
money_said other = 0

filing_silent : (journal : List Receipt) (i : ℕ) (register : Key → List Entry) (judgement : Judgement) → says_money (brought_by_filing journal i register judgement).verdict ≡ false
filing_silent journal i register Enter = refl
filing_silent journal i register (Reject section) = refl
filing_silent journal i register (Interim defects) = refl

cure_silent : (journal : List Receipt) (m i : ℕ) (register : Key → List Entry) (judgement : Judgement) → says_money (brought_by_cure journal m i register judgement).verdict ≡ false
cure_silent journal m i register Enter = refl
cure_silent journal m i register (Reject section) = refl
cure_silent journal m i register (Interim defects) = refl

state_silent : (journal : List Receipt) (m i : ℕ) (register : Key → List Entry) (state : FilingState) → says_money (brought_in_state journal m i register state).verdict ≡ false
state_silent journal m i register NotPending = refl
state_silent journal m i register (Pending until) =
    elim (judged journal m i register) as (λ o. says_money (option_map_or (brought_by_cure journal m i register) o nothing_pending).verdict ≡ false) [
      | None ↦ refl
      | Some judgement ↦ cure_silent journal m i register judgement
    ]

lapse_silent : (answer : Lapse) → says_money (verdict_on_lapse answer) ≡ false
lapse_silent lapse.Rejected = refl
lapse_silent (lapse.TooEarly until) = refl
lapse_silent lapse.NotPending = refl

extension_silent : (answer : Extension) → says_money (verdict_on_extension answer) ≡ false
extension_silent (extension.Extended until) = refl
extension_silent (extension.TooLate until) = refl
extension_silent (extension.NotLater until) = refl
extension_silent extension.NotPending = refl

unless_silent : (o : Option Section) (v : Verdict) → says_money v ≡ false → says_money (verdict_unless o v) ≡ false
unless_silent None v silent = silent
unless_silent (Some section) v silent = refl

lowest_silent : (o : Option Lowest) → says_money (lowest_said o) ≡ false
lowest_silent None = refl
lowest_silent (Some least) = refl

award_silent : (bid : ℕ) (o : Option AwardRefusal) → says_money (verdict_on_award bid o) ≡ false
award_silent bid None = refl
award_silent bid (Some (refusal.Ground section)) = refl
award_silent bid (Some (refusal.BidTooLow cash)) = refl

-- ---- an item

-- receipt m has distributed so much in some folio
abbrev IsSaid : List Receipt → (Key → List Entry) → ℕ → ℕ → Type 0
IsSaid journal register m cents = (folio : ℕ) × IsDistributed journal register folio m cents

never : (journal : List Receipt) (register : Key → List Entry) (m cents : ℕ) (v : Verdict) → says_money v ≡ false → v ≡ verdict.Distributed cents → IsSaid journal register m cents
never journal register m cents v silent is = absurd (false≢true (sym silent ∙ ap says_money is))

distribution_said : (journal : List Receipt) (i : ℕ) (register : Key → List Entry) (folio cents : ℕ) → item_at journal i ≡ Some (item.Distribute folio)
    → AllByRecursion (λ e. e.receipt ≡ i) (brought_by_item journal i register (item.Distribute folio)).entries
    → (brought_by_item journal i register (item.Distribute folio)).verdict ≡ verdict.Distributed cents
    → IsSaid journal (with_entries register (brought_by_item journal i register (item.Distribute folio)).entries) i cents
distribution_said journal i register folio cents distributes =
    let s = sale_at journal register folio i in
    let e = entry_by journal i (Case folio) what.Distributed in
    elim (refusal_of_distribution s) as (λ o. AllByRecursion (λ (d : Entry). d.receipt ≡ i) (unless_refused o (e ∷ [])) → verdict_unless o (verdict.Distributed (money s)) ≡ verdict.Distributed cents
    → IsSaid journal (with_entries register (unless_refused o (e ∷ []))) i cents) [
      | Some section ↦ λ _ is. never journal _ i cents (verdict.Rejected section) refl is
      | None ↦ λ by_item is. (
        folio,
        record {
          item = distributes;
          stands = stands_by is_distribution i register (e ∷ []) e (Case folio) (inl refl) refl refl refl;
          money = sym (ap money_said is) ∙ ap money (sym (sale_stays journal i folio i (omega arith) register (e ∷ []) by_item));
        },
      )
    ]

item_said : (journal : List Receipt) (i : ℕ) (register : Key → List Entry) (w : Item) (cents : ℕ) → item_at journal i ≡ Some w → AllByRecursion (λ e. e.receipt ≡ i) (brought_by_item journal i register w).entries
    → (brought_by_item journal i register w).verdict ≡ verdict.Distributed cents → IsSaid journal (with_entries register (brought_by_item journal i register w).entries) i cents
item_said journal i register (item.Filing f) cents there by_item = never journal _ i cents _ (filing_silent journal i register (judged_filing journal i f i register))
item_said journal i register (item.Cure m docs) cents there by_item = never journal _ i cents _ (state_silent journal m i register (state_of journal m i register))
item_said journal i register (item.Lapse m) cents there by_item = never journal _ i cents _ (lapse_silent (lapsed journal i register))
item_said journal i register (item.Extend m days) cents there by_item = never journal _ i cents _ (extension_silent (extended journal m days i register))
item_said journal i register (item.Seize folio basis served) cents there by_item =
    never journal _ i cents _ (unless_silent (refusal_of_seizure (sale_at journal register folio i) basis) verdict.Seized refl)
item_said journal i register (item.Register folio registered) cents there by_item =
    never journal _ i cents _ (unless_silent (refusal_of_registration (sale_at journal register folio i) registered) verdict.Registered refl)
item_said journal i register (item.OpenBids folio costs) cents there by_item =
    let s = sale_at journal register folio i in
    never journal _ i cents _ (unless_silent (refusal_of_call s) (lowest_said (lowest s)) (lowest_silent (lowest s)))
item_said journal i register (item.Award folio buyer bid) cents there by_item = never journal _ i cents _ (award_silent bid (refusal_of_award (sale_at journal register folio i) bid))
item_said journal i register (item.Distribute folio) cents there by_item = distribution_said journal i register folio cents there by_item

brings_said : (journal : List Receipt) (i : ℕ) (register : Key → List Entry) (cents : ℕ) → AllByRecursion (λ e. e.receipt ≡ i) (brings journal i register).entries
    → (brings journal i register).verdict ≡ verdict.Distributed cents → IsSaid journal (with_entries register (brings journal i register).entries) i cents
brings_said journal i register cents =
    let brought : Option Receipt → Brought = λ o. option_map_or (λ (r : Receipt). brought_by_item journal i register r.item) o nothing_pending in
    elim (receipt_at journal i) as (λ o. receipt_at journal i ≡ o → AllByRecursion (λ (e : Entry). e.receipt ≡ i) (brought o).entries → (brought o).verdict ≡ verdict.Distributed cents
    → IsSaid journal (with_entries register (brought o).entries) i cents) [
      | Some r ↦ λ is. item_said journal i register r.item cents (λ j. option_map (λ x. x.item) (is j))
      | None ↦ λ _ _ is. never journal _ i cents verdict.NotPending refl is
    ] refl

-- ---- all items

said_stays : (journal : List Receipt) (i m cents : ℕ) (register : Key → List Entry) (es : List Entry) → ((k : Key) → All (λ e. e.receipt < i) (register k)) → AllByRecursion (λ e. e.receipt ≡ i) es
    → IsSaid journal register m cents → IsSaid journal (with_entries register es) m cents
said_stays journal i m cents register es earlier by_item said =
    let folio = said.0 in
    let was = said.1 in
    let some = was.stands in
    let less = All-contains (λ (e : Entry). e.receipt < i) (register (Case folio)) some.1 (earlier (Case folio)) (some.0, some.2, some.3) in
    let is = some.4.0 in (
      folio,
      record {
        item = was.item;
        stands = any_in_first (λ e. (e.receipt ≡ m) × IsTrue (is_distribution e.what)) (register (Case folio)) (at es (Case folio)) was.stands;
        money = was.money ∙ ap money (sym (sale_stays journal i folio m (omega (arith, less, is)) register es by_item));
      },
    )

-- a verdict that is found among some verdicts and one more is found among the first ones, or is that one
pushed_verdict : (vs : List (ℕ × Verdict)) (i m : ℕ) (v w : Verdict) → verdict_among (vs ++ (i, v) ∷ []) m ≡ Some w → (verdict_among vs m ≡ Some w) ⊎ ((i ≡ m) × (v ≡ w))
pushed_verdict vs i m v w is =
    let numbered : ℕ × Verdict → Bool = λ x. x.0 == m in
    let last : ℕ × Verdict = (i, v) in
    elim (find numbered vs) as (λ o. option_map (λ (x : ℕ × Verdict). x.1) (option_or o (find numbered (last ∷ []))) ≡ Some w → (option_map (λ (x : ℕ × Verdict). x.1) o ≡ Some w) ⊎ ((i ≡ m) × (v ≡ w))) [
      | Some x ↦ λ found. inl found
      | None ↦
          elim (i == m) as (λ b. (i == m) ≡ b → option_map (λ (x : ℕ × Verdict). x.1) (cond b (Some last) None) ≡ Some w → (None ≡ Some w) ⊎ ((i ≡ m) × (v ≡ w))) [
            | true ↦ λ same found. inr (eqb-true i m same, ap (λ o. option_map_or (λ (x : Verdict). x) o v) found)
            | false ↦ λ _ none. absurd (false≢true (ap is_some none))
          ] refl
    ] (sym (ap (option_map (λ (x : ℕ × Verdict). x.1)) (find-append numbered vs (last ∷ []))) ∙ is)

pub said_by_first : (journal : List Receipt) (n m cents : ℕ) → IsJournal journal → Kept journal (λ k. []) → verdict_among (settled_first journal n).verdicts m ≡ Some (verdict.Distributed cents)
    → IsSaid journal (at (settled_first journal n).entries) m cents
said_by_first journal zero m cents stands empty is = absurd (false≢true (ap is_some is))
said_by_first journal (suc n) m cents stands empty is =
    let before = settled_first journal n in
    let so_far = (left_by journal n stands empty).settled in
    let at0 : Key → List Entry = at before.entries in
    let brought = brings journal (n + 1) at0 in
    let end : suc n ≡ n + 1 = omega arith in
    let next : settled_first journal (suc n) ≡ settled_by before (n + 1) brought = ap (settled_first journal) end ∙ settled_more journal n in
    let both : at (before.entries ++ brought.entries) ≡ with_entries at0 brought.entries = λ j k. at-append before.entries brought.entries k j in
    let by_item = (brings_leaves journal (n + 1) at0 stands so_far.kept (λ k there. so_far.earlier k)).by_item in
    let now : IsSaid journal (with_entries at0 brought.entries) m cents =
    ⊎_elim
    (λ old. said_stays journal (n + 1) m cents at0 brought.entries so_far.earlier by_item (said_by_first journal n m cents stands empty old))
    (λ new. subst (λ k. IsSaid journal (with_entries at0 brought.entries) k cents) new.0 (brings_said journal (n + 1) at0 cents by_item new.1))
    (pushed_verdict before.verdicts (n + 1) m brought.verdict (verdict.Distributed cents) (sym (ap (λ (s : Settlement). verdict_among s.verdicts m) next) ∙ is)) in
    subst (λ (s : Settlement). IsSaid journal (at s.entries) m cents) (sym next) (subst (λ register. IsSaid journal register m cents) (sym both) now)
