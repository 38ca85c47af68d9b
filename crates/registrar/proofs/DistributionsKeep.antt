-- A register that was settled in the order of receipts, and whose distributions are covered, stays such a one with what an item brings.
use Rattle.std.proofs.Common.{◌≡◌, ℕ, ◌<◌, ◌≤◌, true, false, cond, ◌==◌, List, [], ◌∷◌, ◌++◌, All, IsSomeAnd, IsTrue, Some, None, option_map, refl, sym, ap, subst, ◌∙◌, arith}
use Rattle.std.specs.List.{AllByRecursion}
use Rattle.std.specs.Option.{option_map_or}
use Rattle.std.proofs.lemmas.Bool.{false≢true}
use Rattle.std.proofs.lemmas.List.{append-nil}
use Rattle.std.proofs.lemmas.List.Elements.{All-append, All-from_recursion, All-nil, recursion_from_All}
use Rattle.gb_base.specs.Keys.{same_key}
use Rattle.gb_base.specs.declared.keys.Key.{Key}
use Rattle.gb_base.specs.declared.keys.Key.TheVariants.{Case}
use Rattle.act_model.specs.Receiving.{IsJournal, item_at, receipt_at}
use Rattle.act_model.specs.declared.items.Item.{Item}
use Rattle.act_model.specs.declared.items.Item.TheVariants as item
use Rattle.act_model.specs.declared.receipts.Receipt.{Receipt}
use Rattle.auction_classes.specs.Sales.{IsFound, Sale, sale_at}
use Rattle.folio_line.specs.FolioRights.{live_by_act}
use Rattle.folio_line.specs.declared.folio_rights.CreatedRight.{CreatedRight}
use Rattle.folio_sections.specs.Adding.{AddsAll}
use Rattle.folio_sections.specs.Cases.{is_distribution}
use Rattle.folio_sections.specs.Entries.{at, entry_by, with_entries}
use Rattle.folio_sections.specs.declared.entries.Entry.{Entry}
use Rattle.folio_sections.specs.declared.entries.What.TheVariants as what
use Rattle.folio_sections.proofs.Unchanged.{all_at, all_weaker}
use Rattle.kept_registers.specs.Kept.{Kept}
use Rattle.registrar.specs.Brings.{brings, brought_by_item, nothing_pending}
use Rattle.registrar.specs.KeptAwards.{AwardsKept}
use Rattle.registrar.specs.KeptDistributions.{DistributionsKept, IsDistributionKept}
use Rattle.registrar.specs.inner.CasesRise.{CasesRise, RisesAt}
use Rattle.registrar.proofs.AwardedCases.{rises_with}
use Rattle.registrar.proofs.AwardsAsBefore.{none_below_item}
use Rattle.registrar.proofs.CasesEnd.{AddsAtCase, item_adds, none_around, none_at_case, nothing, one_more}
use Rattle.registrar.proofs.ContainedParts.{all_paired, each_mapped}
use Rattle.registrar.proofs.DistributionsGiven.{distribution_given}
use Rattle.registrar.proofs.EachItemKeeps.{item_leaves}
use Rattle.registrar.proofs.SaleBrings.{unless}
use Rattle.registrar.proofs.SalesKeep.{same_case}
use Rattle.sale_rules.specs.SaleEntries.{award_brought, award_entries, distribution_brought, left_of, left_with, unless_refused}
use Rattle.sale_rules.specs.SaleGrounds.{lowest, refusal_of_award, refusal_of_call, refusal_of_distribution, refusal_of_registration, refusal_of_seizure}
use Rattle.sale_rules.specs.SaleMoney.{money}

-- What a register in the order of receipts keeps of distributions and of its cases.
pub record Distributes (journal : List Receipt) (at : Key → List Entry) : Type 0 where
  pub distributed : DistributionsKept journal at
  pub rise : CasesRise at

-- the empty register has no distribution and no case
pub none_distributed : (journal : List Receipt) → Distributes journal (λ _. [])
none_distributed journal = record {
  distributed = λ folio. All-nil (λ e. IsTrue (is_distribution e.what) → IsDistributionKept journal (λ _. []) folio e.receipt);
  rise = λ folio before after e is. absurd (none_around before after e is);
}

-- ---- what stands

-- the sale that item n finds stays the same once item i, which is no earlier than n, has added its entries
pub sale_stays : (journal : List Receipt) (i folio n : ℕ) → n ≤ i → (register : Key → List Entry) (es : List Entry) → AllByRecursion (λ e. e.receipt ≡ i) es
    → sale_at journal (with_entries register es) folio n ≡ sale_at journal register folio n
sale_stays journal i folio n within register es by_item = λ j. record { journal = journal; at = λ k. none_below_item n i within register es by_item k j; folio = folio; item = n }

distribution_stays : (journal : List Receipt) (i folio n : ℕ) → n ≤ i → (register : Key → List Entry) (es : List Entry) → AllByRecursion (λ e. e.receipt ≡ i) es
    → IsDistributionKept journal register folio n → IsDistributionKept journal (with_entries register es) folio n
distribution_stays journal i folio n within register es by_item was =
    let same = sym (sale_stays journal i folio n within register es by_item) in
    record {
      item = was.item;
      found = subst IsFound same was.found;
      covered = subst (λ (s : Sale). IsSomeAnd (lowest s) (λ l. l.cash ≤ money s)) same was.covered;
    }

-- ---- what comes

-- the entry is no distribution
abbrev IsQuiet : Entry → Type 0
IsQuiet e = is_distribution e.what ≡ false

left_quiet : (cents : ℕ) → is_distribution (left_with cents) ≡ false
left_quiet cents = elim (cents == 0) as (λ b. is_distribution (cond b what.Expired (what.Remains cents)) ≡ false) [ true ↦ refl | false ↦ refl ]

award_quiet : (s : Sale) (buyer bid : ℕ) → AllByRecursion IsQuiet (award_brought s buyer bid)
award_quiet s buyer bid =
    unless IsQuiet (refusal_of_award s bid) (option_map_or (award_entries s buyer bid) (lowest s) [])
    (elim (lowest s) as (λ o. AllByRecursion IsQuiet (option_map_or (award_entries s buyer bid) o [])) [
      | None ↦ tt
      | Some least ↦ (refl, (refl, each_mapped IsQuiet (λ (x : CreatedRight). left_of s least.cover x.id) (live_by_act s.at s.folio) (λ x. left_quiet _)))
    ])

-- each distribution among these entries at a case is covered
abbrev AreCovered : List Receipt → (Key → List Entry) → ℕ → ℕ → List Entry → Type 0
AreCovered journal register i f entries = AllByRecursion (λ (e : Entry). IsTrue (is_distribution e.what) → IsDistributionKept journal register f i) entries

quiet_at : (journal : List Receipt) (register : Key → List Entry) (i f : ℕ) (es : List Entry) → AllByRecursion IsQuiet es → AreCovered journal register i f (at es (Case f))
quiet_at journal register i f es all =
    all_weaker IsQuiet (λ (e : Entry). IsTrue (is_distribution e.what) → IsDistributionKept journal register f i) (at es (Case f)) (λ e fails is. absurd (false≢true (sym fails ∙ is))) (all_at IsQuiet es (Case f) all)

elsewhere_at : (journal : List Receipt) (register : Key → List Entry) (i f : ℕ) (es : List Entry) → at es (Case f) ≡ [] → AreCovered journal register i f (at es (Case f))
elsewhere_at journal register i f es none = subst (AreCovered journal register i f) (sym none) tt

distribution_at : (journal : List Receipt) (register : Key → List Entry) (folio i f : ℕ) → (refusal_of_distribution (sale_at journal register folio i) ≡ None → IsDistributionKept journal register folio i)
    → AreCovered journal register i f (at (distribution_brought (sale_at journal register folio i)) (Case f))
distribution_at journal register folio i f given =
    let e = entry_by journal i (Case folio) what.Distributed in
    elim (refusal_of_distribution (sale_at journal register folio i)) as (λ o. refusal_of_distribution (sale_at journal register folio i) ≡ o → AreCovered journal register i f (at (unless_refused o (e ∷ [])) (Case f))) [
      | Some section ↦ λ _. tt
      | None ↦ λ none.
          elim (same_key (Case folio) (Case f)) as (λ b. same_key (Case folio) (Case f) ≡ b → AreCovered journal register i f (cond b (e ∷ []) [])) [
            | true ↦ λ same. ((λ _. subst (λ g. IsDistributionKept journal register g i) (same_case folio f same) (given none)), tt)
            | false ↦ λ _. tt
          ] refl
    ] refl

item_covers : (journal : List Receipt) (i : ℕ) (register : Key → List Entry) (w : Item) (f : ℕ) → IsJournal journal → Kept journal register → AwardsKept journal register → CasesRise register
    → item_at journal i ≡ Some w → ((k : Key) → All (λ e. e.receipt < i) (register k)) → AreCovered journal register i f (at (brought_by_item journal i register w).entries (Case f))
item_covers journal i register (item.Seize folio basis served) f stands kept awards rise is earlier =
    quiet_at journal register i f _ (unless IsQuiet (refusal_of_seizure (sale_at journal register folio i) basis) (entry_by journal i (Case folio) what.Seized ∷ []) (refl, tt))
item_covers journal i register (item.Register folio registered) f stands kept awards rise is earlier =
    quiet_at journal register i f _ (unless IsQuiet (refusal_of_registration (sale_at journal register folio i) registered) (entry_by journal i (Case folio) what.Registered ∷ []) (refl, tt))
item_covers journal i register (item.OpenBids folio costs) f stands kept awards rise is earlier =
    quiet_at journal register i f _ (unless IsQuiet (refusal_of_call (sale_at journal register folio i)) (entry_by journal i (Case folio) (what.Bids costs) ∷ []) (refl, tt))
item_covers journal i register (item.Award folio buyer bid) f stands kept awards rise is earlier = quiet_at journal register i f _ (award_quiet (sale_at journal register folio i) buyer bid)
item_covers journal i register (item.Distribute folio) f stands kept awards rise is earlier =
    distribution_at journal register folio i f (distribution_given journal register folio i kept awards rise (earlier (Case folio)) is)
item_covers journal i register other f stands kept awards rise is earlier =
    elsewhere_at journal register i f (brought_by_item journal i register other).entries (none_at_case journal i register other f tt stands kept is)

-- ---- all distributions

rises_behind : (journal : List Receipt) (register : Key → List Entry) (es : List Entry) (i folio : ℕ) → AddsAtCase journal register es folio → AllByRecursion (λ (e : Entry). e.receipt ≡ i) (at es (Case folio))
    → AllByRecursion (λ (e : Entry). e.receipt < i) (register (Case folio)) → RisesAt (register (Case folio)) → RisesAt (with_entries register es (Case folio))
rises_behind journal register es i folio (nothing none) by_item earlier rises = subst RisesAt (sym (ap (λ ys. register (Case folio) ++ ys) none ∙ append-nil (register (Case folio)))) rises
rises_behind journal register es i folio (one_more e is open_yet given) by_item earlier rises =
    let by : e.receipt ≡ i = (subst (λ ys. AllByRecursion (λ (d : Entry). d.receipt ≡ i) ys) is by_item).0 in
    subst (λ ys. RisesAt (register (Case folio) ++ ys)) (sym is) (rises_with (register (Case folio)) e rises (subst (λ n. AllByRecursion (λ (d : Entry). d.receipt < n) (register (Case folio))) (sym by) earlier))

item_distributes : (journal : List Receipt) (i : ℕ) (register : Key → List Entry) (w : Item) → IsJournal journal → Kept journal register → AwardsKept journal register → Distributes journal register
    → item_at journal i ≡ Some w → ((k : Key) → All (λ e. e.receipt < i) (register k)) → Distributes journal (with_entries register (brought_by_item journal i register w).entries)
item_distributes journal i register w stands kept awards was is earlier =
    let es = (brought_by_item journal i register w).entries in
    let by_item = (item_leaves journal i register w stands kept is (λ k there. earlier k)).by_item in
    let before : (folio : ℕ) → AllByRecursion (λ (e : Entry). e.receipt < i) (register (Case folio)) = λ folio. recursion_from_All (λ (e : Entry). e.receipt < i) (register (Case folio)) (earlier (Case folio)) in
    let here : (folio : ℕ) → AllByRecursion (λ (e : Entry). e.receipt ≡ i) (at es (Case folio)) = λ folio. all_at (λ (e : Entry). e.receipt ≡ i) es (Case folio) by_item in
    record {
      distributed = λ folio.
          let old : Entry → Type 0 = λ (e : Entry). IsTrue (is_distribution e.what) → IsDistributionKept journal register folio e.receipt in
          let new : Entry → Type 0 = λ (e : Entry). IsTrue (is_distribution e.what) → IsDistributionKept journal (with_entries register es) folio e.receipt in
          let covered : Entry → Type 0 = λ (e : Entry). IsTrue (is_distribution e.what) → IsDistributionKept journal register folio i in
          All-append new (register (Case folio)) (at es (Case folio))
          (All-from_recursion new (register (Case folio))
          (all_weaker (λ (e : Entry). old e × (e.receipt < i)) new (register (Case folio))
          (λ e both distributes. distribution_stays journal i folio e.receipt (let less = both.1 in omega (arith, less)) register es by_item (both.0 distributes))
          (all_paired old (λ (e : Entry). e.receipt < i) (register (Case folio)) (recursion_from_All old (register (Case folio)) (was.distributed folio)) (before folio))))
          (All-from_recursion new (at es (Case folio))
          (all_weaker (λ (e : Entry). covered e × (e.receipt ≡ i)) new (at es (Case folio))
          (λ e both distributes.
          subst (λ n. IsDistributionKept journal (with_entries register es) folio n) (sym both.1) (distribution_stays journal i folio i (omega arith) register es by_item (both.0 distributes)))
          (all_paired covered (λ (e : Entry). e.receipt ≡ i) (at es (Case folio)) (item_covers journal i register w folio stands kept awards was.rise is earlier) (here folio))));
      rise = λ folio. rises_behind journal register es i folio (item_adds journal i register w folio stands kept is (λ k there. earlier k)) (here folio) (before folio) (was.rise folio);
    }

-- what receipt i brings leaves such a register; where there is no receipt i, nothing is brought
pub brings_distribute : (journal : List Receipt) (i : ℕ) (register : Key → List Entry) → IsJournal journal → Kept journal register → AwardsKept journal register → Distributes journal register
    → ((k : Key) → All (λ e. e.receipt < i) (register k)) → Distributes journal (with_entries register (brings journal i register).entries)
brings_distribute journal i register stands kept awards was earlier =
    elim (receipt_at journal i) as (λ o. receipt_at journal i ≡ o → Distributes journal (with_entries register (option_map_or (λ r. brought_by_item journal i register r.item) o nothing_pending).entries)) [
      | Some r ↦ λ is. item_distributes journal i register r.item stands kept awards was (λ j. option_map (λ x. x.item) (is j)) earlier
      | None ↦ λ is. subst (Distributes journal) (λ j k. sym (append-nil (register k)) j) was
    ] refl

pub step_distributes : (journal : List Receipt) (i : ℕ) (at0 at1 : Key → List Entry) → IsJournal journal → Kept journal at0 → AwardsKept journal at0 → Distributes journal at0
    → ((k : Key) → All (λ e. e.receipt < i) (at0 k)) → AddsAll at0 at1 (brings journal i at0).entries → Distributes journal at1
step_distributes journal i at0 at1 stands kept awards was earlier added =
    let same : at1 ≡ with_entries at0 (brings journal i at0).entries = λ j k. added k j in
    subst (Distributes journal) (sym same) (brings_distribute journal i at0 stands kept awards was earlier)
