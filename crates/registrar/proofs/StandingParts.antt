-- What an item needs and brings on parts that stand for a kept register.
use Rattle.std.proofs.Common.{◌≡◌, ℕ, ◌+◌, ◌<◌, ◌++◌, Bool, List, [], ◌∷◌, All, Contains, IfSome, IsTrue, Some, None, refl, sym, ap, subst, ◌∙◌, arith}
use Rattle.std.specs.List.{AllByRecursion}
use Rattle.std.specs.Option.{option_map_or}
use Rattle.std.proofs.lemmas.List.Elements.{All-from_recursion, recursion_from_All}
use Rattle.gb_base.specs.declared.keys.Key.{Key}
use Rattle.gb_base.specs.declared.keys.Key.TheVariants.{Right}
use Rattle.act_model.specs.Receiving.{IsJournal, item_at}
use Rattle.act_model.specs.Subjects.{subject_of}
use Rattle.act_model.specs.Touches.{created_before, filing_at, keys_of_act, keys_of_acts, keys_of_filing}
use Rattle.act_model.specs.declared.filing_acts.Act.{Act}
use Rattle.act_model.specs.declared.filing_acts.Act.TheVariants.{Exchange}
use Rattle.act_model.specs.declared.items.Item.{Item}
use Rattle.act_model.specs.declared.items.Subject.{Subject}
use Rattle.act_model.specs.declared.items.Subject.TheVariants as about
use Rattle.act_model.specs.declared.receipts.Receipt.{Receipt}
use Rattle.folio_sections.specs.Adding.{AddsAll}
use Rattle.folio_sections.specs.Entries.{at, with_entries}
use Rattle.consent_rules.specs.Judging.{IsKnownExchange, KnowsExchanges}
use Rattle.kept_registers.specs.Kept.{Kept}
use Rattle.folio_sections.specs.Rights.{live_right}
use Rattle.folio_sections.specs.declared.entries.Entry.{Entry}
use Rattle.registrar.proofs.Agreeing.{AgreesAt, agrees_before, agrees_behind}
use Rattle.registrar.proofs.AwardsKeep.{brings_keep}
use Rattle.registrar.proofs.CuresKeep.{AreEarlier}
use Rattle.registrar.proofs.ItemRooms.{named}
use Rattle.registrar.proofs.FiledItems.{IsFiled}
use Rattle.registrar.proofs.Locality.{filed_locally, state_locally}
use Rattle.registrar.proofs.StepLemmas.{brings_leaves, exchanges_known}
use Rattle.registrar.proofs.WaitingStates.{found_waiting}
use Rattle.registrar.specs.Brings.{brings, brought_by_item}
use Rattle.conflict_queue.specs.ItemKeys.{keys_by_item, keys_by_subject, keys_of_item}
use Rattle.kept_registers.specs.Standing.{StandsFor, StandsForKept}
use Rattle.registrar.specs.StandingAwards.{StandsForKeptAwards}
use Rattle.registrar.specs.inner.Exchanges.{KnowsExchangesOf, KnowsItsExchanges}

-- ---- a judge knows the same of two registers that agree at a filing's keys

act_agrees : (journal : List Receipt) (m a : ℕ) (act : Act) (at0 at1 : Key → List Entry) → AgreesAt (keys_of_act journal m a act) at0 at1 → IsKnownExchange journal m at0 act → IsKnownExchange journal m at1 act
act_agrees journal m a (Exchange folio recede rise) at0 at1 agrees known =
    subst (λ es. IfSome (live_right es) (λ made. created_before journal m folio recede ≡ Some made.spec)) (sym (agrees (Right folio recede) (0, omega arith, refl))) known
act_agrees journal m a other at0 at1 agrees known = tt

acts_agree : (journal : List Receipt) (m a : ℕ) (acts : List Act) (at0 at1 : Key → List Entry) → AgreesAt (keys_of_acts journal m a acts) at0 at1 → AllByRecursion (IsKnownExchange journal m at0) acts → AllByRecursion (IsKnownExchange journal m at1) acts
acts_agree journal m a [] at0 at1 agrees known = tt
acts_agree journal m a (act ∷ acts) at0 at1 agrees known = (
  act_agrees journal m a act at0 at1 (agrees_before (keys_of_act journal m a act) (keys_of_acts journal m (a + 1) acts) at0 at1 agrees) known.0,
  acts_agree journal m (a + 1) acts at0 at1 (agrees_behind (keys_of_act journal m a act) (keys_of_acts journal m (a + 1) acts) at0 at1 agrees) known.1,
)

exchanges_agree : (journal : List Receipt) (m : ℕ) (at0 at1 : Key → List Entry) → AgreesAt (keys_of_filing journal m) at0 at1 → KnowsExchanges journal m at0 → KnowsExchanges journal m at1
exchanges_agree journal m at0 at1 =
    elim (filing_at journal m) as (λ o. AgreesAt (option_map_or (λ f. keys_of_acts journal m 1 f.acts) o []) at0 at1 → All (IsKnownExchange journal m at0) (option_map_or (λ f. f.acts) o []) → All (IsKnownExchange journal m at1) (option_map_or (λ f. f.acts) o [])) [
      | Some f ↦ λ agrees known. All-from_recursion _ f.acts (acts_agree journal m 1 f.acts at0 at1 agrees (recursion_from_All _ f.acts known))
      | None ↦ λ agrees known. λ n d within. absurd (omega arith)
    ]

subject_agrees : (journal : List Receipt) (i : ℕ) (at0 at1 : Key → List Entry) (s : Subject) → AgreesAt (keys_by_subject journal i s) at0 at1 → KnowsExchangesOf journal i at0 s → KnowsExchangesOf journal i at1 s
subject_agrees journal i at0 at1 about.Itself agrees known = exchanges_agree journal i at0 at1 agrees known
subject_agrees journal i at0 at1 (about.Filing m) agrees known = λ until is.
    let earlier = (found_waiting journal m i at1 until is).earlier in
    exchanges_agree journal m at0 at1 (λ k there. agrees k (named journal i m k earlier there))
    (known until (sym (state_locally journal m i at0 at1 agrees) ∙ is))
subject_agrees journal i at0 at1 other agrees known = tt

-- ---- parts that stand for a register

-- parts that stand for a register agree with it at the keys of the item, which are held
pub stand_agree : (holds : Key → Bool) (stands register : Key → List Entry) (keys : List Key) → StandsFor holds stands register → ((k : Key) → Contains keys k → IsTrue (holds k)) → AgreesAt keys register stands
stand_agree holds stands register keys same held k there = same k (held k there)

pub stand_earlier : (i : ℕ) (stands register : Key → List Entry) (keys : List Key) → AgreesAt keys register stands → AreEarlier i stands keys → AreEarlier i register keys
stand_earlier i stands register keys agrees before k there = subst (All (λ e. e.receipt < i)) (agrees k there) (before k there)

pub parts_know : (journal : List Receipt) (i : ℕ) (holds : Key → Bool) (stands register : Key → List Entry) (w : Item) → StandsFor holds stands register → Kept journal register
    → ((k : Key) → Contains (keys_by_item journal i w) k → IsTrue (holds k)) → AreEarlier i stands (keys_by_item journal i w) → KnowsItsExchanges journal i stands w
parts_know journal i holds stands register w same kept held before =
    let agrees = stand_agree holds stands register (keys_by_item journal i w) same held in
    subject_agrees journal i register stands (subject_of w) agrees (exchanges_known journal i register (subject_of w) kept (stand_earlier i stands register (keys_by_item journal i w) agrees before))

-- an item that is about a filing brings on the parts what it brings on the register
pub parts_bring : (journal : List Receipt) (i : ℕ) (holds : Key → Bool) (stands register : Key → List Entry) (w : Item) → IsFiled w → item_at journal i ≡ Some w → StandsFor holds stands register → Kept journal register
    → ((k : Key) → Contains (keys_by_item journal i w) k → IsTrue (holds k)) → AreEarlier i stands (keys_by_item journal i w) → brought_by_item journal i stands w ≡ brought_by_item journal i register w
parts_bring journal i holds stands register w filed is same kept held before =
    let agrees = stand_agree holds stands register (keys_by_item journal i w) same held in
    filed_locally journal i register stands w filed kept is (stand_earlier i stands register (keys_by_item journal i w) agrees before) agrees

-- ---- the parts after an item

-- parts to which the entries are added stand for the register to which they are added
pub stand_behind : (holds0 holds1 : Key → Bool) (at0 at1 register : Key → List Entry) (es : List Entry) → StandsFor holds0 at0 register → holds1 ≡ holds0 → AddsAll at0 at1 es → StandsFor holds1 at1 (with_entries register es)
stand_behind holds0 holds1 at0 at1 register es stands still added k held_now =
    let held_before : IsTrue (holds0 k) = subst (λ holds. IsTrue (holds k)) still held_now in
    added k ∙ ap (λ xs. xs ++ at es k) (stands k held_before)

-- what stands for a kept register that keeps its awards stands for a kept register
pub for_kept : (journal : List Receipt) (holds : Key → Bool) (at : Key → List Entry) → StandsForKeptAwards journal holds at → StandsForKept journal holds at
for_kept journal holds at whole = record { register = whole.register; stands = whole.stands; kept = whole.kept }

-- with what the item brings, the parts stand again for a kept register that keeps its awards
pub still_stand : (journal : List Receipt) (i : ℕ) (holds0 holds1 : Key → Bool) (at0 at1 : Key → List Entry) (before : StandsForKeptAwards journal holds0 at0) → IsJournal journal → ((k : Key) → Contains (keys_of_item journal i) k → IsTrue (holds0 k))
    → AreEarlier i at0 (keys_of_item journal i) → holds1 ≡ holds0 → AddsAll at0 at1 (brings journal i before.register).entries → StandsForKeptAwards journal holds1 at1
still_stand journal i holds0 holds1 at0 at1 before journaled held earlier still added =
    let agrees = stand_agree holds0 at0 before.register (keys_of_item journal i) before.stands held in
    let earlier_there = stand_earlier i at0 before.register (keys_of_item journal i) agrees earlier in
    record {
      register = with_entries before.register (brings journal i before.register).entries;
      stands = stand_behind holds0 holds1 at0 at1 before.register (brings journal i before.register).entries before.stands still added;
      kept = (brings_leaves journal i before.register journaled before.kept earlier_there).kept;
      awards = brings_keep journal i before.register journaled before.kept before.awards earlier_there;
    }
