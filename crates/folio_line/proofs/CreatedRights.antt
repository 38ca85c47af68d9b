-- A right that was created in a kept register: its creating act in the journal, and the ranges of what this act says.
use Rattle.std.proofs.Common.{◌≡◌, ℕ, ◌-◌, ◌≤◌, zero, suc, eqb, Bool, true, false, cond, ◌&&◌, List, [], ◌∷◌, IsSomeAnd, Some, None, is_some, length, slice_get, refl, sym, ap, ◌∙◌, arith}
use Rattle.std.specs.List.{list_all}
use Rattle.std.specs.Option.{option_map_or}
use Rattle.std.proofs.lemmas.Bool.{and_parts, false≢true}
use Rattle.std.proofs.lemmas.Bool.Decides.{nat_tests}
use Rattle.std.proofs.lemmas.Option.{option_and_then_some, slice_get_within}
use Rattle.gb_base.specs.Limits.{is_between, most_acts, most_cents}
use Rattle.gb_base.specs.RightNo.{RightNo}
use Rattle.gb_base.specs.declared.keys.Key.{Key}
use Rattle.act_model.specs.Acts.{is_in_division_three, right_created}
use Rattle.act_model.specs.Creations.{creating_rank}
use Rattle.act_model.specs.Limits.{most_groups}
use Rattle.act_model.specs.Receiving.{IsJournal, receipt_at}
use Rattle.act_model.specs.Touches.{act_at, filing_at, filing_in, act_of_right}
use Rattle.act_model.specs.WellFormed.{is_act, is_amount, is_doc, is_filing, is_reserve, is_right_kind, is_right_spec, keeps_rules}
use Rattle.act_model.specs.declared.filing_acts.Act.{Act}
use Rattle.act_model.specs.declared.filing_acts.Act.TheVariants.{Create, Exercise, NoticeFor}
use Rattle.act_model.specs.declared.items.Filing.{Filing}
use Rattle.act_model.specs.declared.receipts.Receipt.{Receipt}
use Rattle.act_model.specs.declared.rights.RightSpec.{RightSpec}
use Rattle.kept_registers.specs.KeptRights.{EntersAsFiled, IsAsFiled}
use Rattle.act_model.specs.Limits.{most_creations}
use Rattle.folio_sections.specs.declared.entries.Created.{Created}
use Rattle.folio_sections.specs.declared.entries.Entry.{Entry}
use Rattle.folio_sections.specs.declared.entries.What.{What}
use Rattle.folio_sections.specs.declared.entries.What.TheVariants as what
use Rattle.kept_registers.proofs.KeptOrder.{OfCreation}
use Rattle.kept_registers.proofs.WellFiled.{well_filed}

-- ---- the creating act of a right

-- The right is as an act of the journal creates it, among the first of its folio.
pub record IsCreatedHere (journal : List Receipt) (folio : ℕ) (id : RightNo) (made : Created) : Type 0 where
  pub filed : IsSomeAnd (act_of_right journal id) (IsAsFiled folio made)
  pub rank : IsSomeAnd (creating_rank journal id) (λ n. n ≤ most_creations)

pub enters_here : (journal : List Receipt) (at : Key → List Entry) (folio : ℕ) (id : RightNo) (receipt : ℕ) (w : What) → EntersAsFiled journal at folio id receipt w → OfCreation (IsCreatedHere journal folio id) w
enters_here journal at folio id receipt (what.Created made) enters = record { filed = enters.filed; rank = enters.rank }
enters_here journal at folio id receipt other enters = tt

-- ---- what the act says is in its ranges

-- The number of the right is one of the journal, and its rate, group and capital are in their ranges.
pub record IsInRanges (journal : List Receipt) (id : RightNo) (made : Created) : Type 0 where
  pub receipt_from : 1 ≤ id.receipt
  pub receipt_to : id.receipt ≤ length journal
  pub act_from : 1 ≤ id.act
  pub act_to : id.act ≤ most_acts
  pub kind : is_right_kind made.spec.kind ≡ true
  pub group_from : 1 ≤ made.spec.group
  pub group_to : made.spec.group ≤ most_groups
  pub capital : 1 ≤ made.spec.capital
  pub capital_to : made.spec.capital ≤ most_cents

-- an element by its number from 1
pub record IsNumbered {X : Type 0} (xs : List X) (n : ℕ) (x : X) : Type 0 where
  pub from : 1 ≤ n
  pub to : n ≤ length xs
  pub there : slice_get xs (n - 1) ≡ Some x

pub numbered : {X : Type 0} (xs : List X) (n : ℕ) (x : X) → cond (eqb n 0) None (slice_get xs (n - 1)) ≡ Some x → IsNumbered xs n x
numbered xs n x is =
    elim (eqb n 0) as (λ b. eqb n 0 ≡ b → cond b None (slice_get xs (n - 1)) ≡ Some x → IsNumbered xs n x) [
      | true ↦ λ _ never. absurd (false≢true (ap is_some never))
      | false ↦ λ above there.
          let first : 1 ≤ n = grind (arith, nat_tests, above) in
          let within = slice_get_within xs (n - 1) x there in
          record { from = first; to = omega (arith, first, within); there = there }
    ] refl is

pub all_at_number : {X : Type 0} (p : X → Bool) (xs : List X) (k : ℕ) (x : X) → list_all p xs ≡ true → slice_get xs k ≡ Some x → p x ≡ true
all_at_number p [] k x all is = absurd (false≢true (ap is_some is))
all_at_number p (y ∷ xs) zero x all is = ap (λ o. option_map_or p o true) (sym is) ∙ (and_parts (p y) (list_all p xs) all).0
all_at_number p (y ∷ xs) (suc k) x all is = all_at_number p xs k x (and_parts (p y) (list_all p xs) all).1 is

-- the right that a well-formed act creates is well formed
spec_well : (act : Act) (spec : RightSpec) → is_act act ≡ true → right_created act ≡ Some spec → is_right_spec spec ≡ true
spec_well (Create folio s reserve) spec well is = ap (λ o. option_map_or is_right_spec o true) (sym is) ∙ (and_parts (is_right_spec s) (is_reserve reserve) well).0
spec_well (NoticeFor folio s) spec well is = ap (λ o. option_map_or is_right_spec o true) (sym is) ∙ well
spec_well (Exercise folio behind s) spec well is = ap (λ o. option_map_or is_right_spec o true) (sym is) ∙ (and_parts (is_right_spec s) (is_in_division_three s.kind) well).0
spec_well other spec well is = absurd (false≢true (ap is_some is))

-- the acts of a well-formed filing are few, and well formed
acts_well : (f : Filing) → is_filing f ≡ true → (is_between 1 most_acts (length f.acts) ≡ true) × (list_all is_act f.acts ≡ true)
acts_well f well =
    let ranges = and_parts (is_between 1 most_acts (length f.acts) && list_all is_act f.acts && list_all is_doc f.docs) (keeps_rules f.acts) well in
    let acts = and_parts (is_between 1 most_acts (length f.acts) && list_all is_act f.acts) (list_all is_doc f.docs) ranges.0 in
    and_parts (is_between 1 most_acts (length f.acts)) (list_all is_act f.acts) acts.0

pub few_acts : (f : Filing) → is_filing f ≡ true → length f.acts ≤ most_acts
few_acts f well =
    let some = (acts_well f well).0 in
    grind (arith, nat_tests, some)

in_ranges : (journal : List Receipt) (folio : ℕ) (id : RightNo) (made : Created) (r : Receipt) (f : Filing) (act : Act) → IsNumbered journal id.receipt r → IsNumbered f.acts id.act act → is_filing f ≡ true → IsAsFiled folio made act → IsInRanges journal id made
in_ranges journal folio id made r f act receipt number well filed =
    let spec = spec_well act made.spec (all_at_number is_act f.acts (id.act - 1) act (acts_well f well).1 number.there) filed.spec in
    let group = and_parts (is_right_kind made.spec.kind && is_amount made.spec.capital) (is_between 1 most_groups made.spec.group) spec in
    let amounts = and_parts (is_right_kind made.spec.kind) (is_amount made.spec.capital) group.0 in
    let capital = amounts.1 in
    let few = few_acts f well in
    let last = number.to in
    record {
      receipt_from = receipt.from;
      receipt_to = receipt.to;
      act_from = number.from;
      act_to = omega (arith, few, last);
      kind = amounts.0;
      group_from = grind (arith, nat_tests, group.1);
      group_to = grind (arith, nat_tests, group.1);
      capital = grind (arith, nat_tests, capital);
      capital_to = grind (arith, nat_tests, capital);
    }

pub is_in_ranges : (journal : List Receipt) (folio : ℕ) (id : RightNo) (made : Created) → IsJournal journal → IsCreatedHere journal folio id made → IsInRanges journal id made
is_in_ranges journal folio id made stands here =
    elim (act_of_right journal id) as (λ o. act_of_right journal id ≡ o → IsSomeAnd o (IsAsFiled folio made) → IsInRanges journal id made) [
      | None ↦ λ _ none. absurd none
      | Some act ↦ λ is filed.
          option_and_then_some (λ f. act_at f id.act) (filing_at journal id.receipt) act is
          (λ f there acts. option_and_then_some (λ r. filing_in r.item) (receipt_at journal id.receipt) f there
          (λ r received filing. in_ranges journal folio id made r f act (numbered journal id.receipt r received) (numbered f.acts id.act act acts) (well_filed journal id.receipt f stands there) filed))
    ] refl here.filed
