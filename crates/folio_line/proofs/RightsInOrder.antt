-- What the lines of a folio need of a register: each right as the journal has it filed, and what acts on it as its kind allows.
use Rattle.std.proofs.Common.{◌≡◌, ℕ, ◌<◌, ◌≤◌, Bool, true, false, cond, nat_lt, List, [], ◌∷◌, filter, IfSome, IsSome, IsSomeAnd, Option, Some, None, is_some, length, refl, sym, ap, subst, ◌∙◌, arith}
use Rattle.std.specs.List.{AllByRecursion}
use Rattle.std.proofs.lemmas.List.Elements.{recursion_from_All}
use Rattle.std.proofs.lemmas.List.Sums.{length-filter}
use Rattle.gb_base.specs.Limits.{most_acts}
use Rattle.gb_base.specs.RightNo.{RightNo}
use Rattle.gb_base.specs.declared.keys.Key.{Key}
use Rattle.gb_base.specs.declared.keys.Key.TheVariants.{Right}
use Rattle.act_model.specs.Touches.{act_of_right}
use Rattle.act_model.specs.declared.filing_acts.Act.{Act}
use Rattle.act_model.specs.declared.receipts.Receipt.{Receipt}
use Rattle.folio_sections.specs.Fronts.{below}
use Rattle.folio_sections.specs.Rights.{created, is_exercise}
use Rattle.folio_sections.specs.declared.entries.Created.{Created}
use Rattle.folio_sections.specs.declared.entries.Entry.{Entry}
use Rattle.folio_sections.specs.declared.entries.What.{What}
use Rattle.folio_sections.specs.declared.entries.What.TheVariants as what
use Rattle.folio_sections.proofs.FilteredLists.{all_filtered}
use Rattle.folio_sections.proofs.Unchanged.{all_weaker}
use Rattle.kept_registers.specs.Kept.{Kept}
use Rattle.kept_registers.specs.KeptCases.{LeavesCents}
use Rattle.kept_registers.specs.KeptEntries.{IsStamped}
use Rattle.kept_registers.specs.KeptRights.{ActsOnItsKind, EntersAsFiled, IsAsFiled, IsUntied, StandsUntied}
use Rattle.kept_registers.proofs.KeptOrder.{OfCreation, created_has}
use Rattle.folio_line.proofs.CreatedRights.{IsCreatedHere, enters_here}

-- ---- what holds of each entry at a right

-- a right that is filed so is untied
abbrev pub IsFiledUntied : List Receipt → ℕ → RightNo → Type 0
IsFiledUntied journal folio right = (made : Created) → IsCreatedHere journal folio right made → IsUntied journal right made

-- A content at a right exchanges rights alone that are filed as untied ones, by one of the acts that a filing has, and uses a
-- reservation that the right is filed with, for a later filing.
abbrev pub ActsAsFiled : List Receipt → ℕ → RightNo → What → Type 0
ActsAsFiled journal folio right (what.Exchanged recede rise act) =
    IsFiledUntied journal folio recede × IsFiledUntied journal folio rise × (1 ≤ act) × (act ≤ most_acts)
ActsAsFiled journal folio right (what.Exercised by) =
    ((made : Created) → IsCreatedHere journal folio right made → IsSome made.reserve) × (right.receipt < by.receipt)
ActsAsFiled journal folio right other = Unit {0}

-- All of this says something of each entry alone, or counts entries, so the entries that stood before a receipt have it too.
pub record RightsInOrder (journal : List Receipt) (at : Key → List Entry) : Type 0 where
  pub filed : (folio : ℕ) (right : RightNo) → AllByRecursion (λ e. OfCreation (IsCreatedHere journal folio right) e.what) (at (Right folio right))
  pub acts : (folio : ℕ) (right : RightNo) → AllByRecursion (λ e. ActsAsFiled journal folio right e.what) (at (Right folio right))
  pub days : (folio : ℕ) (right : RightNo) → AllByRecursion (IsStamped journal) (at (Right folio right))
  pub remains : (folio : ℕ) (right : RightNo) → AllByRecursion (λ e. LeavesCents e.what) (at (Right folio right))
  pub once : (folio : ℕ) (right : RightNo) → length (filter (λ e. is_exercise e.what) (at (Right folio right))) ≤ 1

-- a right that is created is as the journal has it filed
pub is_created_here : (journal : List Receipt) (at : Key → List Entry) (folio : ℕ) (id : RightNo) (made : Created) → RightsInOrder journal at → created (at (Right folio id)) ≡ Some made → IsCreatedHere journal folio id made
is_created_here journal at folio id made stands is =
    subst (λ o. IfSome o (IsCreatedHere journal folio id)) is (created_has (IsCreatedHere journal folio id) (at (Right folio id)) (stands.filed folio id))

-- ---- in a kept register

-- two rights that one act creates have one reservation, and one rank
same_as_filed : (folio : ℕ) (a b : Created) (o : Option Act) → IsSomeAnd o (IsAsFiled folio a) → IsSomeAnd o (IsAsFiled folio b) → (a.reserve ≡ b.reserve) × (a.ahead_of ≡ b.ahead_of)
same_as_filed folio a b None first second = absurd first
same_as_filed folio a b (Some act) first second = (first.reserve ∙ sym second.reserve, first.ahead_of ∙ sym second.ahead_of)

kept_filed : (journal : List Receipt) (at : Key → List Entry) (folio : ℕ) (right : RightNo) → Kept journal at → AllByRecursion (λ e. OfCreation (IsCreatedHere journal folio right) e.what) (at (Right folio right))
kept_filed journal at folio right kept =
    all_weaker (λ (e : Entry). EntersAsFiled journal at folio right e.receipt e.what) (λ e. OfCreation (IsCreatedHere journal folio right) e.what) (at (Right folio right))
    (λ e enters. enters_here journal at folio right e.receipt e.what enters)
    (recursion_from_All (λ (e : Entry). EntersAsFiled journal at folio right e.receipt e.what) (at (Right folio right)) (kept.created_as_filed.filed folio right))

-- what the journal has filed of a right that stands is what it is created with
created_in : (journal : List Receipt) (at : Key → List Entry) (folio : ℕ) (right : RightNo) (made : Created) → Kept journal at → created (at (Right folio right)) ≡ Some made → IsCreatedHere journal folio right made
created_in journal at folio right made kept is =
    subst (λ o. IfSome o (IsCreatedHere journal folio right)) is (created_has (IsCreatedHere journal folio right) (at (Right folio right)) (kept_filed journal at folio right kept))

untied_filed : (journal : List Receipt) (at : Key → List Entry) (folio : ℕ) (right : RightNo) → Kept journal at → StandsUntied journal at folio right → IsFiledUntied journal folio right
untied_filed journal at folio right kept plain made here =
    elim (created (at (Right folio right))) as (λ o. created (at (Right folio right)) ≡ o → IsSomeAnd o (IsUntied journal right) → IsUntied journal right made) [
      | None ↦ λ _ none. absurd none
      | Some own ↦ λ is its.
          let same = same_as_filed folio made own (act_of_right journal right) here.filed (created_in journal at folio right own kept is).filed in
          record { alone = its.alone; no_reserve = same.0 ∙ its.no_reserve; no_exercise = same.1 ∙ its.no_exercise }
    ] refl plain

reserve_filed : (journal : List Receipt) (at : Key → List Entry) (folio : ℕ) (right : RightNo) → Kept journal at → IsSomeAnd (created (at (Right folio right))) (λ made. IsSome made.reserve)
    → (made : Created) → IsCreatedHere journal folio right made → IsSome made.reserve
reserve_filed journal at folio right kept has made here =
    elim (created (at (Right folio right))) as (λ o. created (at (Right folio right)) ≡ o → IsSomeAnd o (λ (own : Created). IsSome own.reserve) → IsSome made.reserve) [
      | None ↦ λ _ none. absurd none
      | Some own ↦ λ is its.
          let same = same_as_filed folio made own (act_of_right journal right) here.filed (created_in journal at folio right own kept is).filed in
          ap is_some same.0 ∙ its
    ] refl has

acts_filed : (journal : List Receipt) (at : Key → List Entry) (folio : ℕ) (right : RightNo) (w : What) → Kept journal at → ActsOnItsKind journal at folio right w → ActsAsFiled journal folio right w
acts_filed journal at folio right (what.Exchanged recede rise act) kept acts =
    (untied_filed journal at folio recede kept acts.0, untied_filed journal at folio rise kept acts.1, acts.2, acts.3)
acts_filed journal at folio right (what.Exercised by) kept acts = (reserve_filed journal at folio right kept acts.0, acts.1.1)
acts_filed journal at folio right other kept acts = tt

pub kept_in_order : (journal : List Receipt) (at : Key → List Entry) → Kept journal at → RightsInOrder journal at
kept_in_order journal at kept = record {
  filed = λ folio right. kept_filed journal at folio right kept;
  acts = λ folio right.
      all_weaker (λ (e : Entry). ActsOnItsKind journal at folio right e.what) (λ e. ActsAsFiled journal folio right e.what) (at (Right folio right)) (λ e acts. acts_filed journal at folio right e.what kept acts)
      (recursion_from_All (λ (e : Entry). ActsOnItsKind journal at folio right e.what) (at (Right folio right)) (kept.exchanged_are_untied.kinds folio right));
  days = λ folio right. recursion_from_All (IsStamped journal) (at (Right folio right)) (kept.receipts_rise.days (Right folio right));
  remains = λ folio right. recursion_from_All (λ (e : Entry). LeavesCents e.what) (at (Right folio right)) (kept.case_in_order.remains folio right);
  once = λ folio right. (
      let counted = length-filter (λ (e : Entry). is_exercise e.what) (at (Right folio right)) in
      let few = kept.exchanged_are_untied.once folio right in
      omega (arith, counted, few));
}

-- ---- before a receipt

fewer_left : {X : Type 0} (p q : X → Bool) (xs : List X) → length (filter p (filter q xs)) ≤ length (filter p xs)
fewer_left p q [] = omega arith
fewer_left p q (x ∷ xs) =
    let rest = fewer_left p q xs in
    elim (q x) as (λ b. length (filter p (cond b (x ∷ filter q xs) (filter q xs))) ≤ length (cond (p x) (x ∷ filter p xs) (filter p xs))) [
      | true ↦ elim (p x) as (λ b. length (cond b (x ∷ filter p (filter q xs)) (filter p (filter q xs))) ≤ length (cond b (x ∷ filter p xs) (filter p xs))) [ true ↦ omega (arith, rest) | false ↦ rest ]
      | false ↦ elim (p x) as (λ b. length (filter p (filter q xs)) ≤ length (cond b (x ∷ filter p xs) (filter p xs))) [ true ↦ omega (arith, rest) | false ↦ rest ]
    ]

pub below_in_order : (journal : List Receipt) (at : Key → List Entry) (n : ℕ) → RightsInOrder journal at → RightsInOrder journal (λ k. below n (at k))
below_in_order journal at n stands =
    let early : Entry → Bool = λ e. nat_lt e.receipt n in
    record {
      filed = λ folio right. all_filtered (λ (e : Entry). OfCreation (IsCreatedHere journal folio right) e.what) early (at (Right folio right)) (stands.filed folio right);
      acts = λ folio right. all_filtered (λ (e : Entry). ActsAsFiled journal folio right e.what) early (at (Right folio right)) (stands.acts folio right);
      days = λ folio right. all_filtered (IsStamped journal) early (at (Right folio right)) (stands.days folio right);
      remains = λ folio right. all_filtered (λ (e : Entry). LeavesCents e.what) early (at (Right folio right)) (stands.remains folio right);
      once = λ folio right. (
          let few = stands.once folio right in
          let less = fewer_left (λ (e : Entry). is_exercise e.what) early (at (Right folio right)) in
          omega (arith, few, less));
    }
