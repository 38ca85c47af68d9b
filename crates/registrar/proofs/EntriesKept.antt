-- Where an item deals with a filing, receipts never fall, and entries name nothing later.
use Rattle.std.proofs.Common.{◌≡◌, ℕ, ◌<◌, ◌≤◌, true, false, List, ◌++◌, All, AllPairs, Contains, IsSome, get_or, Option, Some, None, option_map, refl, sym, ap, subst, ◌∙◌, arith}
use Rattle.std.specs.Option.{option_map_or}
use Rattle.std.proofs.lemmas.Bool.{false≢true}
use Rattle.std.specs.List.{AllByRecursion}
use Rattle.std.proofs.lemmas.List.Elements.{All-append, All-from_recursion}
use Rattle.gb_base.specs.declared.keys.Key.{Key}
use Rattle.act_model.specs.declared.items.Filing.{Filing}
use Rattle.act_model.specs.declared.receipts.Receipt.{Receipt}
use Rattle.act_model.specs.Receiving.{day_of, receipt_at}
use Rattle.act_model.specs.Touches.{keys_of_filing}
use Rattle.act_model.proofs.KeyOrder.{has, has_decides}
use Rattle.folio_sections.specs.Entries.{at, with_entries}
use Rattle.kept_registers.specs.KeptEntries.{IsCreatedInTime, IsPlacedInTime, IsStamped, ReceiptsRise, WaitsInTime}
use Rattle.folio_sections.specs.declared.entries.Entry.{Entry}
use Rattle.folio_sections.proofs.Unchanged.{all_weaker}
use Rattle.registrar.proofs.Added.{all_here, unchanged_elsewhere}
use Rattle.registrar.proofs.ContainedParts.{pairs_append}
use Rattle.registrar.proofs.Dealing.{Deals, IsBrought}

-- all that is brought stands at keys of the filing
pub all_there : (journal : List Receipt) (m i : ℕ) (es : List Entry) → AllByRecursion (IsBrought journal m i) es → AllByRecursion (λ e. Contains (keys_of_filing journal m) e.key) es
all_there journal m i es all = all_weaker (IsBrought journal m i) (λ e. Contains (keys_of_filing journal m) e.key) es (λ e brought. brought.there) all

-- what holds of the entries before and of each entry that is brought, at its key, holds of all that then stand at a key
pub kept_here : (P : Key → Entry → Type 0) (journal : List Receipt) (m i : ℕ) (before : Key → List Entry) (es : List Entry)
    → ((e : Entry) → IsBrought journal m i e → P e.key e) → AllByRecursion (IsBrought journal m i) es
    → (k : Key) → All (P k) (before k) → All (P k) (with_entries before es k)
kept_here P journal m i before es each all k old =
    All-append (P k) (before k) (at es k) old
    (All-from_recursion (P k) (at es k) (all_here P es k (all_weaker (IsBrought journal m i) (λ e. P e.key e) es each all)))

-- entries of one item
all_of_item : (journal : List Receipt) (m i : ℕ) (es : List Entry) (k : Key) → AllByRecursion (IsBrought journal m i) es → All (λ e. e.receipt ≡ i) (at es k)
all_of_item journal m i es k all =
    All-from_recursion (λ e. e.receipt ≡ i) (at es k)
    (all_here (λ j e. e.receipt ≡ i) es k (all_weaker (IsBrought journal m i) (λ e. e.receipt ≡ i) es (λ e brought. brought.by_item) all))

pub never_fall_here : (i : ℕ) (before added : List Entry) → AllPairs (λ e later. e.receipt ≤ later.receipt) before → All (λ e. e.receipt < i) before
    → All (λ e. e.receipt ≡ i) added → AllPairs (λ e later. e.receipt ≤ later.receipt) (before ++ added)
never_fall_here i before added rise earlier now =
    pairs_append (λ e later. e.receipt ≤ later.receipt) before added rise
    (λ a b d less within.
    let first : (get_or added a d).receipt ≡ i = now a d (omega arith) in
    let second : (get_or added b d).receipt ≡ i = now b d within in
    omega arith)
    (λ a d within b c inside.
    let first : (get_or before a d).receipt < i = earlier a d within in
    let second : (get_or added b c).receipt ≡ i = now b c inside in
    omega arith)

never_fall_at : (journal : List Receipt) (m : ℕ) (f : Filing) (i : ℕ) (before : Key → List Entry) (es : List Entry) (k : Key)
    → Deals journal m f i before → AllByRecursion (IsBrought journal m i) es → AllPairs (λ e later. e.receipt ≤ later.receipt) (with_entries before es k)
never_fall_at journal m f i before es k deals all =
    elim (has k (keys_of_filing journal m)) as (λ b. has k (keys_of_filing journal m) ≡ b → AllPairs (λ e later. e.receipt ≤ later.receipt) (with_entries before es k)) [
      | true ↦ λ there. never_fall_here i (before k) (at es k) (deals.kept.receipts_rise.never_fall k)
          (deals.earlier k ((has_decides k (keys_of_filing journal m)).0 there)) (all_of_item journal m i es k all)
      | false ↦ λ lacks. subst (AllPairs (λ e later. e.receipt ≤ later.receipt))
          (sym (unchanged_elsewhere before (keys_of_filing journal m) es k (all_there journal m i es all) lacks)) (deals.kept.receipts_rise.never_fall k)
    ] refl

-- an entry of item i, on the stamp day of the item
day_there : (o : Option Receipt) → IsSome o → option_map (λ r. r.stamp.day) o ≡ Some (option_map_or (λ r. r.stamp.day) o 0)
day_there (Some r) there = refl
day_there None there = absurd (false≢true there)

pub stamped : (journal : List Receipt) (i : ℕ) (e : Entry) → IsSome (receipt_at journal i) → e.receipt ≡ i → e.day ≡ day_of journal i → IsStamped journal e
stamped journal i e there by_item on_day =
    ap (λ n. option_map (λ r. r.stamp.day) (receipt_at journal n)) by_item ∙ day_there (receipt_at journal i) there ∙ ap Some (sym on_day)

pub receipts_rise : (journal : List Receipt) (m : ℕ) (f : Filing) (i : ℕ) (at : Key → List Entry) (es : List Entry) → Deals journal m f i at → AllByRecursion (IsBrought journal m i) es → ReceiptsRise journal (with_entries at es)
receipts_rise journal m f i at es deals all = record {
  never_fall = λ k. never_fall_at journal m f i at es k deals all;
  days = λ k. kept_here (λ j e. IsStamped journal e) journal m i at es
      (λ e brought. stamped journal i e deals.received brought.by_item brought.on_day) all k (deals.kept.receipts_rise.days k);
  placed = λ k. kept_here (λ j e. IsPlacedInTime journal e j) journal m i at es (λ e brought. brought.placed) all k (deals.kept.receipts_rise.placed k);
  waiting = λ k. kept_here (λ j e. WaitsInTime e.receipt e.what) journal m i at es (λ e brought. brought.waits) all k (deals.kept.receipts_rise.waiting k);
  created = λ k. kept_here (λ j e. IsCreatedInTime e.receipt j e.what) journal m i at es (λ e brought. brought.created) all k (deals.kept.receipts_rise.created k);
}
