-- What an item of a forced sale brings leaves receipts, places, waiting filings and rights as every register keeps them.
use Rattle.std.proofs.Common.{◌≡◌, ℕ, ◌≤◌, true, false, List, All, AllPairs, Contains, IsSome, refl, sym, subst}
use Rattle.std.specs.List.{AllByRecursion}
use Rattle.std.proofs.lemmas.List.Elements.{All-append, All-from_recursion}
use Rattle.gb_base.specs.declared.keys.Key.{Key}
use Rattle.gb_base.specs.declared.keys.Key.TheVariants.{Case, Right, Title}
use Rattle.act_model.proofs.KeyOrder.{has, has_decides}
use Rattle.act_model.specs.Receiving.{receipt_at}
use Rattle.act_model.specs.declared.receipts.Receipt.{Receipt}
use Rattle.folio_sections.specs.Entries.{at, with_entries}
use Rattle.folio_sections.specs.declared.entries.Entry.{Entry}
use Rattle.folio_sections.specs.declared.entries.What.{What}
use Rattle.folio_sections.specs.declared.entries.What.TheVariants as what
use Rattle.folio_sections.proofs.Unchanged.{all_at, all_weaker}
use Rattle.kept_registers.specs.Kept.{Kept}
use Rattle.kept_registers.specs.KeptCases.{LeavesCents}
use Rattle.kept_registers.specs.KeptEntries.{IsCreatedInTime, IsPlacedInTime, IsStamped, ReceiptsRise, WaitsInTime}
use Rattle.kept_registers.specs.KeptPlaces.{PendingEverywhere, PlacesAscend}
use Rattle.registrar.proofs.Added.{all_here, unchanged_elsewhere}
use Rattle.registrar.proofs.CuresKeep.{AreEarlier}
use Rattle.registrar.proofs.Dealing.{KeepsWaiting}
use Rattle.registrar.proofs.EnteredTitles.{IsQuiet, title_quiet}
use Rattle.registrar.proofs.EntriesKept.{never_fall_here, stamped}
use Rattle.registrar.proofs.LeavingRights.{LeavesRights}
use Rattle.registrar.proofs.RankedTitles.{of_titles, title_of}
use Rattle.registrar.proofs.SaleBrings.{IsOfItem, IsOfSale}
use Rattle.registrar.proofs.WaitingKept.{waiting_same}
use Rattle.registrar.proofs.WaitingReads.{pending_kept}

-- ---- what its contents do not say

pub leaves_rights : (w : What) (k : Key) → IsOfSale w k → LeavesRights w
leaves_rights what.Seized k is = tt
leaves_rights what.Registered k is = tt
leaves_rights (what.Bids costs) k is = tt
leaves_rights (what.Awarded buyer bid) k is = tt
leaves_rights (what.AwardOwner buyer) k is = tt
leaves_rights (what.Remains capital) k is = tt
leaves_rights what.Expired k is = tt
leaves_rights what.Distributed k is = tt
leaves_rights other k is = absurd is

is_quiet : (w : What) (k : Key) → IsOfSale w k → IsQuiet w
is_quiet what.Seized k is = tt
is_quiet what.Registered k is = tt
is_quiet (what.Bids costs) k is = tt
is_quiet (what.Awarded buyer bid) k is = tt
is_quiet (what.AwardOwner buyer) k is = tt
is_quiet (what.Remains capital) k is = tt
is_quiet what.Expired k is = tt
is_quiet what.Distributed k is = tt
is_quiet other k is = absurd is

keeps_waiting : (w : What) (k : Key) → IsOfSale w k → KeepsWaiting w
keeps_waiting what.Seized k is = tt
keeps_waiting what.Registered k is = tt
keeps_waiting (what.Bids costs) k is = tt
keeps_waiting (what.Awarded buyer bid) k is = tt
keeps_waiting (what.AwardOwner buyer) k is = tt
keeps_waiting (what.Remains capital) k is = tt
keeps_waiting what.Expired k is = tt
keeps_waiting what.Distributed k is = tt
keeps_waiting other k is = absurd is

pub leaves_cents : (w : What) (k : Key) → IsOfSale w k → LeavesCents w
leaves_cents what.Seized k is = tt
leaves_cents what.Registered k is = tt
leaves_cents (what.Bids costs) k is = tt
leaves_cents (what.Awarded buyer bid) k is = tt
leaves_cents (what.AwardOwner buyer) k is = tt
leaves_cents (what.Remains capital) (Right folio right) is = is
leaves_cents (what.Remains capital) (Title folio) is = absurd is
leaves_cents (what.Remains capital) (Case folio) is = absurd is
leaves_cents what.Expired k is = tt
leaves_cents what.Distributed k is = tt
leaves_cents other k is = absurd is

placed_in_time : (journal : List Receipt) (receipt day : ℕ) (key : Key) (w : What) (k : Key) → IsOfSale w k → IsPlacedInTime journal (record { receipt = receipt; day = day; key = key; what = w }) k
placed_in_time journal receipt day key w (Right folio right) is = tt
placed_in_time journal receipt day key w (Case folio) is = tt
placed_in_time journal receipt day key (what.AwardOwner buyer) (Title folio) is = tt
placed_in_time journal receipt day key what.Seized (Title folio) is = absurd is
placed_in_time journal receipt day key what.Registered (Title folio) is = absurd is
placed_in_time journal receipt day key (what.Bids costs) (Title folio) is = absurd is
placed_in_time journal receipt day key (what.Awarded buyer bid) (Title folio) is = absurd is
placed_in_time journal receipt day key (what.Remains capital) (Title folio) is = absurd is
placed_in_time journal receipt day key what.Expired (Title folio) is = absurd is
placed_in_time journal receipt day key what.Distributed (Title folio) is = absurd is
placed_in_time journal receipt day key other (Title folio) is = absurd is

waits_in_time : (receipt : ℕ) (w : What) (k : Key) → IsOfSale w k → WaitsInTime receipt w
waits_in_time receipt what.Seized k is = tt
waits_in_time receipt what.Registered k is = tt
waits_in_time receipt (what.Bids costs) k is = tt
waits_in_time receipt (what.Awarded buyer bid) k is = tt
waits_in_time receipt (what.AwardOwner buyer) k is = tt
waits_in_time receipt (what.Remains capital) k is = tt
waits_in_time receipt what.Expired k is = tt
waits_in_time receipt what.Distributed k is = tt
waits_in_time receipt other k is = absurd is

created_in_time : (receipt : ℕ) (w : What) (k : Key) → IsOfSale w k → IsCreatedInTime receipt k w
created_in_time receipt w (Title folio) is = tt
created_in_time receipt w (Case folio) is = tt
created_in_time receipt (what.Remains capital) (Right folio right) is = tt
created_in_time receipt what.Expired (Right folio right) is = tt
created_in_time receipt what.Seized (Right folio right) is = absurd is
created_in_time receipt what.Registered (Right folio right) is = absurd is
created_in_time receipt (what.Bids costs) (Right folio right) is = absurd is
created_in_time receipt (what.Awarded buyer bid) (Right folio right) is = absurd is
created_in_time receipt (what.AwardOwner buyer) (Right folio right) is = absurd is
created_in_time receipt what.Distributed (Right folio right) is = absurd is
created_in_time receipt other (Right folio right) is = absurd is

-- ---- the register after them

-- Item i brings these entries of a sale at these keys of a kept register, whose entries there are by earlier items.
pub record IsSaleStep (journal : List Receipt) (i : ℕ) (keys : List Key) (register : Key → List Entry) (es : List Entry) : Type 0 where
  pub received : IsSome (receipt_at journal i)
  pub kept : Kept journal register
  pub earlier : AreEarlier i register keys
  pub brought : AllByRecursion (IsOfItem journal i keys) es

module _ (journal : List Receipt) (i : ℕ) (keys : List Key) (register : Key → List Entry) (es : List Entry) (step : IsSaleStep journal i keys register es) where
  pub each_says : (P : What → Type 0) → ((w : What) (k : Key) → IsOfSale w k → P w) → AllByRecursion (λ e. P e.what) es
  each_says P says = all_weaker (IsOfItem journal i keys) (λ e. P e.what) es (λ e is. says e.what e.key is.content) step.brought

  all_there : AllByRecursion (λ e. Contains keys e.key) es
  all_there = all_weaker (IsOfItem journal i keys) (λ e. Contains keys e.key) es (λ e is. is.there) step.brought

  -- what holds of the entries before and of each entry that is brought, at its key, holds of all that then stand at a key
  pub all_behind : (P : Key → Entry → Type 0) → ((e : Entry) → IsOfItem journal i keys e → P e.key e) → (k : Key) → All (P k) (register k) → All (P k) (with_entries register es k)
  all_behind P each k old =
      All-append (P k) (register k) (at es k) old
      (All-from_recursion (P k) (at es k) (all_here P es k (all_weaker (IsOfItem journal i keys) (λ e. P e.key e) es each step.brought)))

  of_item : (k : Key) → All (λ e. e.receipt ≡ i) (at es k)
  of_item k =
      All-from_recursion (λ e. e.receipt ≡ i) (at es k)
      (all_here (λ j e. e.receipt ≡ i) es k (all_weaker (IsOfItem journal i keys) (λ e. e.receipt ≡ i) es (λ e is. is.by_item) step.brought))

  pub stays_off : (k : Key) → has k keys ≡ false → with_entries register es k ≡ register k
  stays_off k lacks = unchanged_elsewhere register keys es k all_there lacks

  never_fall : (k : Key) → AllPairs (λ e later. e.receipt ≤ later.receipt) (with_entries register es k)
  never_fall k =
      elim (has k keys) as (λ b. has k keys ≡ b → AllPairs (λ e later. e.receipt ≤ later.receipt) (with_entries register es k)) [
        | true ↦ λ there. never_fall_here i (register k) (at es k) (step.kept.receipts_rise.never_fall k) (step.earlier k ((has_decides k keys).0 there)) (of_item k)
        | false ↦ λ lacks. subst (AllPairs (λ e later. e.receipt ≤ later.receipt)) (sym (stays_off k lacks)) (step.kept.receipts_rise.never_fall k)
      ] refl

  pub sale_receipts_rise : ReceiptsRise journal (with_entries register es)
  sale_receipts_rise =
      let was = step.kept.receipts_rise in
      record {
        never_fall = never_fall;
        days = λ k. all_behind (λ j e. IsStamped journal e) (λ e is. stamped journal i e step.received is.by_item is.on_day) k (was.days k);
        placed = λ k. all_behind (λ j e. IsPlacedInTime journal e j) (λ e is. placed_in_time journal e.receipt e.day e.key e.what e.key is.content) k (was.placed k);
        waiting = λ k. all_behind (λ j e. WaitsInTime e.receipt e.what) (λ e is. waits_in_time e.receipt e.what e.key is.content) k (was.waiting k);
        created = λ k. all_behind (λ j e. IsCreatedInTime e.receipt j e.what) (λ e is. created_in_time e.receipt e.what e.key is.content) k (was.created k);
      }

  pub sale_places : PlacesAscend journal (with_entries register es)
  sale_places =
      of_titles journal (with_entries register es)
      (λ folio. title_quiet journal folio (register (Title folio)) (at es (Title folio)) (title_of journal register step.kept.places_ascend folio)
      (all_at (λ e. IsQuiet e.what) es (Title folio) (each_says IsQuiet is_quiet)))

  pub sale_waiting : PendingEverywhere journal (with_entries register es)
  sale_waiting =
      waiting_same journal register (with_entries register es)
      (λ n k. pending_kept n (register k) (at es k) (all_at (λ e. KeepsWaiting e.what) es k (each_says KeepsWaiting keeps_waiting)))
      step.kept.pending_everywhere
