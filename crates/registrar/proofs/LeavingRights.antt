-- What neither creates a right nor exchanges or exercises one: orders, ends, official notices and places.
use Rattle.std.proofs.Common.{ℕ, true, false, cond, ◌&&◌, List, [], ◌∷◌, is_none}
use Rattle.std.specs.List.{AllByRecursion}
use Rattle.gb_base.specs.declared.keys.Key.{Key}
use Rattle.gb_base.specs.declared.keys.Key.TheVariants.{Title, Right, Case}
use Rattle.act_model.specs.declared.receipts.Receipt.{Receipt}
use Rattle.act_model.specs.Touches.{acts_of, keys_in_order}
use Rattle.folio_sections.specs.Entries.{entry_by}
use Rattle.interim_orders.specs.Notices.{notices_at, notices_brought}
use Rattle.entry_rules.specs.Entering.{placed_at, places_brought}
use Rattle.folio_sections.specs.Waiting.{waiting_unnoticed, notice}
use Rattle.act_model.specs.Divisions.{create_in_division, creates_there}
use Rattle.folio_sections.specs.declared.entries.Entry.{Entry}
use Rattle.folio_sections.specs.declared.entries.What.{What}
use Rattle.folio_sections.specs.declared.entries.What.TheVariants as what
use Rattle.interim_orders.specs.Orders.{deadline_of, end_brought, order_brought, waiting_brought}
use Rattle.registrar.proofs.ContainedParts.{each_mapped, all_parts}

-- the content neither creates a right nor exchanges or exercises one
abbrev pub LeavesRights : What → Type 0
LeavesRights (what.Created made) = ⊥
LeavesRights (what.Exchanged recede rise act) = ⊥
LeavesRights (what.Exercised by) = ⊥
LeavesRights other = Unit {0}

pub waiting_leaves_rights : (journal : List Receipt) (m i until : ℕ) → AllByRecursion (λ e. LeavesRights e.what) (waiting_brought journal m i until)
waiting_leaves_rights journal m i until =
    each_mapped (λ (e : Entry). LeavesRights e.what) (λ k. entry_by journal i k (what.Pending m until)) (keys_in_order journal m) (λ k. tt)

pub order_leaves_rights : (journal : List Receipt) (m : ℕ) → AllByRecursion (λ e. LeavesRights e.what) (order_brought journal m)
order_leaves_rights journal m = waiting_leaves_rights journal m m (deadline_of journal m)

pub end_leaves_rights : (journal : List Receipt) (m i : ℕ) → AllByRecursion (λ e. LeavesRights e.what) (end_brought journal m i)
end_leaves_rights journal m i =
    each_mapped (λ (e : Entry). LeavesRights e.what) (λ k. entry_by journal i k (what.Settled m)) (keys_in_order journal m) (λ k. tt)

notices_leave : (journal : List Receipt) (m i : ℕ) (at0 : Key → List Entry) (key : Key) → AllByRecursion (λ e. LeavesRights e.what) (notices_at journal m i at0 key)
notices_leave journal m i at0 key =
    each_mapped (λ (e : Entry). LeavesRights e.what) (λ n. entry_by journal i key (what.Notice n)) (waiting_unnoticed m (at0 key)) (λ n. tt)

pub notices_leave_rights : (journal : List Receipt) (m i : ℕ) (at0 : Key → List Entry) → AllByRecursion (λ e. LeavesRights e.what) (notices_brought journal m i at0)
notices_leave_rights journal m i at0 =
    all_parts (λ (e : Entry). LeavesRights e.what) (notices_at journal m i at0) (keys_in_order journal m) (notices_leave journal m i at0)

place_leaves : (journal : List Receipt) (m i : ℕ) (at0 : Key → List Entry) (key : Key) → AllByRecursion (λ e. LeavesRights e.what) (placed_at journal m i at0 key)
place_leaves journal m i at0 (Title folio) =
    elim (creates_there journal folio m && is_none (notice m (at0 (Title folio)))) as (λ b. AllByRecursion (λ (e : Entry). LeavesRights e.what) (cond b (entry_by journal i (Title folio) (what.Placed m (create_in_division false folio (acts_of journal m)) (create_in_division true folio (acts_of journal m))) ∷ []) [])) [
      | true ↦ (tt, tt)
      | false ↦ tt
    ]
place_leaves journal m i at0 (Right folio right) = tt
place_leaves journal m i at0 (Case folio) = tt

pub places_leave_rights : (journal : List Receipt) (m i : ℕ) (at0 : Key → List Entry) → AllByRecursion (λ e. LeavesRights e.what) (places_brought journal m i at0)
places_leave_rights journal m i at0 =
    all_parts (λ (e : Entry). LeavesRights e.what) (placed_at journal m i at0) (keys_in_order journal m) (place_leaves journal m i at0)
