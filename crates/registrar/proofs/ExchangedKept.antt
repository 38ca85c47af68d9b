-- Only untied rights stay exchanged, and a reservation stays used at most once.
use Rattle.std.proofs.Common.{ℕ, ◌+◌, ◌≤◌, List, ◌++◌, sym, subst, arith}
use Rattle.std.specs.List.{AllByRecursion}
use Rattle.std.proofs.lemmas.List.Elements.{All-append, All-from_recursion, All-weaker}
use Rattle.gb_base.specs.RightNo.{RightNo}
use Rattle.gb_base.specs.declared.keys.Key.{Key}
use Rattle.gb_base.specs.declared.keys.Key.TheVariants.{Right}
use Rattle.act_model.specs.declared.items.Filing.{Filing}
use Rattle.act_model.specs.declared.receipts.Receipt.{Receipt}
use Rattle.registrar.specs.Enters.{enters}
use Rattle.folio_sections.specs.Entries.{at, with_entries}
use Rattle.kept_registers.specs.KeptRights.{ActsOnItsKind, ExchangedAreUntied}
use Rattle.folio_sections.specs.Rights.{created}
use Rattle.folio_sections.specs.declared.entries.Entry.{Entry}
use Rattle.folio_sections.proofs.Unchanged.{all_at, all_weaker}
use Rattle.registrar.proofs.Added.{all_here}
use Rattle.interim_orders.specs.Orders.{end_brought}
use Rattle.registrar.proofs.CreatedKept.{created_entered}
use Rattle.registrar.proofs.Dealing.{Deals, IsFit}
use Rattle.registrar.proofs.ExchangesStand.{ActsAt, ReadOn, exercises, exercises_both, kind_stays, leaves_acts, none_exercised}
use Rattle.registrar.proofs.ExercisedOnce.{exercised_once}
use Rattle.registrar.proofs.LeavingRights.{LeavesRights, end_leaves_rights}
use Rattle.registrar.proofs.NewContents.{with_both}
use Rattle.registrar.proofs.NewExchanges.{all_act, read_on}
use Rattle.registrar.proofs.RightReads.{SameReads, created_left, same_itself}

-- where each new entry exchanges and exercises as it may, at its key, all that is exchanged stays untied, and no reservation is used twice
pub exchanged_by_new : (journal : List Receipt) (at0 : Key → List Entry) (es : List Entry) → ReadOn at0 (with_entries at0 es)
    → ((folio : ℕ) (right : RightNo) → AllByRecursion (ActsAt journal (with_entries at0 es) (Right folio right)) (at es (Right folio right)))
    → ((folio : ℕ) (right : RightNo) → exercises (at0 (Right folio right)) + exercises (at es (Right folio right)) ≤ 1)
    → ExchangedAreUntied journal at0 → ExchangedAreUntied journal (with_entries at0 es)
exchanged_by_new journal at0 es same new once kept = record {
  kinds = λ folio right.
      All-append (λ e. ActsOnItsKind journal (with_entries at0 es) folio right e.what) (at0 (Right folio right)) (at es (Right folio right))
      (All-weaker (λ e. ActsOnItsKind journal at0 folio right e.what) (λ e. ActsOnItsKind journal (with_entries at0 es) folio right e.what)
      (λ e is. kind_stays journal at0 (with_entries at0 es) folio right e.what same is) (at0 (Right folio right)) (kept.kinds folio right))
      (All-from_recursion (λ e. ActsOnItsKind journal (with_entries at0 es) folio right e.what) (at es (Right folio right)) (new folio right));
  once = λ folio right.
      let both = exercises_both (at0 (Right folio right)) (at es (Right folio right)) in
      let few = once folio right in
      omega arith;
}

pub exchanged_stays : (journal : List Receipt) (at : Key → List Entry) (es : List Entry) → AllByRecursion (λ e. LeavesRights e.what) es → ExchangedAreUntied journal at → ExchangedAreUntied journal (with_entries at es)
exchanged_stays journal at0 es leaves kept =
    exchanged_by_new journal at0 es
    (λ folio right. subst (λ o. SameReads (created (at0 (Right folio right))) o) (sym (created_left (at0 (Right folio right)) (at es (Right folio right)) (here folio right))) (same_itself (created (at0 (Right folio right)))))
    (λ folio right. all_weaker (λ (e : Entry). LeavesRights e.what) (ActsAt journal (with_entries at0 es) (Right folio right)) (at es (Right folio right))
    (λ e leaves_it. leaves_acts journal (with_entries at0 es) (Right folio right) e leaves_it) (here folio right))
    (λ folio right. let none = none_exercised (at es (Right folio right)) (here folio right) in let before = kept.once folio right in omega arith)
    kept
  where
    here : (folio : ℕ) (right : RightNo) → AllByRecursion (λ e. LeavesRights e.what) (at es (Right folio right))
    here folio right = all_at (λ e. LeavesRights e.what) es (Right folio right) leaves

pub exchanged_entered : (journal : List Receipt) (m : ℕ) (f : Filing) (i : ℕ) (at : Key → List Entry) → Deals journal m f i at → IsFit journal m f at → ExchangedAreUntied journal (with_entries at (enters journal m i at))
exchanged_entered journal m f i at0 deals fit =
    let brought = enters journal m i at0 in
    let at1 = with_entries at0 brought in
    let filed = created_entered journal m f i at0 deals fit in
    exchanged_by_new journal at0 brought (read_on journal at0 brought filed)
    (λ folio right. all_here (ActsAt journal at1) brought (Right folio right) (all_act journal m f i at0 deals fit filed))
    (λ folio right. exercised_once journal m f i at0 folio right deals.filing deals.well fit.reserved (deals.kept.exchanged_are_untied.once folio right))
    deals.kept.exchanged_are_untied

pub exchanged_cured : (journal : List Receipt) (m : ℕ) (f : Filing) (i : ℕ) (at : Key → List Entry) → Deals journal m f i at → IsFit journal m f at → ExchangedAreUntied journal (with_entries at (enters journal m i at ++ end_brought journal m i))
exchanged_cured journal m f i at0 deals fit =
    let brought = enters journal m i at0 in
    let end = end_brought journal m i in
    subst (ExchangedAreUntied journal) (sym (with_both at0 brought end))
    (exchanged_stays journal (with_entries at0 brought) end (end_leaves_rights journal m i) (exchanged_entered journal m f i at0 deals fit))
