-- What an extension brings leaves a kept register.
use Rattle.std.proofs.Common.{◌≡◌, ℕ, true, false, cond, nat_lt, List, IsSome, Some, option_map, refl}
use Rattle.gb_base.specs.Deadlines.{deadline_after}
use Rattle.gb_base.specs.declared.keys.Key.{Key}
use Rattle.act_model.specs.Receiving.{IsJournal, day_of, receipt_at}
use Rattle.act_model.specs.declared.items.Item.TheVariants as item
use Rattle.act_model.specs.declared.receipts.Receipt.{Receipt}
use Rattle.conflict_queue.specs.ItemKeys.{keys_of_named}
use Rattle.folio_sections.specs.declared.entries.Entry.{Entry}
use Rattle.interim_orders.specs.Extensions.{brought_by_extension, extension_brought, extension_by}
use Rattle.interim_orders.specs.Orders.{state_of}
use Rattle.interim_orders.specs.declared.answers.Extension.TheVariants as answer
use Rattle.interim_orders.specs.declared.states.FilingState.{FilingState}
use Rattle.interim_orders.specs.declared.states.FilingState.TheVariants.{NotPending, Pending}
use Rattle.kept_registers.specs.Kept.{Kept}
use Rattle.registrar.proofs.CuresKeep.{AreEarlier, found, there_is}
use Rattle.registrar.proofs.Keeping.{Leaves, none_leave, wait_leaves}

extension_in_state : (journal : List Receipt) (m i day later : ℕ) (at : Key → List Entry) (state : FilingState) → IsSome (receipt_at journal i) → IsJournal journal → Kept journal at → AreEarlier i at (keys_of_named journal i m) → state_of journal m i at ≡ state
    → Leaves journal i at (brought_by_extension journal m i (extension_by day later state))
extension_in_state journal m i day later at (Pending until) received stands kept before is =
    elim (nat_lt until day) as (λ b. Leaves journal i at (brought_by_extension journal m i (cond b (answer.TooLate until) (cond (nat_lt until later) (answer.Extended later) (answer.NotLater until))))) [
      | true ↦ none_leave journal i at kept
      | false ↦ elim (nat_lt until later) as (λ b. Leaves journal i at (brought_by_extension journal m i (cond b (answer.Extended later) (answer.NotLater until)))) [
        | true ↦ let it = found journal m i at until received stands kept before is in wait_leaves journal m it.filing i later at it.deals it.earlier it.names_earlier
        | false ↦ none_leave journal i at kept
      ]
    ]
extension_in_state journal m i day later at NotPending received stands kept before is = none_leave journal i at kept

pub extension_leaves : (journal : List Receipt) (i m days : ℕ) (at : Key → List Entry) → IsJournal journal → Kept journal at → AreEarlier i at (keys_of_named journal i m) → option_map (λ r. r.item) (receipt_at journal i) ≡ Some (item.Extend m days)
    → Leaves journal i at (extension_brought journal m days i at)
extension_leaves journal i m days at stands kept before is =
    extension_in_state journal m i (day_of journal i) (deadline_after days (day_of journal i)) at (state_of journal m i at) (there_is (receipt_at journal i) (item.Extend m days) is) stands kept before refl
