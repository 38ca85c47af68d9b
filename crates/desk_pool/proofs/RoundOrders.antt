-- The orders in which a round is settled.
use Rattle.std.proofs.Common.{◌≡◌, ℕ, List, sym, subst}
use Rattle.act_model.specs.declared.receipts.Receipt.{Receipt}
use Rattle.conflict_queue.specs.Schedules.{IsPermitted}

-- an order that is permitted for the named journal is permitted for the journal that is lent
pub permitted_so : (journal lent : List Receipt) (order taken : List ℕ) → lent ≡ journal → taken ≡ order → IsPermitted journal order → IsPermitted lent taken
permitted_so journal lent order taken named same permitted =
    subst (λ o. IsPermitted lent o) (sym same) (subst (λ j. IsPermitted j order) (sym named) permitted)
