-- A filing was received, so its stamp day is one of the range.
use Rattle.std.proofs.Common.{ℕ, true, List, Option, Some, None, IsSome, option_and_then, refl}
use Rattle.act_model.specs.Receiving.{receipt_at}
use Rattle.act_model.specs.Touches.{filing_at, filing_in}
use Rattle.act_model.specs.declared.receipts.Receipt.{Receipt}
use Rattle.interim_orders.proofs.orders.open_order.Goals as goal

received : (journal : List Receipt) (m : ℕ) → IsSome (filing_at journal m) → IsSome (receipt_at journal m)
received journal m some = by (receipt_at journal m) some
  where
    by : (o : Option Receipt) → IsSome (option_and_then (λ r. filing_in r.item) o) → IsSome o
    by None some = absurd cc
    by (Some r) some = refl {a = true}

pub deadline-until-requires : goal.deadline-until-requires
deadline-until-requires g c = c.day_of.ensures.stamp_day (received c.args.journal.now.receipts c.args.filing c.requires.filing)
