use Rattle.std.proofs.Common.{◌≡◌, ◌∙◌, [], false, nat_lt, if◌then◌else◌, sym, ap, arith}
use Rattle.std.proofs.lemmas.Bool.Decides.{nat_tests}
use Rattle.act_model.specs.Touches.{in_key_order, keys_of_filing}
use Rattle.act_model.proofs.KeyOrder.{placed_in_order}
use Rattle.conflict_queue.proofs.touched.keys_of_named.Goals as goal

pub returns-else-lt : goal.returns-else-lt
returns-else-lt c =
    let later : nat_lt c.args.filing c.args.n ≡ false = grind (arith, nat_tests, c.if-lt.false, c.lt.ensures) in
    c.new.ensures.items ∙ placed_in_order []
    ∙ sym (ap (λ b. in_key_order (if b then keys_of_filing c.args.journal.now.receipts c.args.filing else [])) later)
