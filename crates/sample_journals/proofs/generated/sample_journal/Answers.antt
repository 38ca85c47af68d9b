-- All folios are opened, and then one more receipt is drawn at a time.
use Rattle.std.proofs.Common.{◌≡◌, ◌+◌, IfSome, refl, subst, arith}
use Rattle.sample_journals.proofs.Drawing.{draws_on, opened}
use Rattle.sample_journals.proofs.generated.sample_journal.Goals as goal

pub loop-n-init : goal.loop-n-init
loop-n-init c =
    opened c.args.seed c.args.size _ c.open_folios.new.journal.receipts c.in_ok-folios.folios.items c.new-generator.result
    refl c.in_ok-folios.ensures.receipts c.in_ok-folios.ensures.first c.in_ok-folios.ensures.folios c.new-generator.ensures

pub loop-n-preserved : goal.loop-n-preserved
loop-n-preserved c =
    let number = subst (λ o. IfSome o (λ k. k ≡ c.loop-n.n + 1)) c.unwrap-k.ensures c.new.ensures.value in
    draws_on c.args.seed c.args.size c.loop-n.n c.unwrap-k.result c.loop-n.journal.receipts c.receive.new.journal.receipts c.loop-n.generator c.next_item-item.new.self c.next_item-item.result
    c.loop-n.invariant (omega (arith, c.loop-n-test.true)) number c.next_item-item.ensures.item c.next_item-item.ensures.generator
    c.next_item-item.ensures.before c.in_ok-receive.ensures.receipts c.in_ok-receive.ensures.first
