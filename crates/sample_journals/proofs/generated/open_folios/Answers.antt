-- One more folio is opened.
use Rattle.std.proofs.Common.{◌≡◌, ◌+◌, IfSome, subst}
use Rattle.sample_journals.proofs.Drawing.{opens_on}
use Rattle.sample_journals.proofs.generated.open_folios.Goals as goal

pub loop-n-preserved : goal.loop-n-preserved
loop-n-preserved c =
    let number = subst (λ o. IfSome o (λ k. k ≡ c.loop-n.n + 1)) c.unwrap.ensures c.new-in-loop-n.ensures.value in
    let named = subst (λ o. IfSome o (λ folio. folio ≡ c.loop-n.n + 1)) c.unwrap-folio.ensures c.new.ensures.value in
    let all = opens_on c.loop-n.n c.unwrap.result c.unwrap-folio.result c.loop-n.journal.receipts c.receive.new.journal.receipts c.loop-n.folios.items c.add_folio.new.folios.items c.opening.result
    c.loop-n.invariant.receipts c.loop-n.invariant.folios number named c.opening.ensures
    c.in_ok-receive.ensures.receipts c.in_ok-add_folio.ensures c.in_ok-receive.ensures.first in
    record { receipts = all.0; first = all.1; folios = all.2 }
