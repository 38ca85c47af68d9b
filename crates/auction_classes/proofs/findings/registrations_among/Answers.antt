-- One more is read.
use Rattle.std.proofs.Common.{◌∷◌, ◌++◌, [], filter_map, option_and_then, take, sym, ap, ◌∙◌}
use Rattle.std.proofs.lemmas.List.{take_more}
use Rattle.act_model.specs.Receiving.{item_at}
use Rattle.auction_classes.specs.Sales.{registered_by}
use Rattle.auction_classes.specs.inner.Findings.{is_late_by}
use Rattle.auction_classes.proofs.FoundSoFar.{one_more}
use Rattle.auction_classes.proofs.findings.registrations_among.Goals as goal

pub loop-n-preserved : goal.loop-n-preserved
loop-n-preserved c =
    let xs = c.args.numbers.now in
    let i = c.loop-n.n-index in
    let n = c.n-item.result in
    let more = take_more xs i n c.loop-n-test.true ∙ ap (λ m. take i xs ++ m ∷ []) (sym c.n-item.is) in
    let before = c.loop-n.registrations.items in
    let put = c.add_registration.ensures ∙ ap (λ late. before ++ filter_map (λ m. option_and_then (registered_by late) (item_at c.args.journal.now.receipts m)) (n ∷ [])) c.is_late_by.ensures in
    one_more (λ m. option_and_then (registered_by (is_late_by c.args.called.now m)) (item_at c.args.journal.now.receipts m)) xs i n _ _ more c.loop-n.invariant put
