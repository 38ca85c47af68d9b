-- The case has no more registrations than are asked for.
use Rattle.std.proofs.Common.{filter_map, option_and_then, ◌∙◌}
use Rattle.std.proofs.lemmas.List.{take_all}
use Rattle.act_model.specs.Receiving.{item_at}
use Rattle.auction_classes.specs.Sales.{registered_by}
use Rattle.auction_classes.specs.inner.Findings.{is_late_by}
use Rattle.auction_classes.proofs.findings.registrations_found.Goals as goal

pub returns : goal.returns
returns c =
    let all = c.deref.ensures.0 ∙ c.registered.ensures ∙ take_all _ _ c.requires.registrations in
    let called = c.number_called-called.ensures in
    c.registrations_among.ensures
    ∙ (λ i. filter_map (λ n. option_and_then (registered_by (is_late_by (called i) n)) (item_at c.args.journal.now.receipts n)) (all i))
