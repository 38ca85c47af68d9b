-- The case has no more seizures than are asked for.
use Rattle.std.proofs.Common.{filter_map, option_and_then, ap, ◌∙◌}
use Rattle.std.proofs.lemmas.List.{take_all}
use Rattle.act_model.specs.Receiving.{item_at}
use Rattle.auction_classes.specs.Sales.{seizure_by}
use Rattle.auction_classes.proofs.findings.seizures_found.Goals as goal

pub returns : goal.returns
returns c =
    let all = c.deref.ensures.0 ∙ c.seized.ensures ∙ take_all _ _ c.requires.seizures in
    c.seizures_among.ensures ∙ ap (filter_map (λ n. option_and_then seizure_by (item_at c.args.journal.now.receipts n))) all
