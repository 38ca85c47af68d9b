-- A chain from the end back: the first that it finds is the last that waits.
use Rattle.std.proofs.Common.{rules, ◌∙◌, ap, option_map}
use Rattle.std.proofs.lemmas.Iterator.Adapters.{YieldsList-from_rev_slice}
use Rattle.std.proofs.lemmas.Iterator.Search.{find_from_yields_List}
use Rattle.folio_sections.specs.inner.Waiters.{waits}
use Rattle.folio_sections.proofs.FirstWaiters.{found_last}
use Rattle.folio_sections.proofs.waiters.last_waiting.Goals as goal

pub returns : goal.returns
returns c =
    let xs = c.args.list.now in
    let found = find_from_yields_List waits _ _ c.find.result c.find.ensures.ran (YieldsList-from_rev_slice xs (search rules)) (λ x b q called. search rules) in
    search rules ∙ ap (option_map (λ x. x.filing)) (found ∙ found_last waits xs)
