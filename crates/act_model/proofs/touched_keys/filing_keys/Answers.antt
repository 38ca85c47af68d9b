-- Keys that are put in their places are the filing's, in ascending order, each once.
use Rattle.std.proofs.Common.{[], ap, sym, ◌∙◌}
use Rattle.std.specs.Option.{option_copied}
use Rattle.act_model.specs.Touches.{keys_of_acts}
use Rattle.act_model.specs.inner.KeyInsertion.{with_keys}
use Rattle.act_model.proofs.KeyOrder.{filing_in_order, none_in_order}
use Rattle.act_model.proofs.touched_keys.filing_keys.Goals as goal

pub returns-in-Some : goal.returns-in-Some
returns-in-Some c =
    let journal = c.args.journal.now.receipts in
    filing_in_order journal c.args.m c.in-Some.filing.now c.keys_of_acts.result.items (sym c.filing_at.ensures.value ∙ ap option_copied c.in-Some.is)
    (c.keys_of_acts.ensures ∙ ap (λ acts. with_keys (keys_of_acts journal c.args.m 1 acts) []) c.list.ensures.value)

pub returns-in-None : goal.returns-in-None
returns-in-None c = c.new.ensures ∙ none_in_order c.args.journal.now.receipts c.args.m (sym c.filing_at.ensures.value ∙ ap option_copied c.in-None.is)
