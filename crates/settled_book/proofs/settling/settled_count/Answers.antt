use Rattle.std.proofs.Common.{length, sym, ap, ◌∙◌}
use Rattle.std.proofs.lemmas.List.FromFn.{length-enumerate_from}
use Rattle.settled_book.proofs.settling.settled_count.Goals as goal

pub returns : goal.returns
returns c = sym (length-enumerate_from 1 c.verdicts.result.now) ∙ ap length c.verdicts.ensures.value
