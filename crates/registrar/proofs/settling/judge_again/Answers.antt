use Rattle.std.proofs.Common.{Bor, Option, Some, None, IsSome, sym, subst, ◌∙◌}
use Rattle.std.specs.Option.{option_copied}
use Rattle.registrar.proofs.WaitingStates.{waiting_is_a_filing}
use Rattle.registrar.proofs.settling.judge_again.Goals as goal

-- an option has a value where its copy has one
lent : {T : Type 0} (o : Option (Bor T)) → IsSome (option_copied o) → IsSome o
lent (Some x) there = there
lent None there = there

pub unwrap-requires : goal.unwrap-requires
unwrap-requires g c =
    lent c.filing_at.result (subst IsSome (sym c.filing_at.ensures.value)
    (waiting_is_a_filing c.args.journal.now.receipts c.args.filing c.args.item (g.P.Parts.at c.args.parts.now) c.in-Pending.until (sym c.state.ensures.value ∙ c.in-Pending.is)))

pub judge-judgement-requires-clause-filing : goal.judge-judgement-requires-clause-filing
judge-judgement-requires-clause-filing g c =
    waiting_is_a_filing c.args.journal.now.receipts c.args.filing c.args.item (g.P.Parts.at c.args.parts.now) c.in-Pending.until (sym c.state.ensures.value ∙ c.in-Pending.is)

pub judge-judgement-requires-clause-exchanges : goal.judge-judgement-requires-clause-exchanges
judge-judgement-requires-clause-exchanges g c = c.requires.exchanges c.in-Pending.until (sym c.state.ensures.value ∙ c.in-Pending.is)
