use Rattle.std.proofs.Common.{sym, ap, ◌∙◌}
use Rattle.std.specs.Option.{option_copied}
use Rattle.consent_rules.proofs.HeldLemmas.{docs_are, judged_by, parts_of_filing}
use Rattle.consent_rules.proofs.judging.judge.Goals as goal

pub judge_acts-requires : goal.judge_acts-requires
judge_acts-requires g c = record {
  held = parts_of_filing (g.P.Parts.holds c.args.parts.now) (g.P.Parts.at c.args.parts.now) c.args.journal.now.receipts c.args.filing
      c.unwrap-found.result.now (sym c.filing_at.ensures.value ∙ ap option_copied c.unwrap-found.ensures) c.requires.held c.requires.exchanges;
}

pub returns : goal.returns
returns g c =
    judged_by c.args.journal.now.receipts c.args.filing c.args.upto (g.P.Parts.at c.args.parts.now) c.unwrap-found.result.now _
    c.judge_acts.result (sym c.filing_at.ensures.value ∙ ap option_copied c.unwrap-found.ensures) (docs_are _) c.judge_acts.ensures
