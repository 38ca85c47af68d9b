use Rattle.std.proofs.Common.{◌++◌, sym, ap, ◌∙◌}
use Rattle.std.specs.String.{string_bytes}
use Rattle.folio_extract.specs.VerdictLines.{verdict_text}
use Rattle.folio_extract.proofs.verdict_lines.add_verdict.Goals as goal

pub returns-in_ok-add_amounts-in-BidTooLow : goal.returns-in_ok-add_amounts-in-BidTooLow
returns-in_ok-add_amounts-in-BidTooLow c =
    c.in_ok-add_amounts-in-BidTooLow.ensures ∙ ap (λ v. string_bytes c.args.text.now ++ verdict_text v) (sym c.in-BidTooLow.is)
