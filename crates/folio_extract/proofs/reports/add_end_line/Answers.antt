use Rattle.std.proofs.Common.{◌++◌, length, sym, ap, ◌∙◌}
use Rattle.std.specs.String.{string_bytes}
use Rattle.std.proofs.lemmas.List.FromFn.{length-enumerate_from}
use Rattle.folio_extract.specs.Reports.{end_line}
use Rattle.folio_extract.proofs.reports.add_end_line.Goals as goal

pub returns : goal.returns
returns c =
    let receipts = sym (length-enumerate_from 1 c.verdicts.result.now) ∙ ap length c.verdicts.ensures.value in
    let folios = ap length c.folios.ensures.value in
    c.in_ok-writeln.ensures.bytes ∙ (λ i. string_bytes c.args.text.now ++ end_line (receipts i) (folios i))
