use Rattle.std.proofs.Common.{◌≡◌, ℕ, ◌++◌, codes, map, sym, ap, ◌∙◌}
use Rattle.std.specs.String.{string_bytes}
use Rattle.folio_sections.specs.Held.{entries_at}
use Rattle.registrar.specs.declared.verdicts.Verdict.{Verdict}
use Rattle.folio_extract.specs.Summaries.{amount_line, summary_text}
use Rattle.folio_extract.proofs.SummaryTold.{summary_is, without_numbers}
use Rattle.folio_extract.proofs.summaries.whole_summary.Goals as goal

pub returns : goal.returns
returns c =
    let at = entries_at c.args.register.now.parts in
    let folios = c.args.register.now.folios in
    let read = c.verdicts-verdicts.result.now in
    let same = sym (without_numbers 1 read) ∙ ap (map (λ (v : ℕ × Verdict). v.1)) c.verdicts-verdicts.ensures.value in
    let bytes : c.into_bytes.result.items ≡ string_bytes c.add_amount.new.text = λ i. (c.into_bytes.ensures.value i).items in
    bytes
    ∙ summary_is read at folios _ _ _ _ _ c.new-text.ensures.bytes c.in_ok-add_decided.ensures c.in_ok-add_others.ensures c.in_ok-add_standing.ensures
    (c.in_ok-add_amount.ensures ∙ ap (λ n. string_bytes c.add_standing.new.text ++ amount_line (codes "paid ") n) c.paid.ensures)
    ∙ ap (λ verdicts. summary_text verdicts at folios) same
