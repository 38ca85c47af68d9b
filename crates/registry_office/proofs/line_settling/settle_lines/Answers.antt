use Rattle.std.proofs.Common.{inl, inr, ⊎_elim, [], refl, sym, ap, ◌∙◌, Err}
use Rattle.std.proofs.lemmas.Result.{MatchResult-from_err}
use Rattle.intake.specs.Requests.{holding}
use Rattle.registry_office.proofs.Whole.{nothing_held, front_of_report, lacked_by, replies_of_input, replies_without_report, whole_output, handed_on, end_of_input, cut_of_input, part_of_input, read_part_of_input}
use Rattle.registry_office.proofs.line_settling.settle_lines.Goals as goal

pub returns-in_err-answer_lines-clause-part : goal.returns-in_err-answer_lines-clause-part
returns-in_err-answer_lines-clause-part g c =
    MatchResult-from_err c.from_residual.result _ _ c.from_residual.ensures.0
    (λ _. part_of_input _ _ _ _ _ _ _ (c.in_err-answer_lines.ensures.part (holding [] []) (nothing_held _ c.new-journal.ensures)))

pub returns-in_err-answer_lines-clause-read_part : goal.returns-in_err-answer_lines-clause-read_part
returns-in_err-answer_lines-clause-read_part g c =
    MatchResult-from_err c.from_residual.result _ _ c.from_residual.ensures.0
    (λ _ unended. read_part_of_input _ _ _ _ _ _ _ (c.in_err-answer_lines.ensures.part (holding [] []) (nothing_held _ c.new-journal.ensures)) unended)

pub returns-in_err-answer_lines-clause-replies_alone : goal.returns-in_err-answer_lines-clause-replies_alone
returns-in_err-answer_lines-clause-replies_alone g c =
    MatchResult-from_err c.from_residual.result _ _ c.from_residual.ensures.0
    (λ _ sound. replies_of_input _ _ _ _ _ _ _ (c.in_err-answer_lines.ensures.part (holding [] []) (nothing_held _ c.new-journal.ensures)))

pub returns-in_err-answer_lines-clause-short : goal.returns-in_err-answer_lines-clause-short
returns-in_err-answer_lines-clause-short g c = λ other.
    let same = handed_on c.from_residual.result (Err c.in_err-answer_lines.field-0.0) c.in_err-answer_lines.field-0.0 c.from_residual.ensures.1 refl in
    c.in_err-answer_lines.ensures.short (λ is. other (same ∙ is))

pub returns-in_err-answer_lines-clause-cut : goal.returns-in_err-answer_lines-clause-cut
returns-in_err-answer_lines-clause-cut g c = λ which.
    let same = handed_on c.from_residual.result (Err c.in_err-answer_lines.field-0.0) c.in_err-answer_lines.field-0.0 c.from_residual.ensures.1 refl in
    cut_of_input c.answer_lines.new.receiver.receipts _ _ _ _
    (c.in_err-answer_lines.ensures.cut (holding [] []) (nothing_held _ c.new-journal.ensures) (⊎_elim (λ is. inl (sym same ∙ is)) (λ is. inr (sym same ∙ is)) which))

pub returns-in_err-write_report-clause-part : goal.returns-in_err-write_report-clause-part
returns-in_err-write_report-clause-part g c =
    MatchResult-from_err c.from_residual-in_err-write_report.result _ _ c.from_residual-in_err-write_report.ensures.0
    (λ _. front_of_report c.answer_lines.new.receiver.receipts _ _ _ _ _ _ (c.in_ok-answer_lines.ensures.all (holding [] []) (nothing_held _ c.new-journal.ensures)) c.in_err-write_report.ensures.part)

pub returns-in_err-write_report-clause-replies_alone : goal.returns-in_err-write_report-clause-replies_alone
returns-in_err-write_report-clause-replies_alone g c =
    MatchResult-from_err c.from_residual-in_err-write_report.result _ _ c.from_residual-in_err-write_report.ensures.0
    (λ _ sound. replies_without_report c.answer_lines.new.receiver.receipts _ _ _ _ _ _ (c.in_ok-answer_lines.ensures.all (holding [] []) (nothing_held _ c.new-journal.ensures))
    (lacked_by c.from_residual-in_err-write_report.result c.in_err-write_report.field-0.0 _ c.from_residual-in_err-write_report.ensures.1 (λ lacked. c.in_err-write_report.ensures.unwritten (ap Err lacked)) sound))

pub returns-clause-output : goal.returns-clause-output
returns-clause-output g c =
    whole_output c.answer_lines.new.receiver.receipts _ _ _ _ _ _ (c.in_ok-answer_lines.ensures.all (holding [] []) (nothing_held _ c.new-journal.ensures)) c.in_ok-write_report.ensures.whole

pub returns-clause-at_end : goal.returns-clause-at_end
returns-clause-at_end g c =
    end_of_input (g.S.Source.left c.args.source.now) (g.S.Source.left c.answer_lines.new.source) c.in_ok-answer_lines.ensures.at_end
