use Rattle.std.proofs.Common.{inl, inr, ◌∙◌, subst}
use Rattle.journal_disk.specs.Layout.{the_heading}
use Rattle.journal_disk.specs.Opening as disk
use Rattle.receipt_journal.specs.Opening.{BookRefuses}
use Rattle.receipt_journal.proofs.Openings.{frames_refused}
use Rattle.receipt_journal.proofs.Placing.{at_exit}
use Rattle.receipt_journal.proofs.books.Book.open.Goals as goal

pub returns-in_err-take_records-in-Ok-clause-refused :
    goal.returns-in_err-take_records-in-Ok-clause-refused
returns-in_err-take_records-in-Ok-clause-refused g c = λ tells.
    let file = g.D.Disk.reads c.args.disk.now in
    let opened = c.in-Ok.ensures.opened tells in
    at_exit c.from_residual.result (BookRefuses file) _ c.from_residual.ensures.1
    (frames_refused file opened.bodies _ (inl opened.found) (c.in_err-take_records-in-Ok.ensures.refused opened.bodies (c.deref.ensures.value ∙ opened.frames_are)))

pub returns-in_err-take_records-in-Err-BadRecord-clause-refused :
    goal.returns-in_err-take_records-in-Err-BadRecord-clause-refused
returns-in_err-take_records-in-Err-BadRecord-clause-refused g c = λ tells.
    let file = g.D.Disk.reads c.args.disk.now in
    let refused = subst (disk.LogRefuses the_heading file) c.in-Err-BadRecord.field-0-is (c.in-Err-BadRecord.ensures.refused tells) in
    at_exit c.from_residual-in_err-take_records-in-Err-BadRecord.result (BookRefuses file) _ c.from_residual-in_err-take_records-in-Err-BadRecord.ensures.1
    (frames_refused file refused.0.0 _ (inr refused.0.1) (c.in_err-take_records-in-Err-BadRecord.ensures.refused refused.0.0 (c.deref-in-Err-BadRecord.ensures.value ∙ refused.1)))
