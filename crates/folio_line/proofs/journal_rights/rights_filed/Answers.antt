use Rattle.std.proofs.Common.{None, Some}
use Rattle.folio_line.proofs.AllRights.{these_are_all}
use Rattle.folio_line.proofs.journal_rights.rights_filed.Goals as goal

pub returns-in-Some-clause-all : goal.returns-in-Some-clause-all
returns-in-Some-clause-all c at kept =
    these_are_all (Some c.in-Some.receipt) c.args.before c.earlier_rights.result.now c.args.journal.now.receipts at c.args.folio c.in-Some.is c.earlier_rights.ensures kept

pub returns-in-None-clause-all : goal.returns-in-None-clause-all
returns-in-None-clause-all c at kept =
    these_are_all None c.args.before c.first_rights.result.now c.args.journal.now.receipts at c.args.folio c.in-None.is c.first_rights.ensures kept
