use Rattle.std.proofs.Common.{◌∙◌, ap, get_or, sym}
use Rattle.folio_sections.proofs.Notices.{day_there, stands_not}
use Rattle.folio_sections.proofs.entry_list.EntryList.notice.Goals as goal

pub returns-in-Some : goal.returns-in-Some
returns-in-Some c =
    day_there c.args.filing c.args.self.now.entries c.in-Some.ahead c.index.result.now (sym c.ahead_of_notice.ensures ∙ c.in-Some.is)
    (c.index.ensures ∙ ap (λ v. get_or v.entries c.in-Some.ahead c.index.result.now) c.self.view_is)

pub returns-in-None : goal.returns-in-None
returns-in-None c = sym (stands_not c.args.filing c.args.self.now.entries (sym c.ahead_of_notice.ensures ∙ c.in-None.is))
