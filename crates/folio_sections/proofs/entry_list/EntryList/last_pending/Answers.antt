use Rattle.std.proofs.Common.{◌∙◌, None, ap}
use Rattle.std.specs.List.{last_or}
use Rattle.folio_sections.specs.Waiting.{waiting_before}
use Rattle.folio_sections.proofs.FirstWaiters.{last_waiting}
use Rattle.folio_sections.proofs.entry_list.EntryList.last_pending.Goals as goal

pub returns : goal.returns
returns c =
    let go = c.self.invariant.0 in
    c.last_pending.ensures ∙ last_waiting c.args.filing c.self.inside.waiters.until.items c.self.inside.waiters.notices.items c.self.inside.entries.items go.order.until go.say
    ∙ ap (λ v. last_or None (waiting_before c.args.filing v.entries)) c.self.view_is
