use Rattle.std.proofs.Common.{◌∙◌, ap, find}
use Rattle.folio_sections.specs.Waiting.{is_above, waiting_before}
use Rattle.folio_sections.proofs.FirstWaiters.{first_waiting}
use Rattle.folio_sections.proofs.entry_list.EntryList.next_pending.Goals as goal

pub returns : goal.returns
returns c =
    let go = c.self.invariant.0 in
    c.next_pending.ensures ∙ first_waiting c.args.after c.args.filing c.self.inside.waiters.until.items c.self.inside.waiters.notices.items c.self.inside.entries.items go.order.until go.say
    ∙ ap (λ v. find (is_above c.args.after) (waiting_before c.args.filing v.entries)) c.self.view_is
