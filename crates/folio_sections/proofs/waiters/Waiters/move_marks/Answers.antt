-- The next so many from each mark on do not pass its test, so none before the place to which it moves does.
use Rattle.std.proofs.Common.{◌∙◌, ap, length, arith}
use Rattle.std.specs.List.{position_or_len}
use Rattle.folio_sections.specs.inner.Waiters.{lacks_notice, waits}
use Rattle.folio_sections.proofs.SweptFilings.{moved_mark}
use Rattle.folio_sections.proofs.waiters.Waiters.move_marks.Goals as goal

pub overflow_add-self : goal.overflow_add-self
overflow_add-self c =
    let passed = moved_mark waits _ _ _ _ _ c.count_ended_ahead-ended.ensures c.behind.ensures c.as_slice-until.ensures.value c.requires.order.passed in
    let all = ap length c.as_slice-until.ensures.value in
    omega (arith, passed.within, all, c.as_slice-until.type_inv.0)

pub overflow_add-self-2 : goal.overflow_add-self-2
overflow_add-self-2 c =
    let counted = c.count_noticed_ahead-noticed.ensures ∙ ap (λ ns. position_or_len (lacks_notice ns) c.behind-2.result.now) c.as_slice.ensures.value in
    let noticed = moved_mark (lacks_notice c.args.self.now.notices.items) _ _ _ _ _ counted c.behind-2.ensures c.as_slice-until.ensures.value c.requires.order.noticed in
    let all = ap length c.as_slice-until.ensures.value in
    omega (arith, noticed.within, all, c.as_slice-until.type_inv.0)

pub returns-clause-order : goal.returns-clause-order
returns-clause-order c =
    let counted = c.count_noticed_ahead-noticed.ensures ∙ ap (λ ns. position_or_len (lacks_notice ns) c.behind-2.result.now) c.as_slice.ensures.value in
    let passed = moved_mark waits _ _ _ _ _ c.count_ended_ahead-ended.ensures c.behind.ensures c.as_slice-until.ensures.value c.requires.order.passed in
    let noticed = moved_mark (lacks_notice c.args.self.now.notices.items) _ _ _ _ _ counted c.behind-2.ensures c.as_slice-until.ensures.value c.requires.order.noticed in
    record { until = c.requires.order.until; notices = c.requires.order.notices; passed = passed.is_mark; noticed = noticed.is_mark }
