use Rattle.std.proofs.Common.{◌∙◌, ap, cond, is_none, min, sym, subst, arith}
use Rattle.folio_sections.specs.inner.Waiters.{IsMark, lacks_notice, waits}
use Rattle.folio_sections.proofs.SweptFilings.{lower_mark, mark_low, mark_put}
use Rattle.folio_sections.proofs.waiters.Waiters.set_to_wait.Goals as goal

pub returns-clause-order : goal.returns-clause-order
returns-clause-order c =
    let is = c.args.self.now in
    let order = c.requires.order in
    let put = c.put-index.ensures in
    let xs = is.until.items in
    let ys = c.put-index.new.list.items in
    let lacks = lacks_notice is.notices.items in
    let i = c.put-index.result in
    let is_lacking = is_none c.notice-notice.result in
    let noticed = cond is_lacking (min is.noticed i) is.noticed in
    let passed = min is.passed i in
    record {
      until = put.order;
      notices = order.notices;
      passed = subst (λ n. IsMark waits n ys) (sym c.min-self.ensures)
          (mark_put waits is.passed passed xs ys (omega arith) order.passed put.longer (λ all. put.first waits passed all (λ less. absurd (omega (arith, less)))));
      noticed = subst (λ n. IsMark lacks n ys) (sym c.mark_behind-self.ensures)
          (mark_put lacks is.noticed noticed xs ys (mark_low is_lacking is.noticed i) order.noticed put.longer
          (λ all. put.first lacks noticed all (λ less. ap is_none (sym c.notice-notice.ensures) ∙ lower_mark is_lacking is.noticed i less)));
    }
