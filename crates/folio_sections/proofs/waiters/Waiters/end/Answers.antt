use Rattle.std.proofs.Common.{refl, arith}
use Rattle.folio_sections.specs.inner.Waiters.{lacks_notice, waits}
use Rattle.folio_sections.proofs.SweptFilings.{mark_put}
use Rattle.folio_sections.proofs.waiters.Waiters.end.Goals as goal

pub returns-clause-order : goal.returns-clause-order
returns-clause-order c =
    let is = c.args.self.now in
    let order = c.requires.order in
    let put = c.put.ensures in
    record {
      until = put.order;
      notices = order.notices;
      passed = mark_put waits is.passed is.passed is.until.items c.put.new.list.items (omega arith) order.passed put.longer (λ all. put.first waits is.passed all (λ less. refl));
      noticed = mark_put (lacks_notice is.notices.items) is.noticed is.noticed is.until.items c.put.new.list.items (omega arith) order.noticed put.longer
          (λ all. put.first (lacks_notice is.notices.items) is.noticed all (λ less. refl));
    }
