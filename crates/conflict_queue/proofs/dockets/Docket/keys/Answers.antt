use Rattle.std.proofs.Common.{◌∙◌, ◌-◌, slice_get, sym, ap, arith}
use Rattle.conflict_queue.proofs.Numbered.{docket_at}
use Rattle.conflict_queue.proofs.dockets.Docket.keys.Goals as goal

pub returns-clause-touched : goal.returns-clause-touched
returns-clause-touched c = λ journal is.
    let positive = c.get.ensures.positive in
    docket_at journal c.args.self.now c.get-2.result.now c.args.i is (omega arith) c.requires
    (sym (ap (λ d. slice_get d (c.args.i - 1)) c.self.view_is) ∙ sym (ap (λ k. slice_get c.self.inside.keys (k - 1)) c.get.ensures.value) ∙ c.get-2.ensures)
