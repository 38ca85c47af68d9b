use Rattle.std.proofs.Common.{length, ◌∙◌, sym, ap, subst}
use Rattle.std.proofs.lemmas.Bool.{eqb-true}
use Rattle.desk_pool.proofs.FolioSteps.{stands_when_done}
use Rattle.desk_pool.specs.FolioStates.{FolioState, IsBehindLock}
use Rattle.desk_pool.proofs.locked_folios.LockedFolio.is_done.Goals as goal

pub returns-clause-whole : goal.returns-clause-whole
returns-clause-whole g c = λ is queue.
    let journal = g.N.JournalName.receipts in
    let all = ap (λ (s : FolioState). s.taken) (sym c.self.view_is) ∙ eqb-true c.self.inside.taken (length c.args.queue.now) is ∙ ap length queue in
    stands_when_done journal c.args.self.now (subst (IsBehindLock journal) c.self.view_is c.self.invariant) (c.empty_register_is_kept.ensures.kept journal) all
