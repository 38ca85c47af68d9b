use Rattle.std.proofs.Common.{subst}
use Rattle.journal_disk.specs.inner.Heading.{FoundIn}
use Rattle.journal_disk.proofs.Keeping.{making_keeps}
use Rattle.journal_disk.proofs.Refusing.{refused_at_exit}
use Rattle.journal_disk.proofs.logs.open_synced.Goals as goal

pub returns-in_err-make-in-Unmade-clause-any_moment :
    goal.returns-in_err-make-in-Unmade-clause-any_moment
returns-in_err-make-in-Unmade-clause-any_moment g c = λ yes.
    let unmade = (subst (FoundIn (g.D.Disk.reads c.args.disk.now)) c.in-Unmade.is (c.in_ok-begun.ensures.found yes)).0 in
    making_keeps g.D.Disk.reads g.D.Disk.images g.D.Disk.moment g.D.Disk.since _ _ _ (c.requires yes) (c.find.ensures.reads yes) unmade (c.make.ensures.any_moment yes)

pub returns-in_ok-make-in-Unmade-clause-any_moment :
    goal.returns-in_ok-make-in-Unmade-clause-any_moment
returns-in_ok-make-in-Unmade-clause-any_moment g c = λ yes.
    let unmade = (subst (FoundIn (g.D.Disk.reads c.args.disk.now)) c.in-Unmade.is (c.in_ok-begun.ensures.found yes)).0 in
    making_keeps g.D.Disk.reads g.D.Disk.images g.D.Disk.moment g.D.Disk.since _ _ _ (c.requires yes) (c.find.ensures.reads yes) unmade (c.make.ensures.any_moment yes)

pub returns-in_err-gate-in-Made-clause-refused :
    goal.returns-in_err-gate-in-Made-clause-refused
returns-in_err-gate-in-Made-clause-refused g c = λ yes.
    refused_at_exit c.from_residual-in_err-gate-in-Made.result _ _ c.in_err-gate-in-Made.field-0.0 c.from_residual-in_err-gate-in-Made.ensures.1 (c.find.ensures.reads yes).same (c.in_err-gate-in-Made.ensures.answer yes)
