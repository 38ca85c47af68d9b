use Rattle.std.proofs.Common.{◌≡◌, ◌+◌, ◌-◌, Some, ◌∙◌, sym, ap, subst}
use Rattle.folio_sections.specs.Entries.{at}
use Rattle.registrar.specs.HasSettled.{settled_first}
use Rattle.registrar.specs.RegisterState.{verdict_among}
use Rattle.registrar.specs.Settling.{registrar}
use Rattle.desk_pool.proofs.FolioSteps.{IsReady, behind_its_step, ready_named}
use Rattle.desk_pool.proofs.Settling.{verdict_said}
use Rattle.desk_pool.specs.FolioStates.{FolioState, scratch_of}
use Rattle.desk_pool.proofs.locked_folios.LockedFolio.settle.Goals as goal

-- the folio before the step, as the step's goals have it
abbrev ahead : (g : _) (c : goal.After-step_in_own-arg-3-1 g) → FolioState
ahead g c = record { folio = c.self.inside.folio; taken = c.self.inside.taken; parts = c.self.inside.parts; scratch = scratch_of c.self.inside.scratch }

ready : (g : _) (c : goal.After-step_in_own-arg-3-1 g) → IsReady c.args.journal.now.receipts (ahead g c) c.args.item
ready g c =
    ready_named g.N.JournalName.receipts c.args.journal.now.receipts (ahead g c) c.args.self.now c.args.queue.now c.args.item c.requires.named c.self.invariant
    (c.empty_register_is_kept.ensures.kept g.N.JournalName.receipts) c.self.view_is c.requires.queue c.in_ok-taken.ensures.next c.requires.own

pub step_in_own-verdict-requires-clause-received : goal.step_in_own-verdict-requires-clause-received
step_in_own-verdict-requires-clause-received g c = (ready g c).turn.high

pub step_in_own-verdict-requires-clause-held : goal.step_in_own-verdict-requires-clause-held
step_in_own-verdict-requires-clause-held g c = (ready g c).held

pub step_in_own-verdict-requires-clause-room : goal.step_in_own-verdict-requires-clause-room
step_in_own-verdict-requires-clause-room g c = (ready g c).can.wide

pub step_in_own-verdict-requires-clause-scratch : goal.step_in_own-verdict-requires-clause-scratch
step_in_own-verdict-requires-clause-scratch g c = (ready g c).scratch

pub step_in_own-verdict-requires-clause-kept : goal.step_in_own-verdict-requires-clause-kept
step_in_own-verdict-requires-clause-kept g c = (ready g c).can.kept

pub step_in_own-verdict-requires-clause-earlier : goal.step_in_own-verdict-requires-clause-earlier
step_in_own-verdict-requires-clause-earlier g c = (ready g c).can.earlier

-- the folio before the step, as the goals of what it leaves have it
abbrev before : (g : _) (c : goal.After-self-1 g) → FolioState
before g c = record { folio = c.self.inside.folio; taken = c.self.inside.taken; parts = c.self.inside.parts; scratch = scratch_of c.self.inside.scratch }

was_ready : (g : _) (c : goal.After-self-1 g) → IsReady c.args.journal.now.receipts (before g c) c.args.item
was_ready g c =
    ready_named g.N.JournalName.receipts c.args.journal.now.receipts (before g c) c.args.self.now c.args.queue.now c.args.item c.requires.named c.self.invariant
    (c.empty_register_is_kept.ensures.kept g.N.JournalName.receipts) c.self.view_is c.requires.queue c.in_ok-taken.ensures.next c.requires.own

pub invariant_of-self : goal.invariant_of-self
invariant_of-self g c =
    let was = was_ready g c in
    behind_its_step g.N.JournalName.receipts c.args.journal.now.receipts (before g c) c.args.item c.in_ok-taken.taken c.step_in_own-verdict.new.parts (scratch_of c.step_in_own-verdict.new.own) c.requires.named was
    (c.in_ok-taken.ensures.count ∙ ap (λ (s : FolioState). s.taken + 1) (sym c.self.view_is)) c.step_in_own-verdict.ensures.held
    (c.step_in_own-verdict.ensures.added (at (settled_first c.args.journal.now.receipts (c.args.item - 1)).entries) was.there was.kept) (ap scratch_of c.step_in_own-verdict.ensures.own)

pub returns-clause-verdict : goal.returns-clause-verdict
returns-clause-verdict g c =
    let was = was_ready g c in
    let journal = c.args.journal.now.receipts in
    subst (λ j. verdict_among (registrar j).verdicts c.args.item ≡ Some c.step_in_own-verdict.result) c.requires.named
    (verdict_said journal c.args.item c.step_in_own-verdict.result was.behind.numbered (c.empty_register_is_kept.ensures.kept journal) was.turn.low was.turn.high
    (c.step_in_own-verdict.ensures.verdict (at (settled_first journal (c.args.item - 1)).entries) was.there was.kept))
