use Rattle.std.proofs.Common.{◌≡◌, ◌+◌, ◌-◌, Some, ◌∙◌, refl, sym, ap, subst}
use Rattle.folio_sections.specs.Entries.{at}
use Rattle.registrar.specs.HasSettled.{settled_first}
use Rattle.registrar.specs.RegisterState.{verdict_among}
use Rattle.registrar.specs.Settling.{registrar}
use Rattle.desk_pool.proofs.PairSteps.{AreBehind, ArePairReady, pair_behind, pair_of, pair_ready_named}
use Rattle.desk_pool.proofs.Settling.{verdict_said}
use Rattle.desk_pool.specs.FolioStates.{FolioState, scratch_of}
use Rattle.desk_pool.proofs.locked_folios.LockedFolio.settle_both.Goals as goal

-- ---- before the first exchange

abbrev first_there : (g : _) (c : goal.After-swap-arg-3-1 g) → FolioState
first_there g c = record { folio = c.first.inside.folio; taken = c.first.inside.taken; parts = c.first.inside.parts; scratch = scratch_of c.first.inside.scratch }

abbrev second_there : (g : _) (c : goal.After-swap-arg-3-1 g) → FolioState
second_there g c = record { folio = c.second.inside.folio; taken = c.second.inside.taken; parts = c.second.inside.parts; scratch = scratch_of c.second.inside.scratch }

pub swap-requires : goal.swap-requires
swap-requires g c =
    let names = g.N.JournalName.receipts in
    record {
      apart = (pair_ready_named names names (first_there g c) (second_there g c) c.args.first.now c.args.second.now (pair_of (first_there g c) (second_there g c)) c.args.first_queue.now c.args.second_queue.now c.args.item refl
          c.first.invariant c.second.invariant (c.empty_register_is_kept.ensures.kept names) c.first.view_is c.second.view_is c.requires.in_order c.requires.first_queue c.requires.second_queue
          c.in_ok-first_taken.ensures.next c.in_ok-second_taken.ensures.next c.requires.own refl).apart;
    }

-- ---- before the step

abbrev first_ahead : (g : _) (c : goal.After-step_in_own-arg-3-1 g) → FolioState
first_ahead g c = record { folio = c.first.inside.folio; taken = c.first.inside.taken; parts = c.first.inside.parts; scratch = scratch_of c.first.inside.scratch }

abbrev second_ahead : (g : _) (c : goal.After-step_in_own-arg-3-1 g) → FolioState
second_ahead g c = record { folio = c.second.inside.folio; taken = c.second.inside.taken; parts = c.second.inside.parts; scratch = scratch_of c.second.inside.scratch }

ready : (g : _) (c : goal.After-step_in_own-arg-3-1 g) → ArePairReady c.args.journal.now.receipts (first_ahead g c) (second_ahead g c) c.swap.new.self c.args.item
ready g c =
    let names = g.N.JournalName.receipts in
    pair_ready_named names c.args.journal.now.receipts (first_ahead g c) (second_ahead g c) c.args.first.now c.args.second.now c.swap.new.self c.args.first_queue.now c.args.second_queue.now c.args.item c.requires.named
    c.first.invariant c.second.invariant (c.empty_register_is_kept.ensures.kept names) c.first.view_is c.second.view_is c.requires.in_order c.requires.first_queue c.requires.second_queue
    c.in_ok-first_taken.ensures.next c.in_ok-second_taken.ensures.next c.requires.own c.swap.ensures.pair

pub step_in_own-verdict-requires-clause-received : goal.step_in_own-verdict-requires-clause-received
step_in_own-verdict-requires-clause-received g c = (ready g c).turn_one.high

pub step_in_own-verdict-requires-clause-held : goal.step_in_own-verdict-requires-clause-held
step_in_own-verdict-requires-clause-held g c = (ready g c).held

pub step_in_own-verdict-requires-clause-room : goal.step_in_own-verdict-requires-clause-room
step_in_own-verdict-requires-clause-room g c = (ready g c).can.wide

pub step_in_own-verdict-requires-clause-scratch : goal.step_in_own-verdict-requires-clause-scratch
step_in_own-verdict-requires-clause-scratch g c = (ready g c).scratch

pub step_in_own-verdict-requires-clause-kept : goal.step_in_own-verdict-requires-clause-kept
step_in_own-verdict-requires-clause-kept g c = (ready g c).can.kept

pub step_in_own-verdict-requires-clause-earlier : goal.step_in_own-verdict-requires-clause-earlier
step_in_own-verdict-requires-clause-earlier g c = (ready g c).can.earlier

-- ---- after the step

abbrev first_before : (g : _) (c : goal.After-second-1 g) → FolioState
first_before g c = record { folio = c.first.inside.folio; taken = c.first.inside.taken; parts = c.first.inside.parts; scratch = scratch_of c.first.inside.scratch }

abbrev second_before : (g : _) (c : goal.After-second-1 g) → FolioState
second_before g c = record { folio = c.second.inside.folio; taken = c.second.inside.taken; parts = c.second.inside.parts; scratch = scratch_of c.second.inside.scratch }

was_ready : (g : _) (c : goal.After-second-1 g) → ArePairReady c.args.journal.now.receipts (first_before g c) (second_before g c) c.swap.new.self c.args.item
was_ready g c =
    let names = g.N.JournalName.receipts in
    pair_ready_named names c.args.journal.now.receipts (first_before g c) (second_before g c) c.args.first.now c.args.second.now c.swap.new.self c.args.first_queue.now c.args.second_queue.now c.args.item c.requires.named
    c.first.invariant c.second.invariant (c.empty_register_is_kept.ensures.kept names) c.first.view_is c.second.view_is c.requires.in_order c.requires.first_queue c.requires.second_queue
    c.in_ok-first_taken.ensures.next c.in_ok-second_taken.ensures.next c.requires.own c.swap.ensures.pair

behind : (g : _) (c : goal.After-second-1 g)
    → AreBehind g.N.JournalName.receipts (first_before g c) (second_before g c) c.in_ok-first_taken.first_taken c.in_ok-second_taken.second_taken c.swap-2.new.first c.swap-2.new.second (scratch_of c.step_in_own-verdict.new.own)
behind g c =
    let was = was_ready g c in
    pair_behind g.N.JournalName.receipts c.args.journal.now.receipts (first_before g c) (second_before g c) c.args.item c.in_ok-first_taken.first_taken c.in_ok-second_taken.second_taken c.swap.new.self c.step_in_own-verdict.new.parts
    c.swap-2.new.first c.swap-2.new.second (scratch_of c.step_in_own-verdict.new.own) c.requires.named was
    (c.in_ok-first_taken.ensures.count ∙ ap (λ (s : FolioState). s.taken + 1) (sym c.first.view_is)) (c.in_ok-second_taken.ensures.count ∙ ap (λ (s : FolioState). s.taken + 1) (sym c.second.view_is))
    c.swap-2.ensures.first c.swap-2.ensures.second c.swap-2.ensures.apart c.step_in_own-verdict.ensures.held
    (c.step_in_own-verdict.ensures.added (at (settled_first c.args.journal.now.receipts (c.args.item - 1)).entries) was.there was.kept) (ap scratch_of c.step_in_own-verdict.ensures.own)

pub invariant_of-first : goal.invariant_of-first
invariant_of-first g c = (behind g c).one

pub invariant_of-second : goal.invariant_of-second
invariant_of-second g c = (behind g c).other

pub returns-clause-verdict : goal.returns-clause-verdict
returns-clause-verdict g c =
    let was = was_ready g c in
    let journal = c.args.journal.now.receipts in
    subst (λ j. verdict_among (registrar j).verdicts c.args.item ≡ Some c.step_in_own-verdict.result) c.requires.named
    (verdict_said journal c.args.item c.step_in_own-verdict.result was.one.numbered (c.empty_register_is_kept.ensures.kept journal) was.turn_one.low was.turn_one.high
    (c.step_in_own-verdict.ensures.verdict (at (settled_first journal (c.args.item - 1)).entries) was.there was.kept))
