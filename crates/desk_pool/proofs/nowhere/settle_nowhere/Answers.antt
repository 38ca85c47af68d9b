use Rattle.std.proofs.Common.{◌-◌, arith}
use Rattle.folio_sections.specs.Entries.{at}
use Rattle.registrar.proofs.Registering.{left_by}
use Rattle.registrar.specs.HasSettled.{settled_first}
use Rattle.desk_pool.proofs.NoKeys.{can_step_nowhere, no_key, not_held, still_nothing}
use Rattle.desk_pool.proofs.AgreeingScratches.{scratch_nowhere}
use Rattle.desk_pool.proofs.Settling.{verdict_said}
use Rattle.folio_sections.specs.Held.{entries_at}
use Rattle.desk_pool.proofs.nowhere.settle_nowhere.Goals as goal

pub step-requires-clause-held : goal.step-requires-clause-held
step-requires-clause-held c = λ k own. absurd (no_key _ k c.requires.none own)

pub step-requires-clause-room : goal.step-requires-clause-room
step-requires-clause-room c = λ k own. absurd (no_key _ k c.requires.none own)

pub step-requires-clause-earlier : goal.step-requires-clause-earlier
step-requires-clause-earlier c = λ k own. absurd (no_key _ k c.requires.none own)

pub step-requires-clause-scratch : goal.step-requires-clause-scratch
step-requires-clause-scratch c = scratch_nowhere c.args.journal.now.receipts c.args.item (entries_at c.args.nothing.now) c.args.scratch.now c.requires.none

pub step-requires-clause-kept : goal.step-requires-clause-kept
step-requires-clause-kept c =
    let journal = c.args.journal.now.receipts in
    (can_step_nowhere journal c.args.item c.args.nothing.now c.is_a_journal.ensures.journal (c.empty_register_is_kept.ensures.kept journal) c.requires.none c.requires.nothing).kept

pub returns-clause-verdict : goal.returns-clause-verdict
returns-clause-verdict c =
    let journal = c.args.journal.now.receipts in
    let i = c.args.item in
    let numbered = c.is_a_journal.ensures.journal in
    let empty = c.empty_register_is_kept.ensures.kept journal in
    verdict_said journal i c.step.result numbered empty (omega (arith, c.get-number.ensures.positive)) c.requires.received
    (c.step.ensures.verdict (at (settled_first journal (i - 1)).entries) (λ k held. absurd (not_held c.args.nothing.now k c.requires.nothing held)) (left_by journal (i - 1) numbered empty).settled.kept)

pub returns-clause-nothing : goal.returns-clause-nothing
returns-clause-nothing c = still_nothing c.args.nothing.now c.step.new.parts c.requires.nothing c.step.ensures.held
