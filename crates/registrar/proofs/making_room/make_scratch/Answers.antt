use Rattle.std.proofs.Common.{sym, ◌∙◌, arith}
use Rattle.folio_sections.specs.Held.{entries_at, is_held}
use Rattle.registrar.proofs.ScratchRooms.{both_on_ok, roomy_in}
use Rattle.registrar.specs.Rooms.{HasItsScratch}
use Rattle.registrar.proofs.making_room.make_scratch.Goals as goal

pub returns-in_ok-exchanges-in-Some : goal.returns-in_ok-exchanges-in-Some
returns-in_ok-exchanges-in-Some c =
    let journal = c.args.journal.now.receipts in
    let scratch = c.reserve.new.self in
    let ids = c.rights_filed-rights.result.now in
    let count = c.in_ok-exchanges-in-Some.ensures.enough in
    both_on_ok c.reserve.result _ _ (HasItsScratch journal c.args.item (entries_at c.args.parts.now) scratch)
    (λ rights exchanges.
    roomy_in journal c.args.item c.in-Some.folio (is_held c.args.parts.now) (entries_at c.args.parts.now) scratch ids
    (sym c.folio_computed.ensures ∙ c.in-Some.is) c.requires.held c.rights_filed-rights.ensures.value rights (omega (arith, exchanges, count)))
    c.reserve.ensures.rights c.reserve.ensures.exchanges
