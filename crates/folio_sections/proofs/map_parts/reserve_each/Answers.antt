use Rattle.std.proofs.Common.{◌≤◌, IsOk, subst, arith}
use Rattle.std.proofs.lemmas.Bool.{false≢true}
use Rattle.std.proofs.lemmas.List.Elements.{AllWithin-more_set, AllWithin-none}
use Rattle.folio_sections.specs.PartState.{PartState}
use Rattle.folio_sections.proofs.HeldParts.{all_grow_self, all_grow_set, room_there}
use Rattle.folio_sections.proofs.map_parts.reserve_each.Goals as goal

pub loop-part-init : goal.loop-part-init
loop-part-init c = (all_grow_self c.args.parts.now, AllWithin-none (λ (p : PartState). c.args.n ≤ p.room) c.args.parts.now 0)

pub returns-in_err-reserve-clause-grow : goal.returns-in_err-reserve-clause-grow
returns-in_err-reserve-clause-grow c =
    all_grow_set c.args.parts.now c.loop-part.parts c.loop-part.part-index c.part-item.result c.reserve.new.self c.loop-part.invariant.0 (omega arith)
    (record { key = c.reserve.ensures.key; entries = c.reserve.ensures.entries; room = c.reserve.ensures.kept })

pub loop-part-preserved : goal.loop-part-preserved
loop-part-preserved c = (
  all_grow_set c.args.parts.now c.loop-part.parts c.loop-part.part-index c.part-item.result c.reserve.new.self c.loop-part.invariant.0 (omega arith)
      (record { key = c.reserve.ensures.key; entries = c.reserve.ensures.entries; room = c.reserve.ensures.kept }),
  AllWithin-more_set c.loop-part.parts c.loop-part.part-index c.reserve.new.self (omega arith) (λ (p : PartState). c.args.n ≤ p.room) c.loop-part.invariant.1 c.in_ok-reserve.ensures.room,
)

pub returns-in_err-reserve-clause-succeeds : goal.returns-in_err-reserve-clause-succeeds
returns-in_err-reserve-clause-succeeds c = λ each.
    absurd (false≢true (subst IsOk c.in_err-reserve.was (c.reserve.ensures.succeeds (room_there c.args.n c.args.parts.now c.loop-part.parts c.loop-part.part-index c.part-item.result c.loop-part.invariant.0 each (omega arith)))))
