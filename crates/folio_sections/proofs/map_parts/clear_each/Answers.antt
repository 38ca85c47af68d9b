use Rattle.std.proofs.Common.{◌≡◌, [], arith}
use Rattle.std.proofs.lemmas.List.Elements.{AllWithin-more_set, AllWithin-none}
use Rattle.folio_sections.specs.PartState.{PartState}
use Rattle.folio_sections.proofs.ExchangedParts.{all_places_self, all_places_set, place_left}
use Rattle.folio_sections.proofs.map_parts.clear_each.Goals as goal

pub loop-part-init : goal.loop-part-init
loop-part-init c = (all_places_self c.args.parts.now, AllWithin-none (λ (p : PartState). p.entries ≡ []) c.args.parts.now 0)

pub loop-part-preserved : goal.loop-part-preserved
loop-part-preserved c = (
  all_places_set c.args.parts.now c.loop-part.parts c.loop-part.part-index c.part-item.result c.clear.new.self c.loop-part.invariant.0 (omega arith)
      (place_left _ c.clear.new.self c.clear.ensures.key c.clear.ensures.entries c.clear.ensures.room),
  AllWithin-more_set c.loop-part.parts c.loop-part.part-index c.clear.new.self (omega arith) (λ (p : PartState). p.entries ≡ []) c.loop-part.invariant.1 c.clear.ensures.entries,
)
