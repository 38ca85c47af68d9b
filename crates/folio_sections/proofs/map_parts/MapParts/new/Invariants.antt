use Rattle.std.proofs.Common.{◌≡◌, [], All, take}
use Rattle.gb_base.specs.declared.keys.Key.{Key}
use Rattle.folio_sections.specs.Held.{is_held, is_given}
use Rattle.folio_sections.specs.inner.KeysAtHand.{AreAtHand}
use Rattle.folio_sections.specs.inner.PartIndex.{IsIndexOf}
use Rattle.folio_sections.proofs.map_parts.MapParts.new.Given as goal

abbrev pub invariant-loop-key : goal.invariant-loop-key
invariant-loop-key l =
    IsIndexOf l.index.places l.parts.items
    × AreAtHand l.index.places l.index.slots.items
    × ((k : Key) → is_held l.parts.items k ≡ is_given (take l.key-index l.keys) k)
    × All (λ p. p.entries ≡ []) l.parts.items
