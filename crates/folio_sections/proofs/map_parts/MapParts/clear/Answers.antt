use Rattle.std.proofs.Common.{◌≡◌, ◌+◌, ◌∙◌, [], length, refl, sym}
use Rattle.gb_base.specs.declared.keys.Key.{Key}
use Rattle.folio_sections.specs.Held.{entries_at, is_held, room_at}
use Rattle.folio_sections.specs.inner.PartIndex.{IsIndexOf}
use Rattle.folio_sections.proofs.ExchangedParts.{held_placed, placed, position_placed, room_cleared}
use Rattle.folio_sections.proofs.HeldParts.{nothing_at}
use Rattle.folio_sections.proofs.map_parts.MapParts.clear.Goals as goal

pub invariant_of-self : goal.invariant_of-self
invariant_of-self c = (
  placed (λ ps. IsIndexOf c.self.inside.index.places ps) c.self.inside.parts.items c.self.inside.parts.items c.deref_mut.result.now c.clear_each.new.parts c.self.inside.parts.len
      c.self.inside.parts.ok.0 c.deref_mut.ensures.value refl c.clear_each.ensures.places
      (λ kept k. c.self.invariant.0 k ∙ sym (position_placed c.self.inside.parts.items c.clear_each.new.parts kept k)),
  c.self.invariant.1,
)

pub returns-clause-held : goal.returns-clause-held
returns-clause-held c =
    placed (λ ps. is_held ps ≡ is_held c.args.self.now) c.args.self.now c.self.inside.parts.items c.deref_mut.result.now c.clear_each.new.parts c.self.inside.parts.len
    c.self.inside.parts.ok.0 c.deref_mut.ensures.value c.self.view_is c.clear_each.ensures.places
    (λ kept. λ i k. held_placed c.args.self.now c.clear_each.new.parts kept k i)

pub returns-clause-entries : goal.returns-clause-entries
returns-clause-entries c =
    placed (λ ps. (k : Key) → entries_at ps k ≡ []) c.args.self.now c.self.inside.parts.items c.deref_mut.result.now c.clear_each.new.parts c.self.inside.parts.len
    c.self.inside.parts.ok.0 c.deref_mut.ensures.value c.self.view_is c.clear_each.ensures.places
    (λ kept k. nothing_at c.clear_each.new.parts k c.clear_each.ensures.empty)

pub returns-clause-room : goal.returns-clause-room
returns-clause-room c =
    placed (λ ps. (k : Key) → room_at ps k ≡ room_at c.args.self.now k + length (entries_at c.args.self.now k)) c.args.self.now c.self.inside.parts.items c.deref_mut.result.now c.clear_each.new.parts c.self.inside.parts.len
    c.self.inside.parts.ok.0 c.deref_mut.ensures.value c.self.view_is c.clear_each.ensures.places
    (λ kept. room_cleared c.args.self.now c.clear_each.new.parts kept c.clear_each.ensures.empty)
