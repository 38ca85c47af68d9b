use Rattle.std.proofs.Common.{◌≡◌, ◌≤◌, ◌∙◌, IsTrue, OnOk, refl, sym}
use Rattle.std.proofs.lemmas.Result.{on_ok_weaker}
use Rattle.gb_base.specs.declared.keys.Key.{Key}
use Rattle.folio_sections.specs.Held.{entries_at, is_held, room_at}
use Rattle.folio_sections.specs.inner.PartIndex.{IsIndexOf}
use Rattle.folio_sections.proofs.HeldParts.{entries_grown, held_grown, position_grown, room_at_held, room_grown, written}
use Rattle.folio_sections.proofs.map_parts.MapParts.reserve_all.Goals as goal

pub invariant_of-self : goal.invariant_of-self
invariant_of-self c = (
  written (λ ps. IsIndexOf c.self.inside.index.places ps) c.self.inside.parts.items c.self.inside.parts.items c.deref_mut.result.now c.reserve_each.new.parts c.self.inside.parts.len
      c.self.inside.parts.ok.0 c.deref_mut.ensures.value refl c.reserve_each.ensures.grow
      (λ grown k. c.self.invariant.0 k ∙ sym (position_grown c.self.inside.parts.items c.reserve_each.new.parts grown k)),
  c.self.invariant.1,
)

pub returns-clause-held : goal.returns-clause-held
returns-clause-held c =
    written (λ ps. is_held ps ≡ is_held c.args.self.now) c.args.self.now c.self.inside.parts.items c.deref_mut.result.now c.reserve_each.new.parts c.self.inside.parts.len
    c.self.inside.parts.ok.0 c.deref_mut.ensures.value c.self.view_is c.reserve_each.ensures.grow
    (λ grown. λ i k. held_grown c.args.self.now c.reserve_each.new.parts grown k i)

pub returns-clause-entries : goal.returns-clause-entries
returns-clause-entries c =
    written (λ ps. entries_at ps ≡ entries_at c.args.self.now) c.args.self.now c.self.inside.parts.items c.deref_mut.result.now c.reserve_each.new.parts c.self.inside.parts.len
    c.self.inside.parts.ok.0 c.deref_mut.ensures.value c.self.view_is c.reserve_each.ensures.grow
    (λ grown. λ i k. entries_grown c.args.self.now c.reserve_each.new.parts grown k i)

pub returns-clause-room : goal.returns-clause-room
returns-clause-room c =
    written (λ ps. OnOk c.reserve_each.result ((k : Key) → IsTrue (is_held ps k) → c.args.n ≤ room_at ps k)) c.args.self.now c.self.inside.parts.items c.deref_mut.result.now c.reserve_each.new.parts c.self.inside.parts.len
    c.self.inside.parts.ok.0 c.deref_mut.ensures.value c.self.view_is c.reserve_each.ensures.grow
    (λ grown. on_ok_weaker c.reserve_each.result (λ all. room_at_held c.args.n c.reserve_each.new.parts all) c.reserve_each.ensures.room)

pub returns-clause-kept : goal.returns-clause-kept
returns-clause-kept c =
    written (λ ps. (k : Key) → room_at c.args.self.now k ≤ room_at ps k) c.args.self.now c.self.inside.parts.items c.deref_mut.result.now c.reserve_each.new.parts c.self.inside.parts.len
    c.self.inside.parts.ok.0 c.deref_mut.ensures.value c.self.view_is c.reserve_each.ensures.grow
    (λ grown. room_grown c.args.self.now c.reserve_each.new.parts grown)
