use Rattle.std.proofs.Common.{◌≤◌, ◌∙◌, ap, get_or, set, subst, sym}
use Rattle.std.specs.Option.{option_map_or}
use Rattle.std.proofs.lemmas.Result.{on_ok_weaker}
use Rattle.folio_sections.specs.PartState.{PartState}
use Rattle.folio_sections.proofs.HeldParts.{all_grow_at, entries_grown, found_set, found_there, held_grown, no_index, room_grown}
use Rattle.folio_sections.proofs.map_parts.MapParts.reserve.Goals as goal

pub returns-in-Some-clause-held : goal.returns-in-Some-clause-held
returns-in-Some-clause-held c = λ j k.
    held_grown c.args.self.now (set c.self.inside.parts.items c.in-Some.index c.reserve.new.self)
    (all_grow_at c.args.self.now c.self.inside.parts.items c.args.key c.in-Some.index c.index_mut-part.result.now c.reserve.new.self c.self.view_is
    (sym c.index_of.ensures ∙ c.in-Some.is) c.index_mut-part.ensures.value
    (record { key = c.reserve.ensures.key; entries = c.reserve.ensures.entries; room = c.reserve.ensures.kept })) k j

pub returns-in-Some-clause-entries : goal.returns-in-Some-clause-entries
returns-in-Some-clause-entries c = λ j k.
    entries_grown c.args.self.now (set c.self.inside.parts.items c.in-Some.index c.reserve.new.self)
    (all_grow_at c.args.self.now c.self.inside.parts.items c.args.key c.in-Some.index c.index_mut-part.result.now c.reserve.new.self c.self.view_is
    (sym c.index_of.ensures ∙ c.in-Some.is) c.index_mut-part.ensures.value
    (record { key = c.reserve.ensures.key; entries = c.reserve.ensures.entries; room = c.reserve.ensures.kept })) k j

pub returns-in-Some-clause-kept : goal.returns-in-Some-clause-kept
returns-in-Some-clause-kept c =
    room_grown c.args.self.now (set c.self.inside.parts.items c.in-Some.index c.reserve.new.self)
    (all_grow_at c.args.self.now c.self.inside.parts.items c.args.key c.in-Some.index c.index_mut-part.result.now c.reserve.new.self c.self.view_is
    (sym c.index_of.ensures ∙ c.in-Some.is) c.index_mut-part.ensures.value
    (record { key = c.reserve.ensures.key; entries = c.reserve.ensures.entries; room = c.reserve.ensures.kept }))

pub returns-in-Some-clause-room : goal.returns-in-Some-clause-room
returns-in-Some-clause-room c =
    let found = found_set c.args.self.now c.self.inside.parts.items c.args.key c.in-Some.index c.index_mut-part.result.now c.reserve.new.self c.self.view_is
    (sym c.index_of.ensures ∙ c.in-Some.is) c.index_mut-part.ensures.value c.reserve.ensures.key in
    on_ok_weaker c.reserve.result (λ room held. subst (λ o. c.args.n ≤ option_map_or (λ (p : PartState). p.room) o 0) (sym found) room) c.reserve.ensures.room

pub returns-in-Some-clause-succeeds : goal.returns-in-Some-clause-succeeds
returns-in-Some-clause-succeeds c = λ roomy.
    let part = c.index_mut-part.result.now in
    let found = found_there c.args.self.now c.args.key c.in-Some.index part (sym c.index_of.ensures ∙ c.in-Some.is) (c.index_mut-part.ensures.value ∙ ap (λ xs. get_or xs c.in-Some.index part) c.self.view_is) in
    c.reserve.ensures.succeeds (subst (λ o. c.args.n ≤ option_map_or (λ (p : PartState). p.room) o 0) found roomy)

pub returns-in-None-clause-room : goal.returns-in-None-clause-room
returns-in-None-clause-room c = λ held. absurd (no_index c.args.self.now c.args.key (sym c.index_of.ensures ∙ c.in-None.is) held)
