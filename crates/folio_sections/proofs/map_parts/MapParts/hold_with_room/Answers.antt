use Rattle.std.proofs.Common.{◌≤◌, ◌+◌, ◌∙◌, [], ap, arith, get_or, is_some, length, set, subst, sym}
use Rattle.std.specs.Option.{option_map_or}
use Rattle.std.proofs.lemmas.Result.{on_ok_weaker}
use Rattle.folio_sections.specs.PartState.{PartState}
use Rattle.folio_sections.proofs.Indexes.{is_some-position}
use Rattle.gb_base.specs.Keys.{same_key}
use Rattle.folio_sections.specs.Held.{entries_at, is_held}
use Rattle.folio_sections.proofs.HeldParts.{all_grow_at, entries_grown, found_set, found_there, held_again, held_found, held_grown, is_at, no_index, nothing_there, room_grown}
use Rattle.folio_sections.proofs.WiderKeys.{held_same}
use Rattle.folio_sections.proofs.map_parts.MapParts.hold_with_room.Goals as goal

pub returns-in-Some-clause-entries : goal.returns-in-Some-clause-entries
returns-in-Some-clause-entries c = λ j k.
    entries_grown c.args.self.now (set c.self.inside.parts.items c.in-Some.index c.reserve.new.self)
    (all_grow_at c.args.self.now c.self.inside.parts.items c.args.key.now c.in-Some.index c.index_mut-part.result.now c.reserve.new.self c.self.view_is
    (sym c.index_of.ensures ∙ c.in-Some.is) c.index_mut-part.ensures.value
    (record { key = c.reserve.ensures.key; entries = c.reserve.ensures.entries; room = c.reserve.ensures.kept })) k j

pub returns-in-Some-clause-kept : goal.returns-in-Some-clause-kept
returns-in-Some-clause-kept c =
    room_grown c.args.self.now (set c.self.inside.parts.items c.in-Some.index c.reserve.new.self)
    (all_grow_at c.args.self.now c.self.inside.parts.items c.args.key.now c.in-Some.index c.index_mut-part.result.now c.reserve.new.self c.self.view_is
    (sym c.index_of.ensures ∙ c.in-Some.is) c.index_mut-part.ensures.value
    (record { key = c.reserve.ensures.key; entries = c.reserve.ensures.entries; room = c.reserve.ensures.kept }))

pub returns-in-Some-clause-held : goal.returns-in-Some-clause-held
returns-in-Some-clause-held c =
    let part = c.index_mut-part.result.now in
    let found = found_there c.args.self.now c.args.key.now c.in-Some.index part (sym c.index_of.ensures ∙ c.in-Some.is) (c.index_mut-part.ensures.value ∙ ap (λ xs. get_or xs c.in-Some.index part) c.self.view_is) in
    on_ok_weaker c.reserve.result
    (λ _ k. held_grown c.args.self.now (set c.self.inside.parts.items c.in-Some.index c.reserve.new.self)
    (all_grow_at c.args.self.now c.self.inside.parts.items c.args.key.now c.in-Some.index part c.reserve.new.self c.self.view_is
    (sym c.index_of.ensures ∙ c.in-Some.is) c.index_mut-part.ensures.value
    (record { key = c.reserve.ensures.key; entries = c.reserve.ensures.entries; room = c.reserve.ensures.kept })) k
    ∙ held_again c.args.self.now c.args.key.now (held_found c.args.self.now c.args.key.now part found) k)
    c.reserve.ensures.room

pub returns-in-Some-clause-widens : goal.returns-in-Some-clause-widens
returns-in-Some-clause-widens c =
    held_same (same_key c.args.key.now) c.args.self.now (set c.self.inside.parts.items c.in-Some.index c.reserve.new.self)
    (held_grown c.args.self.now (set c.self.inside.parts.items c.in-Some.index c.reserve.new.self)
    (all_grow_at c.args.self.now c.self.inside.parts.items c.args.key.now c.in-Some.index c.index_mut-part.result.now c.reserve.new.self c.self.view_is
    (sym c.index_of.ensures ∙ c.in-Some.is) c.index_mut-part.ensures.value
    (record { key = c.reserve.ensures.key; entries = c.reserve.ensures.entries; room = c.reserve.ensures.kept })))

pub returns-in-Some-clause-room : goal.returns-in-Some-clause-room
returns-in-Some-clause-room c =
    let found = found_set c.args.self.now c.self.inside.parts.items c.args.key.now c.in-Some.index c.index_mut-part.result.now c.reserve.new.self c.self.view_is
    (sym c.index_of.ensures ∙ c.in-Some.is) c.index_mut-part.ensures.value c.reserve.ensures.key in
    let count = c.len.ensures.value ∙ ap length (sym c.reserve.ensures.entries) in
    on_ok_weaker c.reserve.result
    (λ room. subst (λ o. length (option_map_or (λ (p : PartState). p.entries) o []) + c.args.n ≤ option_map_or (λ (p : PartState). p.room) o 0) (sym found) (omega (arith, count, room)))
    c.reserve.ensures.room

pub push_part-requires-clause-apart : goal.push_part-requires-clause-apart
push_part-requires-clause-apart c =
    ap (λ ps. is_held ps c.args.key.now) c.self.view_is
    ∙ sym (is_some-position (is_at c.args.key.now) c.args.self.now) ∙ ap is_some (sym c.index_of.ensures ∙ c.in-None.is)

pub returns-in_ok-reserve-in-None-clause-room : goal.returns-in_ok-reserve-in-None-clause-room
returns-in_ok-reserve-in-None-clause-room c =
    let key = c.args.key.now in
    let none = ap (λ f. length (f key)) c.push_part.ensures.entries ∙ ap (λ ps. length (entries_at ps key)) c.self.view_is
    ∙ ap length (nothing_there c.args.self.now key (sym c.index_of.ensures ∙ c.in-None.is)) in
    let enough = c.in_ok-reserve-in-None.ensures.room in
    on_ok_weaker c.push_part.result (λ there. omega (arith, none, enough, there)) c.push_part.ensures.room

pub returns-in-Some-clause-succeeds : goal.returns-in-Some-clause-succeeds
returns-in-Some-clause-succeeds c = λ held roomy.
    let part = c.index_mut-part.result.now in
    let found = found_there c.args.self.now c.args.key.now c.in-Some.index part (sym c.index_of.ensures ∙ c.in-Some.is) (c.index_mut-part.ensures.value ∙ ap (λ xs. get_or xs c.in-Some.index part) c.self.view_is) in
    let there = subst (λ o. length (option_map_or (λ (p : PartState). p.entries) o []) + c.args.n ≤ option_map_or (λ (p : PartState). p.room) o 0) found roomy in
    let count = c.len.ensures.value in
    c.reserve.ensures.succeeds (omega (arith, there, count))

pub returns-in_ok-reserve-in-None-clause-succeeds : goal.returns-in_ok-reserve-in-None-clause-succeeds
returns-in_ok-reserve-in-None-clause-succeeds c = λ held roomy. absurd (no_index c.args.self.now c.args.key.now (sym c.index_of.ensures ∙ c.in-None.is) held)

pub returns-in_err-reserve-in-None-clause-succeeds : goal.returns-in_err-reserve-in-None-clause-succeeds
returns-in_err-reserve-in-None-clause-succeeds c = λ held roomy. absurd (no_index c.args.self.now c.args.key.now (sym c.index_of.ensures ∙ c.in-None.is) held)
