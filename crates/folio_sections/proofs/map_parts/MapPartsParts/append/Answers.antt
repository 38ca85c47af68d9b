use Rattle.std.proofs.Common.{◌≡◌, ◌∙◌, ◌≤◌, ap, get_or, subst, sym}
use Rattle.std.specs.Option.{option_map_or}
use Rattle.folio_sections.specs.Held.{is_held}
use Rattle.folio_sections.specs.PartState.{PartState}
use Rattle.folio_sections.proofs.HeldParts.{adds_there, found_there, held_kept, key_found, no_index}
use Rattle.folio_sections.proofs.map_parts.MapPartsParts.append.Goals as goal

pub append-requires-clause-key : goal.append-requires-clause-key
append-requires-clause-key c =
    let part = c.index_mut-part.result.now in
    let stands : part ≡ get_or c.args.self.now c.in-Some.index part = c.index_mut-part.ensures.value ∙ ap (λ xs. get_or xs c.in-Some.index part) c.self.view_is in
    sym (key_found c.args.self.now c.args.entry.key part (found_there c.args.self.now c.args.entry.key c.in-Some.index part (sym c.index_of.ensures ∙ c.in-Some.is) stands))

pub append-requires-clause-room : goal.append-requires-clause-room
append-requires-clause-room c =
    let part = c.index_mut-part.result.now in
    let stands : part ≡ get_or c.args.self.now c.in-Some.index part = c.index_mut-part.ensures.value ∙ ap (λ xs. get_or xs c.in-Some.index part) c.self.view_is in
    subst (λ o. 1 ≤ option_map_or (λ (p : PartState). p.room) o 0)
    (found_there c.args.self.now c.args.entry.key c.in-Some.index part (sym c.index_of.ensures ∙ c.in-Some.is) stands)
    c.requires.room

pub returns-in-Some-clause-added : goal.returns-in-Some-clause-added
returns-in-Some-clause-added c =
    adds_there c.args.self.now c.self.inside.parts.items c.in-Some.index c.index_mut-part.result.now c.append.new.self c.args.entry c.self.view_is
    (sym c.index_of.ensures ∙ c.in-Some.is) c.index_mut-part.ensures.value c.append.ensures.key c.append.ensures.entries c.append.ensures.room

pub returns-in-Some-clause-held : goal.returns-in-Some-clause-held
returns-in-Some-clause-held c =
    held_kept c.self.inside.parts.items c.in-Some.index c.index_mut-part.result.now c.append.new.self c.index_mut-part.ensures.value c.append.ensures.key
    ∙ ap is_held c.self.view_is

pub returns-in-None-clause-added : goal.returns-in-None-clause-added
returns-in-None-clause-added c = absurd (no_index c.args.self.now c.args.entry.key (sym c.index_of.ensures ∙ c.in-None.is) c.requires.held)
