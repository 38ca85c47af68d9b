use Rattle.std.proofs.Common.{[], ◌∷◌, ◌++◌, ◌∙◌, ap, position}
use Rattle.folio_sections.proofs.HeldParts.{all_empty_pushed, entries_pushed, index_pushed, is_at, room_at_end, room_pushed}
use Rattle.folio_sections.proofs.Indexes.{is_none_of, is_some-position}
use Rattle.folio_sections.proofs.map_parts.push_part.Goals as goal

pub insert-requires-clause-absent : goal.insert-requires-clause-absent
insert-requires-clause-absent c =
    c.requires.index c.args.key ∙ is_none_of (position (is_at c.args.key) c.args.parts.now.items) (is_some-position (is_at c.args.key) c.args.parts.now.items ∙ c.requires.apart)

pub returns-clause-index : goal.returns-clause-index
returns-clause-index c =
    index_pushed c.args.index.now.places c.insert.new.self.places c.args.parts.now.items c.push_reserved.new.self.items c.args.key c.args.part c.len-end.result
    c.requires.index c.in_ok-insert.ensures.updates (c.len-end.ensures ∙ c.args.parts.now.ok.0) (c.push_reserved.ensures.items ∙ ap (λ ps. ps ++ c.args.part ∷ []) c.reserve.ensures.items) c.requires.own
    c.requires.apart

pub returns-clause-entries : goal.returns-clause-entries
returns-clause-entries c =
    entries_pushed c.args.parts.now.items c.push_reserved.new.self.items c.args.part (c.push_reserved.ensures.items ∙ ap (λ ps. ps ++ c.args.part ∷ []) c.reserve.ensures.items) c.requires.empty

pub returns-clause-kept : goal.returns-clause-kept
returns-clause-kept c = λ k.
    room_pushed c.args.parts.now.items c.push_reserved.new.self.items c.args.part k (c.push_reserved.ensures.items ∙ ap (λ ps. ps ++ c.args.part ∷ []) c.reserve.ensures.items)

pub returns-clause-room : goal.returns-clause-room
returns-clause-room c =
    room_at_end c.args.parts.now.items c.push_reserved.new.self.items c.args.part c.args.key (c.push_reserved.ensures.items ∙ ap (λ ps. ps ++ c.args.part ∷ []) c.reserve.ensures.items) c.requires.own c.requires.apart

pub returns-clause-empty : goal.returns-clause-empty
returns-clause-empty c = λ none.
    all_empty_pushed c.args.parts.now.items c.push_reserved.new.self.items c.args.part (c.push_reserved.ensures.items ∙ ap (λ ps. ps ++ c.args.part ∷ []) c.reserve.ensures.items) none c.requires.empty
