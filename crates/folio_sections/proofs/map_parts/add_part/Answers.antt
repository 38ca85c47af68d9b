use Rattle.std.proofs.Common.{◌∙◌, is_some, ap, sym}
use Rattle.std.proofs.lemmas.Bool.{false≢true}
use Rattle.folio_sections.proofs.HeldParts.{held_again, is_at}
use Rattle.folio_sections.proofs.Indexes.{is_some-position}
use Rattle.folio_sections.proofs.map_parts.add_part.Goals as goal

pub returns-then-is_some-clause-held : goal.returns-then-is_some-clause-held
returns-then-is_some-clause-held c =
    held_again c.args.parts.now.items c.args.key
    (sym (is_some-position (is_at c.args.key) c.args.parts.now.items) ∙ ap is_some (sym (c.requires.index c.args.key)) ∙ ap is_some (sym c.get.ensures) ∙ sym c.is_some.ensures ∙ c.if-is_some.true)

pub push_part-requires-clause-apart : goal.push_part-requires-clause-apart
push_part-requires-clause-apart c =
    sym (is_some-position (is_at c.args.key) c.args.parts.now.items) ∙ ap is_some (sym (c.requires.index c.args.key)) ∙ ap is_some (sym c.get.ensures) ∙ sym c.is_some.ensures ∙ c.if-is_some.false

pub returns-clause-succeeds : goal.returns-clause-succeeds
returns-clause-succeeds c = λ held. absurd (false≢true (sym (sym (is_some-position (is_at c.args.key) c.args.parts.now.items) ∙ ap is_some (sym (c.requires.index c.args.key)) ∙ ap is_some (sym c.get.ensures) ∙ sym c.is_some.ensures ∙ c.if-is_some.false) ∙ held))

pub returns-clause-same : goal.returns-clause-same
returns-clause-same c = λ held. absurd (false≢true (sym (sym (is_some-position (is_at c.args.key) c.args.parts.now.items) ∙ ap is_some (sym (c.requires.index c.args.key)) ∙ ap is_some (sym c.get.ensures) ∙ sym c.is_some.ensures ∙ c.if-is_some.false) ∙ held))
