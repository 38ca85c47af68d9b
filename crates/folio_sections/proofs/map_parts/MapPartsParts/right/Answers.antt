use Rattle.std.proofs.Common.{◌≡◌, ◌∙◌, None, Some, ap, find, sym}
use Rattle.std.specs.Option.{option_copied}
use Rattle.gb_base.specs.declared.keys.Key.TheVariants.{Right}
use Rattle.folio_sections.specs.inner.Kinds.{is_right}
use Rattle.folio_sections.proofs.HeldParts.{held_found, held_none, is_at, key_found, keyed}
use Rattle.folio_sections.proofs.map_parts.MapPartsParts.right.Goals as goal

pub returns-in-Some-clause-some : goal.returns-in-Some-clause-some
returns-in-Some-clause-some c =
    let key = Right c.args.folio c.args.right in
    let found : find (is_at key) c.args.self.now ≡ Some c.in-Some.part.now = sym c.part.ensures ∙ ap option_copied c.in-Some.is in
    c.as_right.ensures.some ∙ ap is_right (key_found c.args.self.now key c.in-Some.part.now found) ∙ sym (held_found c.args.self.now key c.in-Some.part.now found)

pub returns-in-None-clause-some : goal.returns-in-None-clause-some
returns-in-None-clause-some c =
    let key = Right c.args.folio c.args.right in
    let none : find (is_at key) c.args.self.now ≡ None = sym c.part.ensures ∙ ap option_copied c.in-None.is in
    sym (held_none c.args.self.now key none)

pub returns-in-Some-clause-key : goal.returns-in-Some-clause-key
returns-in-Some-clause-key c =
    let key = Right c.args.folio c.args.right in
    let found : find (is_at key) c.args.self.now ≡ Some c.in-Some.part.now = sym c.part.ensures ∙ ap option_copied c.in-Some.is in
    keyed c.as_right.result (λ part. part.now) c.in-Some.part.now key (key_found c.args.self.now key c.in-Some.part.now found) c.as_right.ensures.value
