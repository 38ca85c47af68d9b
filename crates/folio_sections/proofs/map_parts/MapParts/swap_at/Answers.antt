use Rattle.std.proofs.Common.{◌∙◌, sym}
use Rattle.folio_sections.proofs.ExchangedParts.{same_place, still_indexed, takes_at}
use Rattle.folio_sections.proofs.HeldParts.{no_index}
use Rattle.folio_sections.proofs.map_parts.MapParts.swap_at.Goals as goal

pub invariant_of-self : goal.invariant_of-self
invariant_of-self c = (
  still_indexed c.self.inside.index.places c.self.inside.parts.items c.in-Some.here c.index_mut.result.now c.index_mut-in-Some-index_of.result.now c.swap.new.x c.self.invariant.0 c.index_mut.ensures.value
      (same_place c.args.self.now c.self.inside.parts.items c.args.other.now c.other.inside.parts.items c.args.key.now c.in-Some.here c.in-Some-index_of.there c.index_mut.result.now c.index_mut-in-Some-index_of.result.now
      c.self.view_is c.other.view_is (sym c.index_of.ensures ∙ c.in-Some.is) (sym c.index_of-in-Some.ensures ∙ c.in-Some-index_of.is) c.index_mut.ensures.value c.index_mut-in-Some-index_of.ensures.value)
      c.swap.ensures.x_after,
  c.self.invariant.1,
)

pub invariant_of-other : goal.invariant_of-other
invariant_of-other c = (
  still_indexed c.other.inside.index.places c.other.inside.parts.items c.in-Some-index_of.there c.index_mut-in-Some-index_of.result.now c.index_mut.result.now c.swap.new.y c.other.invariant.0 c.index_mut-in-Some-index_of.ensures.value
      (same_place c.args.other.now c.other.inside.parts.items c.args.self.now c.self.inside.parts.items c.args.key.now c.in-Some-index_of.there c.in-Some.here c.index_mut-in-Some-index_of.result.now c.index_mut.result.now
      c.other.view_is c.self.view_is (sym c.index_of-in-Some.ensures ∙ c.in-Some-index_of.is) (sym c.index_of.ensures ∙ c.in-Some.is) c.index_mut-in-Some-index_of.ensures.value c.index_mut.ensures.value)
      c.swap.ensures.y_after,
  c.other.invariant.1,
)

pub returns-in-Some-index_of-clause-here : goal.returns-in-Some-index_of-clause-here
returns-in-Some-index_of-clause-here c =
    takes_at c.args.self.now c.self.inside.parts.items c.args.other.now c.other.inside.parts.items c.args.key.now c.in-Some.here c.in-Some-index_of.there c.index_mut.result.now c.index_mut-in-Some-index_of.result.now c.swap.new.x
    c.self.view_is c.other.view_is (sym c.index_of.ensures ∙ c.in-Some.is) (sym c.index_of-in-Some.ensures ∙ c.in-Some-index_of.is) c.index_mut.ensures.value c.index_mut-in-Some-index_of.ensures.value c.swap.ensures.x_after

pub returns-in-Some-index_of-clause-there : goal.returns-in-Some-index_of-clause-there
returns-in-Some-index_of-clause-there c =
    takes_at c.args.other.now c.other.inside.parts.items c.args.self.now c.self.inside.parts.items c.args.key.now c.in-Some-index_of.there c.in-Some.here c.index_mut-in-Some-index_of.result.now c.index_mut.result.now c.swap.new.y
    c.other.view_is c.self.view_is (sym c.index_of-in-Some.ensures ∙ c.in-Some-index_of.is) (sym c.index_of.ensures ∙ c.in-Some.is) c.index_mut-in-Some-index_of.ensures.value c.index_mut.ensures.value c.swap.ensures.y_after

pub returns-in_default-index_of-clause-here : goal.returns-in_default-index_of-clause-here
returns-in_default-index_of-clause-here c = absurd (no_index c.args.other.now c.args.key.now (sym c.index_of-in-Some.ensures ∙ c.in_default-index_of.is) c.requires.there)

pub returns-in_default-index_of-clause-there : goal.returns-in_default-index_of-clause-there
returns-in_default-index_of-clause-there c = absurd (no_index c.args.other.now c.args.key.now (sym c.index_of-in-Some.ensures ∙ c.in_default-index_of.is) c.requires.there)

pub returns-in_default-clause-here : goal.returns-in_default-clause-here
returns-in_default-clause-here c = absurd (no_index c.args.self.now c.args.key.now (sym c.index_of.ensures ∙ c.in_default.is) c.requires.here)

pub returns-in_default-clause-there : goal.returns-in_default-clause-there
returns-in_default-clause-there c = absurd (no_index c.args.self.now c.args.key.now (sym c.index_of.ensures ∙ c.in_default.is) c.requires.here)
