use Rattle.std.proofs.Common.{sym, ap, subst, ◌∙◌}
use Rattle.folio_sections.specs.Adding.{Adds}
use Rattle.desk_pool.proofs.PairAdds.{adds_to_first, adds_to_second, holds_with_first, holds_with_second}
use Rattle.desk_pool.specs.inner.FolioPairs.{PairState, either_at, either_holds, either_room}
use Rattle.desk_pool.proofs.pairs.FolioPairParts.append.Goals as goal

pub returns-then-is_held-clause-added : goal.returns-then-is_held-clause-added
returns-then-is_held-clause-added c =
    let after : PairState = record { first = c.append.new.self; second = c.self.inside.second } in
    subst (λ pair. Adds (either_at pair) (either_at after) (either_room pair) (either_room after) c.args.entry) c.self.view_is
    (adds_to_first c.self.inside.first c.append.new.self c.self.inside.second c.args.entry c.append.ensures.added c.append.ensures.held (sym c.is_held.ensures ∙ c.if-is_held.true))

pub returns-then-is_held-clause-held : goal.returns-then-is_held-clause-held
returns-then-is_held-clause-held c = holds_with_first c.self.inside.first c.append.new.self c.self.inside.second c.append.ensures.held ∙ ap either_holds c.self.view_is

pub returns-else-is_held-clause-added : goal.returns-else-is_held-clause-added
returns-else-is_held-clause-added c =
    let after : PairState = record { first = c.self.inside.first; second = c.append-else-is_held.new.self } in
    subst (λ pair. Adds (either_at pair) (either_at after) (either_room pair) (either_room after) c.args.entry) c.self.view_is
    (adds_to_second c.self.inside.first c.self.inside.second c.append-else-is_held.new.self c.args.entry c.append-else-is_held.ensures.added (sym c.is_held.ensures ∙ c.if-is_held.false))

pub returns-else-is_held-clause-held : goal.returns-else-is_held-clause-held
returns-else-is_held-clause-held c = holds_with_second c.self.inside.first c.self.inside.second c.append-else-is_held.new.self c.append-else-is_held.ensures.held ∙ ap either_holds c.self.view_is
