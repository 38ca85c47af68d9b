use Rattle.std.proofs.Common.{IfOk, List, subst, ◌≡◌}
use Rattle.gb_base.specs.RightNo.{RightNo}
use Rattle.folio_sections.proofs.HeldRights.{in_turn, rights_listed}
use Rattle.folio_sections.proofs.map_parts.MapParts.rights_in.Goals as goal

pub rights_between-requires : goal.rights_between-requires
rights_between-requires c = in_turn c.args.folio c.first_right.result c.last_right.result c.first_right.ensures c.last_right.ensures

pub returns : goal.returns
returns c =
    let listed =
    rights_listed c.self.inside.index.places c.self.inside.parts.items c.args.self.now c.args.folio c.first_right.result c.last_right.result c.first_right.ensures c.last_right.ensures c.self.view_is
    c.self.invariant.0 c.rights_between.ensures.ordered c.rights_between.ensures.found in
    record { rights = subst (λ (xs : List RightNo). IfOk c.rights_between.result (λ rights. rights.items ≡ xs)) listed c.rights_between.ensures.rights }
