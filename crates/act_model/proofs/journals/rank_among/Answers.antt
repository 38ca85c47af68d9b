-- A search by halves finds the place in a list that rises.
use Rattle.std.proofs.Common.{◌+◌, option_map, ap, sym}
use Rattle.act_model.proofs.CreationOrder.{place_found, place_none, searchable}
use Rattle.act_model.proofs.journals.rank_among.Goals as goal

pub returns-in-Ok : goal.returns-in-Ok
returns-in-Ok c = sym (ap (λ p. option_map (λ i. i + 1) p) (place_found c.args.rights.now c.args.right c.in-Ok.i c.args.right c.requires.rising c.in-Ok.ensures.bound (c.in-Ok.ensures.ok c.args.right)))

pub returns-in-Err : goal.returns-in-Err
returns-in-Err c =
    let point = c.in-Err.ensures.position (searchable c.args.rights.now c.args.right c.requires.rising) in
    sym (ap (λ p. option_map (λ i. i + 1) p) (place_none c.args.rights.now c.args.right c.in-Err.field-0 c.in-Err.ensures.bound point.0 point.1))
