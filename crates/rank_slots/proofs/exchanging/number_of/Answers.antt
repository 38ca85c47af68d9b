-- A right that stands alone has a place.
use Rattle.std.proofs.Common.{◌<◌, length, subst, sym}
use Rattle.rank_slots.specs.Groups.{is_of}
use Rattle.rank_slots.proofs.GroupMembers.{alone_listed}
use Rattle.rank_slots.proofs.PlaceNumbers.{first_within}
use Rattle.rank_slots.proofs.exchanging.number_of.Goals as goal

pub returns-clause-within : goal.returns-clause-within
returns-clause-within c =
    let places = c.args.places.now in
    subst (λ n. n < length places) (sym c.number_of.ensures.value) (first_within (is_of c.args.right) places (alone_listed places c.args.right c.requires.alone))
