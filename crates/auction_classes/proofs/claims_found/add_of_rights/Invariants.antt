-- What is claimed so far.
use Rattle.std.proofs.Common.{filter, flat_map, vec_capacity, vec_len}
use Rattle.auction_classes.specs.Claims.{claims_of_right, is_claim}
use Rattle.auction_classes.proofs.ClaimsAdded.{AreAdded}
use Rattle.auction_classes.proofs.claims_found.add_of_rights.Given as goal

abbrev pub invariant-loop-right : goal.invariant-loop-right
invariant-loop-right l =
    AreAdded (λ xs. filter is_claim (flat_map claims_of_right xs)) 4 l.rights l.right-index l.fn.claims.items l.claims.items
    (vec_len l.fn.claims) (vec_len l.claims) (vec_capacity l.fn.claims) (vec_capacity l.claims)
