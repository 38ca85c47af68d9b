-- What is claimed so far.
use Rattle.std.proofs.Common.{filter, filter_map, vec_capacity, vec_len}
use Rattle.auction_classes.specs.Claims.{claim_registered, is_claim}
use Rattle.auction_classes.proofs.ClaimsAdded.{AreAdded}
use Rattle.auction_classes.proofs.claims_found.add_registered.Given as goal

abbrev pub invariant-loop-registered : goal.invariant-loop-registered
invariant-loop-registered l =
    AreAdded (λ xs. filter is_claim (filter_map (λ r. claim_registered l.year r.late r.what) xs)) 1 l.registrations l.registered-index l.fn.claims.items l.claims.items
    (vec_len l.fn.claims) (vec_len l.claims) (vec_capacity l.fn.claims) (vec_capacity l.claims)
