-- What is claimed so far.
use Rattle.std.proofs.Common.{filter, filter_map, vec_capacity, vec_len}
use Rattle.auction_classes.specs.Claims.{is_claim, personal_claim}
use Rattle.auction_classes.proofs.ClaimsAdded.{AreAdded}
use Rattle.auction_classes.proofs.claims_found.add_personal.Given as goal

abbrev pub invariant-loop-seizure : goal.invariant-loop-seizure
invariant-loop-seizure l =
    AreAdded (λ xs. filter is_claim (filter_map (λ z. personal_claim z.basis) xs)) 1 l.seizures l.seizure-index l.fn.claims.items l.claims.items
    (vec_len l.fn.claims) (vec_len l.claims) (vec_capacity l.fn.claims) (vec_capacity l.claims)
