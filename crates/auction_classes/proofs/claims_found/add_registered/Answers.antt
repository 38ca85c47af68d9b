-- One more is added.
use Rattle.std.proofs.Common.{[], ◌∷◌, ◌++◌, filter, filter_map, take, sym, ap, ◌∙◌}
use Rattle.std.proofs.lemmas.List.{take_more}
use Rattle.auction_classes.specs.Claims.{claim_registered, is_claim}
use Rattle.auction_classes.proofs.ClaimsAdded.{registered_go_on, one_more_claims}
use Rattle.auction_classes.proofs.claims_found.add_registered.Goals as goal

pub loop-registered-preserved : goal.loop-registered-preserved
loop-registered-preserved c =
    let xs = c.args.registrations.now in
    let i = c.loop-registered.registered-index in
    let more = take_more xs i c.registered-item.result c.loop-registered-test.true ∙ ap (λ x. take i xs ++ x ∷ []) (sym c.registered-item.is) in
    one_more_claims (λ ys. filter is_claim (filter_map (λ r. claim_registered c.args.year r.late r.what) ys)) 1 xs i c.registered-item.result _ _ _ _ _ _ _ _ _
    (registered_go_on ((λ r. claim_registered c.args.year r.late r.what))) more c.loop-registered.invariant c.add_claim_registered.ensures.claims c.add_claim_registered.ensures.few c.add_claim_registered.ensures.capacity
