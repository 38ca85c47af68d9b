-- One more is added.
use Rattle.std.proofs.Common.{[], ◌∷◌, ◌++◌, filter, filter_map, take, sym, ap, ◌∙◌}
use Rattle.std.proofs.lemmas.List.{take_more}
use Rattle.auction_classes.specs.Claims.{is_claim, personal_claim}
use Rattle.auction_classes.proofs.ClaimsAdded.{registered_go_on, one_more_claims}
use Rattle.auction_classes.proofs.claims_found.add_personal.Goals as goal

pub loop-seizure-preserved : goal.loop-seizure-preserved
loop-seizure-preserved c =
    let xs = c.args.seizures.now in
    let i = c.loop-seizure.seizure-index in
    let more = take_more xs i c.seizure-item.result c.loop-seizure-test.true ∙ ap (λ x. take i xs ++ x ∷ []) (sym c.seizure-item.is) in
    one_more_claims (λ ys. filter is_claim (filter_map (λ z. personal_claim z.basis) ys)) 1 xs i c.seizure-item.result _ _ _ _ _ _ _ _ _
    (registered_go_on ((λ z. personal_claim z.basis))) more c.loop-seizure.invariant c.add_personal_claim.ensures.claims c.add_personal_claim.ensures.few c.add_personal_claim.ensures.capacity
