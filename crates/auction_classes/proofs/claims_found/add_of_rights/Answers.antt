-- One more is added.
use Rattle.std.proofs.Common.{[], ◌∷◌, ◌++◌, filter, flat_map, take, sym, ap, ◌∙◌}
use Rattle.std.proofs.lemmas.List.{take_more}
use Rattle.auction_classes.specs.Claims.{claims_of_right, is_claim}
use Rattle.auction_classes.proofs.ClaimsAdded.{of_rights_go_on, one_more_claims}
use Rattle.auction_classes.proofs.claims_found.add_of_rights.Goals as goal

pub loop-right-preserved : goal.loop-right-preserved
loop-right-preserved c =
    let xs = c.args.rights.now in
    let i = c.loop-right.right-index in
    let more = take_more xs i c.right-item.result c.loop-right-test.true ∙ ap (λ x. take i xs ++ x ∷ []) (sym c.right-item.is) in
    one_more_claims (λ ys. filter is_claim (flat_map claims_of_right ys)) 4 xs i c.right-item.result _ _ _ _ _ _ _ _ _
    (of_rights_go_on (claims_of_right)) more c.loop-right.invariant c.add_of_right.ensures.claims c.add_of_right.ensures.few c.add_of_right.ensures.capacity
