-- One more is read.
use Rattle.std.proofs.Common.{[], ◌∷◌, ◌++◌, take, sym, ap, ◌∙◌}
use Rattle.std.proofs.lemmas.List.{take_more}
use Rattle.auction_classes.specs.SaleClaims.{of_class_four}
use Rattle.auction_classes.proofs.ClaimsAdded.{of_class_four_goes_on, one_more_claims}
use Rattle.auction_classes.proofs.right_claims.write_right_claims.Goals as goal

pub loop-right-preserved : goal.loop-right-preserved
loop-right-preserved c =
    let xs = c.args.rights.now in
    let i = c.loop-right.right-index in
    let more = take_more xs i c.right-item.result c.loop-right-test.true ∙ ap (λ x. take i xs ++ x ∷ []) (sym c.right-item.is) in
    one_more_claims of_class_four 1 xs i c.right-item.result _ _ _ _ _ _ _ _ _
    of_class_four_goes_on more c.loop-right.invariant c.add_right_claimed.ensures.items c.add_right_claimed.ensures.few c.add_right_claimed.ensures.capacity
