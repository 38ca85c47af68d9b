-- The rights stand on the line.
use Rattle.std.proofs.Common.{All, false, map, sym, subst, ◌∙◌}
use Rattle.auction_classes.specs.PayableClaims.{claims_in}
use Rattle.auction_classes.specs.declared.claim_items.RightClaimed.{RightClaimed}
use Rattle.proceeds_split.specs.inner.RightsPaid.{IsOnLine}
use Rattle.proceeds_split.proofs.RightsSum.{all_on_line}
use Rattle.proceeds_split.proofs.rights_paid.pay_class_four.Goals as goal

pub pay_fours-requires-clause-on_line : goal.pay_fours-requires-clause-on_line
pay_fours-requires-clause-on_line c =
    subst (All (IsOnLine c.args.claims.now.claimed.line_four)) (sym (c.deref.ensures.0 ∙ c.claims_of-rights.ensures.value))
    (all_on_line c.args.claims.now.claimed.line_four (claims_in false 4 c.args.claims.now.claimed.items) (map (λ (x : RightClaimed). x.right) c.args.claims.now.claimed.rights) c.claims_of-rights.ensures.payable.four)
