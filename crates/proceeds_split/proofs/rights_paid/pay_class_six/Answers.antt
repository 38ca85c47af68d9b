-- The rights stand on the line.
use Rattle.std.proofs.Common.{All, false, sym, subst, ◌∙◌}
use Rattle.auction_classes.specs.PayableClaims.{claims_in}
use Rattle.proceeds_split.specs.inner.RightsPaid.{IsOnLine}
use Rattle.proceeds_split.proofs.RightsSum.{all_on_line}
use Rattle.proceeds_split.proofs.rights_paid.pay_class_six.Goals as goal

pub pay_sixes-requires-clause-on_line : goal.pay_sixes-requires-clause-on_line
pay_sixes-requires-clause-on_line c =
    subst (λ line. All (IsOnLine line) c.deref.result.now) (sym c.requires.filled)
    (subst (All (IsOnLine c.args.claims.now.claimed.line_six)) (sym (c.deref.ensures.0 ∙ c.claims_of-rights.ensures.value))
    (all_on_line c.args.claims.now.claimed.line_six (claims_in false 6 c.args.claims.now.claimed.items) c.claims_of-rights.ensures.payable.six.0 c.claims_of-rights.ensures.payable.six.1))
